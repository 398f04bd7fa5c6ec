-- The one-stroke catch-up: the passes in a row that only catch up are one Assign at the loop's start, with all their loops completed; then a pass sounds.
-- The idea: Assign at one place twice is once, and an interval does not look at the voices. Assumes nothing.
use Prim.Native.Nat.{ℕ, zero, suc, ◌+◌, ◌-◌, ◌*◌, ◌^◌, ◌≤◌, ◌<◌, min}
use native.Mathlib.Nat.{add-zero, le_trans, le_of_lt}
use native.Mathlib.Omega.{arith}
use mathlib.Core.Path.{◌≡◌, refl, sym, ap, ◌∙◌, subst}
use mathlib.Core.Bool.{true, false}
use mathlib.Core.List.{List}
use mathlib.Core.Option.{Option, some}
use borrow.Author.Tests.{eqb-true, eqb-false}
use lib.Dec.{eqb}
use lib.IntN.{ℤ, pos, ◌+ℤ◌, ◌-ℤ◌}
use lib.Signed.{lt_z}
use Rattle.timestamp.specs.declared.Timestamp.{Timestamp}
use Rattle.sampler_voice.specs.declared.Voice.{Voice}
use Rattle.std.specs.Prelude.{Option as Maybe}
use Rattle.sampler_player.specs.declared.Points.{Points}
use Rattle.sampler_player.specs.declared.Points.TheVariants.{Absent, Between}
use Rattle.sampler_player.specs.declared.Setup.{Setup}
use Rattle.sampler_player.specs.declared.Player.{Player}
use Rattle.sampler_player.specs.Clock.{Clock, clock_at}
use Rattle.sampler_player.specs.Assign.{voiced, assign}
use Rattle.sampler_player.specs.Pieces.{Lent, Going, end_of, nearer, interval, loop_back, after, caught_up, pass_of, pass, passes}
use Rattle.sampler_player.specs.inner.Kept.{kept}
use Rattle.sampler_player.proofs.Assign.{counted, Apart, assign_leaves, assign_twice, assign_counted}
use Rattle.sampler_player.proofs.Passes.{going}
use Rattle.sampler_player.proofs.Due.{looping, kept_counted, caught_when}
use Rattle.sampler_player.specs.inner.Stroke.{loop_length, due, caught_to}
use Rattle.sampler_player.proofs.Target.{target_more, target_below, target_there, target_few}

-- ---- an interval looks at no voice
module _ (k : Clock) (s : Setup) where
  end_apart : (vs : List Voice) (a : Maybe ℕ) (p : Player) (y : Points) → end_of k s (voiced vs a p) y ≡ end_of k s p y
  unfolding end_of
  end_apart vs a p Absent = refl
  end_apart vs a p (Between from end) = refl

  interval_apart : (r : ℕ) → Apart (λ p. interval k s p r)
  unfolding interval
  interval_apart r vs a p =
      ap (λ (o : Option ℤ). min (k.near (nearer k s (p.position.bits +ℤ k.time r) o -ℤ p.position.bits)) r) (end_apart vs a p p.points)

  pub assign_interval : (u : ℤ) (p : Player) (r : ℕ) → interval k s (assign k u p) r ≡ interval k s p r
  assign_interval u p r = assign_leaves (λ q. interval k s q r) (interval_apart r) k u p

-- ---- passes that catch up, at any clock
one_on : (c j : ℕ) → c + 1 + j ≡ c + suc j
one_on c j = omega arith

module _ (k : Clock) (s : Setup) (b : Lent) (from end : Timestamp) (r : ℕ) where
  pub pass_caught : (g : Going) → g.remaining ≡ suc r → g.player.points ≡ Between from end → interval k s g.player (suc r) ≡ 0
      → pass k s b g.remaining g ≡ some (going (loop_back k s from g.player) g)
  unfolding pass pass_of caught_up
  pass_caught g e q h =
      ap (λ (n : ℕ). pass k s b n g) e ∙ ap (λ (n : ℕ). pass_of k s b n g) h ∙ ap (λ (y : Points). caught_up k s b y g) q

  more : (p : Player) → loop_back k s from (assign k from.bits p) ≡ assign k from.bits (counted (p.completed + 1) p)
  unfolding loop_back
  more p =
      ap (λ (c : ℕ). assign k from.bits (counted (c + 1) (assign k from.bits p))) (assign_leaves (λ q. q.completed) (λ vs a q. refl) k from.bits p)
      ∙ ap (assign k from.bits) (assign_counted k from.bits (p.completed + 1) p)
      ∙ assign_twice k from.bits (counted (p.completed + 1) p)

  -- n more, from a player that stands assigned
  many : (n : ℕ) (g : Going) (p : Player) → g.player ≡ assign k from.bits p → p.points ≡ Between from end → g.remaining ≡ suc r
      → ((j : ℕ) → j < n → interval k s (counted (p.completed + j) p) (suc r) ≡ 0)
      → passes k s b n g ≡ going (assign k from.bits (counted (p.completed + n) p)) g
  unfolding passes
  many zero g p e q l f = ap (λ (y : Player). going y g) (e ∙ ap (λ (c : ℕ). assign k from.bits (counted c p)) (sym (add-zero p.completed)))
  many (suc n) g p e q l f =
      let z : interval k s g.player (suc r) ≡ 0 =
      ap (λ (y : Player). interval k s y (suc r)) e ∙ assign_interval k s from.bits p (suc r)
      ∙ ap (λ (c : ℕ). interval k s (counted c p) (suc r)) (sym (add-zero p.completed)) ∙ f 0 (omega arith) in
      ap (after (λ x. passes k s b n x) g) (pass_caught g l (ap (λ (y : Player). y.points) e ∙ assign_leaves (λ y. y.points) (λ vs a y. refl) k from.bits p ∙ q) z)
      ∙ many n (going (loop_back k s from g.player) g) (counted (p.completed + 1) p) (ap (loop_back k s from) e ∙ more p) q l
      (λ j h. ap (λ (c : ℕ). interval k s (counted c p) (suc r)) (one_on p.completed j) ∙ f (suc j) (omega arith))
      ∙ ap (λ (c : ℕ). going (assign k from.bits (counted c p)) g) (one_on p.completed n)

  -- m in a row
  pub row : (m : ℕ) (g : Going) → 0 < m → g.player.points ≡ Between from end → g.remaining ≡ suc r
      → ((j : ℕ) → j < m → interval k s (counted (g.player.completed + j) g.player) (suc r) ≡ 0)
      → passes k s b m g ≡ going (assign k from.bits (counted (g.player.completed + m) g.player)) g
  unfolding passes loop_back
  row zero g h q l f = absurd (omega arith)
  row (suc n) g h q l f =
      ap (after (λ x. passes k s b n x) g)
      (pass_caught g l q (ap (λ (c : ℕ). interval k s (counted c g.player) (suc r)) (sym (add-zero g.player.completed)) ∙ f 0 (omega arith)))
      ∙ many n (going (loop_back k s from g.player) g) (counted (g.player.completed + 1) g.player) refl q l
      (λ j h. ap (λ (c : ℕ). interval k s (counted c g.player) (suc r)) (one_on g.player.completed j) ∙ f (suc j) (omega arith))
      ∙ ap (λ (c : ℕ). going (assign k from.bits (counted c g.player)) g) (one_on g.player.completed n)

-- ---- at a rate, under `kept`

-- the player after all of them
abbrev pub stroked : Setup → Timestamp → Timestamp → Player → Player
stroked s from end p = assign (clock_at s.rate) from.bits (counted (caught_to s.rate from end p) p)

module _ (s : Setup) (lo : 8000 ≤ s.rate) (hi : s.rate ≤ 96000) (x : ℕ) (few : x ≤ 4096) (from end : Timestamp) where
  -- a pass catches up exactly while the completed loops are below `due`
  pub catches_when : (p : Player) (l : ℕ) → kept s x p ≡ true → 0 < l → l ≤ x → p.points ≡ Between from end
      → eqb (interval (clock_at s.rate) s p l) 0 ≡ lt_z (pos (loop_length from end * p.completed)) (due s.rate end p)
  catches_when p l k a h q = caught_when s x from end p (looping s x from end p few q k) lo hi l a (le_trans h few) q

  pub stroke_few : (p : Player) → kept s x p ≡ true → p.points ≡ Between from end → lt_z (pos (loop_length from end * p.completed)) (due s.rate end p) ≡ true
      → caught_to s.rate from end p < 2 ^ 27
  stroke_few p k q t = target_few s lo hi x from end p (looping s x from end p few q k) t

  pub stroke_more : (p : Player) → kept s x p ≡ true → p.points ≡ Between from end → lt_z (pos (loop_length from end * p.completed)) (due s.rate end p) ≡ true
      → p.completed < caught_to s.rate from end p
  stroke_more p k q t = target_more s lo hi x from end p (looping s x from end p few q k) t

  pub stroke_sounds : (p : Player) (l : ℕ) → kept s x p ≡ true → 0 < l → l ≤ x → p.points ≡ Between from end
      → lt_z (pos (loop_length from end * p.completed)) (due s.rate end p) ≡ true
      → 0 < interval (clock_at s.rate) s (stroked s from end p) l
  stroke_sounds p l k a h q t =
      let c = caught_to s.rate from end p in
      let e : eqb (interval (clock_at s.rate) s (counted c p) l) 0 ≡ false =
      catches_when (counted c p) l (kept_counted s x c p (le_of_lt (stroke_few p k q t)) k) a h q ∙ target_there s lo hi x from end p (looping s x from end p few q k) t in
      subst (λ (n : ℕ). 0 < n) (sym (assign_interval (clock_at s.rate) s from.bits (counted c p) l)) (some_frames (interval (clock_at s.rate) s (counted c p) l) (eqb-false (interval (clock_at s.rate) s (counted c p) l) 0 e))
    where
      some_frames : (n : ℕ) → (n ≡ 0 → ⊥) → 0 < n
      some_frames zero f = absurd (f refl)
      some_frames (suc n) f = omega arith

  pub stroke : (b : Lent) (g : Going) → kept s x g.player ≡ true → 0 < g.remaining → g.remaining ≤ x → g.player.points ≡ Between from end
      → lt_z (pos (loop_length from end * g.player.completed)) (due s.rate end g.player) ≡ true
      → passes (clock_at s.rate) s b (caught_to s.rate from end g.player - g.player.completed) g ≡ going (stroked s from end g.player) g
  stroke b g k a h q t =
      let p = g.player in
      let c = caught_to s.rate from end p in
      let m : p.completed < c = stroke_more p k q t in
      let f = stroke_few p k q t in
      row (clock_at s.rate) s b from end (g.remaining - 1) (c - p.completed) g (omega arith) q (omega arith)
      (λ j i. below (g.remaining - 1) (p.completed + j) (omega arith) (omega arith))
      ∙ ap (λ (n : ℕ). going (assign (clock_at s.rate) from.bits (counted n p)) g) (omega arith)
    where
      below : (r j : ℕ) → g.remaining ≡ suc r → j < caught_to s.rate from end g.player → interval (clock_at s.rate) s (counted j g.player) (suc r) ≡ 0
      below r j e i =
          let p = g.player in
          let f = stroke_few p k q t in
          eqb-true (interval (clock_at s.rate) s (counted j p) (suc r)) 0
          (catches_when (counted j p) (suc r) (kept_counted s x j p (omega arith) k) (omega arith) (omega arith) q ∙ target_below s lo hi x from end p (looping s x from end p few q k) t j i)
