-- When a pass with a loop catches up: exactly while the loop's length times the completed loops is below `due`; and up to which number of loops.
-- The idea: position, start and loop points as natural numbers, from `kept`; then Catch. Assumes nothing.
use Prim.Native.Nat.{ℕ, zero, suc, ◌+◌, ◌*◌, ◌^◌, ◌≤◌, ◌<◌, min}
use native.Mathlib.Nat.{add-zero}
use native.Mathlib.Omega.{arith}
use mathlib.Core.Path.{◌≡◌, sym, ap, ◌∙◌, subst}
use mathlib.Core.Bool.{Bool, true, false, not}
use mathlib.Core.Option.{Option}
use borrow.Author.Tests.{eq-eqb, ne_eqb}
use lib.Dec.{T, eqb}
use lib.IntN.{ℤ, pos, nat_abs, ◌+ℤ◌, ◌-ℤ◌}
use lib.Signed.{lt_z}
use Rattle.laws.proofs.Minus.{Minus, above, below, parts, plus_minus, less_minus, nat_minus, minus_pos, lt_z_minus, nlt_z_minus}
use Rattle.timestamp.specs.declared.Timestamp.{Timestamp}
use Rattle.timestamp.specs.Time.{time_of, frame_near, loop_end}
use Rattle.timestamp.specs.Answer.{fitting}
use Rattle.sampler_event.proofs.UpTo.{UpTo, within_up}
use Rattle.sampler_player.specs.declared.Points.{Points}
use Rattle.sampler_player.specs.declared.Points.TheVariants.{Between}
use Rattle.sampler_player.specs.declared.Setup.{Setup}
use Rattle.sampler_player.specs.declared.Player.{Player}
use Rattle.sampler_player.specs.Clock.{clock_at}
use Rattle.sampler_player.specs.Pieces.{end_of, nearer, interval}
use Rattle.sampler_player.specs.Sound.{points_good}
use Rattle.sampler_player.specs.inner.Kept.{kept}
use Rattle.sampler_player.proofs.Assign.{counted}
use Rattle.sampler_player.proofs.Kept.{opened, closed, Loops, loops_opened, loops_closed, Stands, stands, Looped, looped}
use Rattle.sampler_player.proofs.Catch.{piece, catches, sounds}
use Rattle.sampler_player.specs.inner.Stroke.{half_frame, loop_length, due}

-- ---- the numbers of a player with a loop
pub record Looping (s : Setup) (x : ℕ) (from end : Timestamp) (p : Player) : Type 0 where
  pub loop : Looped s from end
  pub begun : UpTo (2 ^ 42) p.start.bits
  pub here : Stands x p.position.bits
  pub tests : Loops s p

pub looping : (s : Setup) (x : ℕ) (from end : Timestamp) (p : Player) → x ≤ 4096 → p.points ≡ Between from end → kept s x p ≡ true → Looping s x from end p
looping s x from end p l q k =
    let o = opened s x p k in
    let i = loops_opened s p o.loops in
    record {
      loop = looped s from end (subst (λ (y : Points). points_good s y ≡ true) q i.points);
      begun = within_up (2 ^ 42) p.start.bits i.start;
      here = stands x p.position.bits l o.position;
      tests = i;
    }

-- any sound number of loops may be completed
pub kept_counted : (s : Setup) (x c : ℕ) (p : Player) → c ≤ 2 ^ 27 → kept s x p ≡ true → kept s x (counted c p) ≡ true
kept_counted s x c p h k =
    let o = opened s x p k in
    let l = loops_opened s p o.loops in
    closed s x (counted c p)
    (record { active = o.active; voices = o.voices; position = o.position; loops = loops_closed s (counted c p) (record { few = h; start = l.start; points = l.points }) })

-- 63 frames are some units
long_some : (len R : ℕ) → 63 * 2 ^ 32 ≤ len * R → 0 < len
long_some zero R h = absurd (omega arith)
long_some (suc n) R h = omega arith

pub minus_none : (z : ℤ) (n : ℕ) → z ≡ pos n → Minus z n 0
minus_none z n e = subst (λ (y : ℤ). Minus y n 0) (sym e) (add-zero n)

module _ (s : Setup) (x : ℕ) (from end : Timestamp) (p : Player) (i : Looping s x from end p) where
  -- start, loop start and length
  abbrev st : ℕ
  st = nat_abs p.start.bits

  pub length_pos : end.bits -ℤ from.bits ≡ pos i.loop.len
  length_pos =
      minus_pos (end.bits -ℤ from.bits) (i.loop.len + i.loop.a + 0) (0 + i.loop.a) i.loop.len
      (less_minus end.bits from.bits (i.loop.len + i.loop.a) 0 i.loop.a 0 (minus_none end.bits (i.loop.len + i.loop.a) i.loop.finish) (minus_none from.bits i.loop.a i.loop.start))
      (omega arith)

  pub length_is : loop_length from end ≡ i.loop.len
  length_is = ap nat_abs length_pos

  pub some_length : 0 < loop_length from end
  some_length = subst (λ (n : ℕ). 0 < n) (sym length_is) (long_some i.loop.len s.rate i.loop.long)

  pub due_is : Minus (due s.rate end p) (above p.position.bits + st + half_frame s.rate) (below p.position.bits + (i.loop.len + i.loop.a) + 0)
  due_is =
      plus_minus (p.position.bits -ℤ (end.bits -ℤ p.start.bits)) (pos (half_frame s.rate)) (above p.position.bits + st) (below p.position.bits + (i.loop.len + i.loop.a)) (half_frame s.rate) 0
      (less_minus p.position.bits (end.bits -ℤ p.start.bits) (above p.position.bits) (below p.position.bits) (i.loop.len + i.loop.a) st (parts p.position.bits)
      (subst (λ (z : ℤ). Minus z (i.loop.len + i.loop.a) st) (sym (ap (λ (z : ℤ). z -ℤ p.start.bits) i.loop.finish ∙ ap (λ (z : ℤ). pos (i.loop.len + i.loop.a) -ℤ z) i.begun.is))
      (nat_minus (i.loop.len + i.loop.a) st)))
      (add-zero (half_frame s.rate))

  end_is : p.points ≡ Between from end
      → end_of (clock_at s.rate) s p p.points ≡ fitting (loop_end s.rate (pos (i.loop.len + i.loop.a) -ℤ pos st) (pos i.loop.len) p.completed)
  unfolding end_of
  end_is q =
      ap (λ (y : Points). end_of (clock_at s.rate) s p y) q
      ∙ ap (λ (z : ℤ). fitting (loop_end s.rate z (end.bits -ℤ from.bits) p.completed))
      (ap (λ (z : ℤ). z -ℤ p.start.bits) i.loop.finish ∙ ap (λ (z : ℤ). pos (i.loop.len + i.loop.a) -ℤ z) i.begun.is)
      ∙ ap (λ (z : ℤ). fitting (loop_end s.rate (pos (i.loop.len + i.loop.a) -ℤ pos st) z p.completed)) length_pos

  interval_is : (l : ℕ) → p.points ≡ Between from end
      → interval (clock_at s.rate) s p l ≡ piece s p.position.bits i.loop.a st i.loop.len p.completed l
  unfolding interval
  interval_is l q =
      ap (λ (o : Option ℤ). min (frame_near s.rate (nearer (clock_at s.rate) s (p.position.bits +ℤ time_of s.rate l) o -ℤ p.position.bits)) l) (end_is q)

  -- ---- exactly when
  module _ (lo : 8000 ≤ s.rate) (hi : s.rate ≤ 96000) (l : ℕ) (some_left : 0 < l) (few_left : l ≤ 4096) (q : p.points ≡ Between from end) where
    below_due : T (lt_z (pos (loop_length from end * p.completed)) (due s.rate end p)) → interval (clock_at s.rate) s p l ≡ 0
    below_due t =
        let h = lt_z_minus (pos (loop_length from end * p.completed)) (due s.rate end p) (loop_length from end * p.completed) 0 _ _ (add-zero (loop_length from end * p.completed)) due_is t in
        let e : loop_length from end * p.completed ≡ i.loop.len * p.completed = ap (λ (n : ℕ). n * p.completed) length_is in
        let k = i.here.high in
        interval_is l q
        ∙ catches s lo hi p.position.bits (above p.position.bits) (below p.position.bits) i.loop.a st i.loop.len p.completed l some_left few_left
        (parts p.position.bits) (omega arith) i.here.low i.begun.most i.loop.early i.tests.few (omega (arith, h, e))

    from_due : T (not (lt_z (pos (loop_length from end * p.completed)) (due s.rate end p))) → 0 < interval (clock_at s.rate) s p l
    from_due t =
        let h = nlt_z_minus (pos (loop_length from end * p.completed)) (due s.rate end p) (loop_length from end * p.completed) 0 _ _ (add-zero (loop_length from end * p.completed)) due_is t in
        let e : loop_length from end * p.completed ≡ i.loop.len * p.completed = ap (λ (n : ℕ). n * p.completed) length_is in
        let k = i.here.high in
        subst (λ (n : ℕ). 0 < n) (sym (interval_is l q))
        (sounds s lo hi p.position.bits (above p.position.bits) (below p.position.bits) i.loop.a st i.loop.len p.completed l some_left few_left
        (parts p.position.bits) (omega arith) i.here.low i.begun.most i.loop.early i.tests.few (omega (arith, h, e)))

    pub caught_when : eqb (interval (clock_at s.rate) s p l) 0 ≡ lt_z (pos (loop_length from end * p.completed)) (due s.rate end p)
    caught_when = go (lt_z (pos (loop_length from end * p.completed)) (due s.rate end p)) below_due from_due
      where
        go : (t : Bool) → (T t → interval (clock_at s.rate) s p l ≡ 0) → (T (not t) → 0 < interval (clock_at s.rate) s p l) → eqb (interval (clock_at s.rate) s p l) 0 ≡ t
        go true f g = eq-eqb (interval (clock_at s.rate) s p l) 0 (f tt)
        go false f g = ne_eqb (interval (clock_at s.rate) s p l) 0 (λ e. let z = g tt in omega (arith, e))
