-- "The pieces reported equal the number of such renderings"; the position after them is the sum of their T; and the output's next frame is their total further on.
-- The idea: a pass renders n frames, or none and then only catches up. Assumes nothing.
use Prim.Native.Nat.{ℕ, zero, suc, ◌+◌, ◌-◌, ◌^◌}
use native.Mathlib.Omega.{arith}
use mathlib.Core.Path.{◌≡◌, refl, ap, ◌∙◌, sym, subst}
use mathlib.Core.List.{List}
use mathlib.Core.Option.{Option, none, some}
use lib.IntN.{ℤ, ◌+ℤ◌}
use lib.ListN.{length}
use Rattle.timestamp.specs.declared.Timestamp.{Timestamp}
use Rattle.sampler_player.specs.declared.Setup.{Setup}
use Rattle.sampler_player.specs.Clock.{Clock}
use Rattle.sampler_player.specs.Pieces.{Lent, Going, after, and_then, piece_of, total, travel, rendered, pass, passes, segment, renderings}
use Rattle.sampler_player.proofs.Assign.{back_position}
use Rattle.sampler_player.proofs.Passes.{Each, each_pass}

-- a pass of n frames: none for a catch-up
onward_position : Clock → ℤ → ℕ → ℤ
onward_position k z zero = z
onward_position k z (suc n) = z +ℤ k.time (suc n)

onward_count : ℕ → ℕ
onward_count zero = 0
onward_count (suc n) = 1

record Moved (k : Clock) (g h : Going) : Type 0 where
  n : ℕ
  by : g.remaining - h.remaining ≡ n
  position : h.player.position.bits ≡ onward_position k g.player.position.bits n
  count : h.pieces ≡ g.pieces + onward_count n
  at : h.at ≡ g.at + n

-- ---- what some pieces give
travel_piece : (k : Clock) (z : ℤ) (n : ℕ) (ms : List ℕ) → travel k (onward_position k z n) ms ≡ travel k z (piece_of n ms)
unfolding onward_position
travel_piece k z zero ms = refl
travel_piece k z (suc n) ms = refl

count_piece : (p n : ℕ) (ms : List ℕ) → p + onward_count n + length ms ≡ p + length (piece_of n ms)
unfolding onward_count
count_piece p zero ms = omega arith
count_piece p (suc n) ms = omega arith

total_piece : (a n : ℕ) (ms : List ℕ) → a + n + total ms ≡ a + total (piece_of n ms)
total_piece a zero ms = omega arith
total_piece a (suc n) ms = omega arith

-- ---- what passes from g to h have rendered
pub record Traced (k : Clock) (g h : Going) (ms : List ℕ) : Type 0 where
  pub position : h.player.position.bits ≡ travel k g.player.position.bits ms
  pub count : h.pieces ≡ g.pieces + length ms
  pub at : h.at ≡ g.at + total ms

module _ (k : Clock) (s : Setup) (b : Lent) where
  ahead_pass : (g : Going) → Each (Moved k g) (pass k s b g.remaining g)
  unfolding rendered onward_position onward_count
  ahead_pass g =
      each_pass k s b g (Moved k g)
      (λ from end q h z. record { n = 0; by = omega arith; position = ap (λ (t : Timestamp). t.bits) (back_position k s from g.player); count = omega arith; at = omega arith })
      (λ i e h. record { n = suc i; by = omega arith; position = refl; count = refl; at = refl })

  on : (go : Going → Going) (tell : Going → List ℕ) → ((h : Going) → Traced k h (go h) (tell h)) → (g : Going) (o : Option Going) → Each (Moved k g) o
      → Traced k g (after go g o) (and_then tell g o)
  on go tell ih g none a = record { position = refl; count = omega arith; at = omega arith }
  on go tell ih g (some h) a =
      subst (λ (n : ℕ). Traced k g (go h) (piece_of n (tell h))) (sym a.by)
      (record {
        position = (ih h).position ∙ ap (λ (z : ℤ). travel k z (tell h)) a.position ∙ travel_piece k g.player.position.bits a.n (tell h);
        count = (ih h).count ∙ ap (λ (x : ℕ). x + length (tell h)) a.count ∙ count_piece g.pieces a.n (tell h);
        at = (ih h).at ∙ ap (λ (x : ℕ). x + total (tell h)) a.at ∙ total_piece g.at a.n (tell h);
      })

  pub traced : (f : ℕ) (g : Going) → Traced k g (passes k s b f g) (renderings k s b f g)
  unfolding passes renderings
  traced zero g = record { position = refl; count = omega arith; at = omega arith }
  traced (suc f) g =
      on (λ h. passes k s b f h) (λ h. renderings k s b f h) (traced f) g (pass k s b g.remaining g) (ahead_pass g)

  pub segment_traced : (g : Going) → Traced k g (segment k s b g) (renderings k s b (g.remaining + (2 ^ 27 + 1)) g)
  unfolding segment
  segment_traced g = traced (g.remaining + (2 ^ 27 + 1)) g
