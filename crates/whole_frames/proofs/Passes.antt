-- Passes in time and in whole frames, beside each other: with the same fuel they render the same pieces and come to the same voices and output.
-- The idea: pass by pass (Same), the budget at the end covering each before it. Assumes nothing.
use mathlib.Core.Path.{◌≡◌, refl, sym, ap, subst}
use Prim.Native.Nat.{ℕ, zero, suc, ◌+◌, ◌-◌, ◌≤◌}
use native.Mathlib.Nat.{add-zero}
use native.Mathlib.Omega.{arith}
use mathlib.Core.List.{List, []}
use mathlib.Core.Option.{Option, none, some}
use lib.ListN.{length}
use Rattle.sampler_player.specs.declared.Setup.{Setup}
use Rattle.sampler_player.specs.Clock.{clock_at, whole_frames}
use Rattle.sampler_player.specs.Pieces.{Lent, Going, after, and_then, piece_of, pass, passes, renderings}
use Rattle.whole_frames.specs.Whole.{Loop, Budget}
use Rattle.whole_frames.proofs.Lasting.{lasting}
use Rattle.whole_frames.proofs.Same.{beside, Stands, Next, next_pass, budget_before}

module _ (s : Setup) (b : Lent) (f : ℕ) (q : Loop) (low : 8000 ≤ s.rate) (high : s.rate ≤ 96000) (short : s.frames ≤ 4194304) where
  -- where the passes have come to
  pub record Ends (k : ℕ) (g : Going) (ms : List ℕ) (w : Going) (ws : List ℕ) : Type 0 where
    pub to : ℕ
    pub whole : w ≡ beside s b f q low high short to g
    pub pieces : ws ≡ ms
    pub stands : Stands s b f q low high short (k + length ms) to g

  abbrev Agree : ℕ → Type 0
  Agree n =
      (k x : ℕ) (g : Going) → Stands s b f q low high short k x g → Budget s.rate (k + length (renderings (clock_at s.rate) s b n g)) (passes (clock_at s.rate) s b n g).player.completed
      → Ends k (passes (clock_at s.rate) s b n g) (renderings (clock_at s.rate) s b n g) (passes whole_frames s b n (beside s b f q low high short x g)) (renderings whole_frames s b n (beside s b f q low high short x g))

  stay : (k x : ℕ) (g : Going) → Stands s b f q low high short k x g → Ends k g [] (beside s b f q low high short x g) []
  stay k x g i = record { to = x; whole = refl; pieces = refl; stands = subst (λ (y : ℕ). Stands s b f q low high short y x g) (sym (add-zero k)) i }

  longer : (k d : ℕ) (ms : List ℕ) → k + length (piece_of d []) + length ms ≡ k + length (piece_of d ms)
  longer k zero ms = omega arith
  longer k (suc d) ms = omega arith

  on : (n k x : ℕ) (g : Going) (o w : Option Going) → Agree n → Stands s b f q low high short k x g → Next s b f q low high short k x g o w
      → Budget s.rate (k + length (and_then (λ h. renderings (clock_at s.rate) s b n h) g o)) (after (λ h. passes (clock_at s.rate) s b n h) g o).player.completed
      → Ends k (after (λ h. passes (clock_at s.rate) s b n h) g o) (and_then (λ h. renderings (clock_at s.rate) s b n h) g o)
      (after (λ h. passes whole_frames s b n h) (beside s b f q low high short x g) w) (and_then (λ h. renderings whole_frames s b n h) (beside s b f q low high short x g) w)
  on n k x g none w ih i t u =
      subst (λ (w : Option Going). Ends k g [] (after (λ h. passes whole_frames s b n h) (beside s b f q low high short x g) w) (and_then (λ h. renderings whole_frames s b n h) (beside s b f q low high short x g) w)) (sym t) (stay k x g i)
  on n k x g (some h) w ih i t u =
      let ms = renderings (clock_at s.rate) s b n h in
      let d = g.remaining - h.remaining in
      let e = ih (k + length (piece_of d [])) t.to h t.stands (subst (λ (y : ℕ). Budget s.rate y (passes (clock_at s.rate) s b n h).player.completed) (sym (longer k d ms)) u) in
      subst (λ (w : Option Going). Ends k (passes (clock_at s.rate) s b n h) (piece_of d ms) (after (λ h. passes whole_frames s b n h) (beside s b f q low high short x g) w) (and_then (λ h. renderings whole_frames s b n h) (beside s b f q low high short x g) w)) (sym t.whole)
      (record {
        to = e.to;
        whole = e.whole;
        pieces = ap (piece_of d) e.pieces;
        stands = subst (λ (y : ℕ). Stands s b f q low high short y e.to (passes (clock_at s.rate) s b n h)) (longer k d ms) e.stands;
      })

  pub passes_same : (n : ℕ) → Agree n
  unfolding passes renderings
  passes_same zero k x g i u = stay k x g i
  passes_same (suc n) k x g i u =
      let t = lasting (clock_at s.rate) s b (suc n) g in
      on n k x g (pass (clock_at s.rate) s b g.remaining g) (pass whole_frames s b g.remaining (beside s b f q low high short x g)) (passes_same n) i
      (next_pass s b f q low high short g.remaining k x g refl i
      (budget_before s.rate k g.player.completed (k + length (renderings (clock_at s.rate) s b (suc n) g)) (passes (clock_at s.rate) s b (suc n) g).player.completed (omega arith) t.completed u)) u
