-- A block of no frames takes no event, plays nothing and takes no time.
-- The idea: its first test is that frames remain, and T of no frames is 0, since it is within half a unit of it. Assumes nothing.
use mathlib.Core.Path.{◌≡◌, refl, ap, ◌∙◌}
use mathlib.Core.Bool.{◌&&◌}
use mathlib.Core.List.{List, [], ◌∷◌}
use Prim.Native.Nat.{ℕ, zero, suc, ◌*◌, ◌^◌, ◌≤◌}
use native.Mathlib.Omega.{arith}
use lib.Dec.{ltb}
use lib.IntN.{ℤ, pos, ◌+ℤ◌, +ℤ_idr}
use lib.Signed.{lt_z}
use lib.Ieee.{Float}
use lib.Ieee.Nearest.{closest}
use Rattle.laws.proofs.Near.{Near}
use Rattle.timestamp.specs.Time.{time_of}
use Rattle.timestamp.proofs.Time.{T-near}
use Rattle.sampler_event.specs.declared.Event.{Event}
use Rattle.event_processor.specs.declared.Queue.{Queue}
use Rattle.sampler_player.specs.declared.Setup.{Setup}
use Rattle.sampler_player.specs.declared.Player.{Player}
use Rattle.sampler_player.specs.Clock.{clock_at}
use Rattle.sampler_player.specs.Pieces.{Lent, Going}
use Rattle.sampler_processor.specs.Block.{Running, Ended, opening, block_end, up_to, onward, block}
use Rattle.sampler_processor.proofs.Segments.{segment_none}

pub T-none : (R : ℕ) → 8000 ≤ R → R ≤ 96000 → time_of R 0 ≡ pos 0
T-none R low high = let t = T-near R 0 (omega arith) (omega arith) (omega arith) in t.0 ∙ ap pos (none (closest (0 * 2 ^ 32) R) t.1)
  where
    none : (t : ℕ) → Near t (0 * 2 ^ 32) R → t ≡ 0
    none zero n = refl
    none (suc t) n = let a = n.0 in absurd (omega (arith, a))

abbrev ended : Running → Queue → Ended
ended r q = record { running = r; queue = q }

module _ (s : Setup) (b : Lent) (start : ℤ) (low : 8000 ≤ s.rate) (high : s.rate ≤ 96000) (no : b.block ≡ 0) where
  up_none : (p : Player) (out : List Float) → up_to s b start 0 (opening p out start) ≡ opening p out start
  unfolding up_to
  up_none p out =
      ap (λ (h : Going). record { player = h.player; out = h.out; done = 0; now = start +ℤ time_of s.rate 0; pieces = h.pieces })
      (segment_none (clock_at s.rate) s b (record { player = p; out = out; at = 0; remaining = 0; pieces = 0 }) refl)
      ∙ ap (λ (z : ℤ). opening p out z) (ap (λ (z : ℤ). start +ℤ z) (T-none s.rate low high) ∙ +ℤ_idr start)

  end_none : (q : Queue) (p : Player) (out : List Float) → ended (up_to s b start b.block (opening p out start)) q ≡ ended (opening p out start) q
  end_none q p out = ap (λ (r : Running). ended r q) (ap (λ (n : ℕ). up_to s b start n (opening p out start)) no ∙ up_none p out)

  pub no_frames : (l : List Event) (q : Queue) (p : Player) (out : List Float) → block s b start l q (opening p out start) ≡ ended (opening p out start) q
  unfolding block
  no_frames [] q p out = end_none q p out
  no_frames (e ∷ l) q p out =
      ap (λ (n : ℕ). onward s b start (λ w t. block s b start l w t) e q (opening p out start) (ltb 0 n && lt_z e.time.bits (block_end s b start))) no ∙ end_none q p out
