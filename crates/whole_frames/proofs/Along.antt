-- Between two events of a block: those that wait are in order, at most 16, and the next segment goes to a frame of the block.
-- The idea: `Stands` of sampler_processor's Events goes from each event to the next. Assumes nothing.
use Prim.Native.Nat.{ℕ, suc, ◌+◌, ◌-◌, ◌*◌, ◌/◌, ◌^◌, ◌≤◌, ◌<◌}
use native.Mathlib.Nat.{le_refl, le_of_lt}
use native.Mathlib.Omega.{arith}
use mathlib.Core.Path.{◌≡◌, refl, sym, subst}
use mathlib.Core.Bool.{Bool, true, false, cond, and-eq-true_iff}
use mathlib.Core.List.{List, [], ◌∷◌}
use borrow.Author.Tests.{ltb-true}
use lib.Dec.{ltb}
use lib.IntN.{pos}
use lib.ListN.{length}
use lib.Signed.{lt_z}
use lib.Ieee.{Float}
use Rattle.sampler_event.specs.declared.Event.{Event}
use Rattle.sampler_player.specs.declared.Setup.{Setup}
use Rattle.sampler_player.specs.declared.Player.{Player}
use Rattle.sampler_player.specs.Pieces.{Lent}
use Rattle.sampler_processor.specs.Block.{Running, frame_of, block_end, up_to, applied, is_taken}
use Rattle.event_processor.proofs.Ordered.{Ordered}
use Rattle.sampler_processor.proofs.Events.{Stands, below_end, frame_is, frame_ahead, stands_next, stands_first}
use Rattle.whole_frames.specs.Run.{next_stop, past}

module _ (s : Setup) (b : Lent) (s0 : ℕ) (low : 8000 ≤ s.rate) (high : s.rate ≤ 96000) (few_frames : b.block ≤ 4096) where
  -- ---- between two events: k are applied, the last at lo
  pub record Along (lo k : ℕ) (es : List Event) (r : Running) : Type 0 where
    pub ordered : Ordered lo es
    pub few : k + length es ≤ 16
    pub stands : (some_frames : 0 < b.block) → Stands s b s0 low high some_frames few_frames lo k r

  pub along_first : (p : Player) (out : List Float) (es : List Event) → Ordered 0 es → length es ≤ 16 → Along 0 0 es (record { player = p; out = out; done = 0; now = pos s0; pieces = 0 })
  along_first p out es o h = record { ordered = o; few = omega arith; stands = λ z. stands_first s b s0 low high z few_frames p out 0 }

  module _ (lo k : ℕ) (e : Event) (es : List Event) (r : Running) (a : Along lo k (e ∷ es) r) (t : is_taken s b (pos s0) e r ≡ true) where
    both : (ltb r.done b.block ≡ true) × (lt_z e.time.bits (block_end s b (pos s0)) ≡ true)
    both = (and-eq-true_iff (ltb r.done b.block) (lt_z e.time.bits (block_end s b (pos s0)))).0 t

    some_frames : 0 < b.block
    some_frames = let h = ltb-true r.done b.block both.0 in omega (arith, h)

    at : ℕ
    at = a.ordered.0

    below : at - s0 < (Rattle.sampler_processor.proofs.Events.end_is s b s0 low high some_frames few_frames).0
    unfolding at
    below = below_end s b s0 low high some_frames few_frames e at a.ordered.1 both.1

    frame_at : frame_of s.rate (pos s0) r.now e.time.bits ≡ (at - s0) * s.rate / 2 ^ 32
    unfolding at
    frame_at =
        frame_is s b s0 low high some_frames few_frames e at lo k r a.ordered.1 a.ordered.2 below (omega (arith, a.few)) (a.stands some_frames)

    pub frame_inside : frame_of s.rate (pos s0) r.now e.time.bits ≤ b.block
    unfolding at
    frame_inside =
        subst (λ (f : ℕ). f ≤ b.block) (sym frame_at) (le_of_lt (frame_ahead s b s0 low high some_frames few_frames at lo k r a.ordered.2 below (a.stands some_frames)).1)

    pub along_next : Along a.ordered.0 (suc k) es (past s b (pos s0) e r)
    unfolding at
    along_next =
        record {
          ordered = a.ordered.3;
          few = let h = a.few in omega (arith, h);
          stands = λ z.
              subst (λ (f : ℕ). Stands s b s0 low high z few_frames at (suc k) (applied s b (pos s0) e (up_to s b (pos s0) f r))) (sym frame_at)
              (stands_next s b s0 low high z few_frames e at lo k r a.ordered.2 (below_end s b s0 low high z few_frames e at a.ordered.1 both.1) (a.stands z));
        }

  pub stop_inside : (lo k : ℕ) (es : List Event) (r : Running) → Along lo k es r → next_stop s b (pos s0) es r ≤ b.block
  stop_inside lo k [] r a = le_refl _
  stop_inside lo k (e ∷ es) r a = go (is_taken s b (pos s0) e r) (frame_inside lo k e es r a)
    where
      go : (x : Bool) → (x ≡ true → frame_of s.rate (pos s0) r.now e.time.bits ≤ b.block) → cond x (frame_of s.rate (pos s0) r.now e.time.bits) b.block ≤ b.block
      go true h = h refl
      go false h = le_refl _
