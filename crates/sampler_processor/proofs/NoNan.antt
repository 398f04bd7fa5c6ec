-- No sample that a leg renders is a NaN, where the output held none before.
-- The idea: only segments write. Assumes nothing.
use Prim.Native.Nat.{ℕ, zero, suc, ◌-◌}
use mathlib.Core.Bool.{Bool, true, false}
use mathlib.Core.List.{List, [], ◌∷◌}
use lib.IntN.{ℤ}
use lib.Ieee.{Float}
use Rattle.sampler_voice.proofs.NoNan.{Numbers}
use Rattle.sampler_event.specs.declared.Event.{Event}
use Rattle.event_processor.specs.declared.Queue.{Queue}
use Rattle.event_processor.specs.Queue.{pending}
use Rattle.sampler_player.specs.declared.Setup.{Setup}
use Rattle.sampler_player.specs.Clock.{clock_at}
use Rattle.sampler_player.specs.Pieces.{Lent}
use Rattle.sampler_player.proofs.NoNan.{segment_numbers}
use Rattle.laws.specs.Rules.{first_broken}
use Rattle.sampler_processor.specs.declared.Leg.{Leg}
use Rattle.sampler_processor.specs.Numbers.{render_order}
use Rattle.sampler_processor.specs.Block.{Running, Ended, frame_of, opening, up_to, applied, is_taken, onward, block}
use Rattle.sampler_processor.specs.Calls.{rendered_by, render}

module _ (s : Setup) (b : Lent) (start : ℤ) where
  up_to_numbers : (f : ℕ) (r : Running) → Numbers r.out → Numbers (up_to s b start f r).out
  unfolding up_to
  up_to_numbers f r h =
      segment_numbers (clock_at s.rate) s b
      (record { player = r.player; out = r.out; at = r.done; remaining = f - r.done; pieces = r.pieces })
      h

  applied_numbers : (e : Event) (r : Running) → Numbers r.out → Numbers (applied s b start e r).out
  unfolding applied
  applied_numbers e r h = h

  onward_numbers : (go : Queue → Running → Ended) (e : Event) (q : Queue) (r : Running) (t : Bool)
      → ((p : Queue) (x : Running) → Numbers x.out → Numbers (go p x).running.out) → Numbers r.out
      → Numbers (onward s b start go e q r t).running.out
  onward_numbers go e q r true f h =
      let u = up_to s b start (frame_of s.rate start r.now e.time.bits) r in
      f _ (applied s b start e u) (applied_numbers e u (up_to_numbers (frame_of s.rate start r.now e.time.bits) r h))
  onward_numbers go e q r false f h = up_to_numbers b.block r h

  block_numbers : (es : List Event) (q : Queue) (r : Running) → Numbers r.out → Numbers (block s b start es q r).running.out
  unfolding block
  block_numbers [] q r h = up_to_numbers b.block r h
  block_numbers (e ∷ es) q r h = onward_numbers (λ p t. block s b start es p t) e q r (is_taken s b start e r) (block_numbers es) h

rendered_by_numbers : (n : ℕ) (l : Leg) (b : Lent) (out : List Float) (start : ℤ) → Numbers out → Numbers (rendered_by n l b out start).out
rendered_by_numbers zero l b out start h =
    block_numbers l.setup b start (pending l.queue) l.queue (opening l.player out start) h
rendered_by_numbers (suc n) l b out start h = h

pub render_numbers : (l : Leg) (b : Lent) (out : List Float) (start : ℤ) → Numbers out → Numbers (render l b out start).out
unfolding render
render_numbers l b out start h = rendered_by_numbers (first_broken (render_order l b out start)) l b out start h
