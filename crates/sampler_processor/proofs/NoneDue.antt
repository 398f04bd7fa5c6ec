-- A block in which no event is due is one segment from its first frame to its last, and leaves the queue as it was.
-- The idea: the definition asks the first event alone, and its last step is that segment. Assumes nothing.
use mathlib.Core.Path.{◌≡◌, refl, sym, ap, ◌∙◌}
use mathlib.Core.Bool.{Bool, true, false, ◌&&◌, cond, false≢true}
use mathlib.Core.List.{List, [], ◌∷◌}
use Prim.Native.Nat.{ℕ}
use native.Mathlib.Nat.{sub-zero}
use lib.Dec.{ltb}
use lib.IntN.{ℤ}
use lib.Signed.{lt_z}
use lib.Ieee.{Float}
use Rattle.sampler_event.specs.declared.Event.{Event}
use Rattle.event_processor.specs.declared.Queue.{Queue}
use Rattle.std.specs.Prelude.{Option, None, Some}
use Rattle.event_processor.specs.Queue.{pending, first_before, is_due}
use Rattle.sampler_player.specs.declared.Setup.{Setup}
use Rattle.sampler_player.specs.Clock.{clock_at}
use Rattle.sampler_player.specs.Pieces.{Lent, segment}
use Rattle.sampler_player.specs.inner.Lending.{starting}
use Rattle.sampler_processor.specs.declared.Leg.{Leg}
use Rattle.sampler_processor.specs.Block.{Running, opening, block_end, up_to, onward, block}
use Rattle.sampler_processor.specs.Calls.{rendered_to, rendered_by}
use Rattle.sampler_processor.specs.inner.Stands.{rendered_on}

pub none_due : (s : Setup) (b : Lent) (start : ℤ) (l : List Event) (q : Queue) (r : Running) → first_before (block_end s b start) l ≡ None
    → block s b start l q r ≡ record { running = up_to s b start b.block r; queue = q }
unfolding block
none_due s b start [] q r f = refl
none_due s b start (x ∷ xs) q r f = go (ltb r.done b.block) (lt_z x.time.bits (block_end s b start)) f
  where
    go : (z y : Bool) → cond y (Some x) None ≡ None
        → onward s b start (λ w t. block s b start xs w t) x q r (z && y) ≡ record { running = up_to s b start b.block r; queue = q }
    go z true g = cc
    go true false g = refl
    go false false g = refl

nothing : (f : Option Event) → is_due f ≡ false → f ≡ None
nothing None h = refl
nothing (Some e) h = absurd (false≢true (sym h))

-- what such a block answers
pub rendered_on_lem : (l : Leg) (b : Lent) (out : List Float) (start : ℤ) → is_due (first_before (block_end l.setup b start) (pending l.queue)) ≡ false
    → rendered_on l (segment (clock_at l.setup.rate) l.setup b (starting l.player out 0 b.block)) ≡ rendered_by 0 l b out start
unfolding up_to
rendered_on_lem l b out start h =
    ap (λ (n : ℕ). rendered_on l (segment (clock_at l.setup.rate) l.setup b (starting l.player out 0 n))) (sym (sub-zero b.block))
    ∙ ap (rendered_to l.setup)
    (sym (none_due l.setup b start (pending l.queue) l.queue (opening l.player out start) (nothing (first_before (block_end l.setup b start) (pending l.queue)) h)))
