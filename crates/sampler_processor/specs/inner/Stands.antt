-- A block's state in the code as the definition has it. Definitions only.
use Rattle.std.specs.Prelude.{ℕ, ◌*◌, ◌-◌, ◌^◌, ◌≤◌, ◌≡◌, true, false, List, T, length, Float, ℤ, pos, neg_ℤ, ◌-ℤ◌}
use Rattle.laws.specs.Rules.{within}
use Rattle.sampler_event.specs.declared.Event.{Event}
use Rattle.sampler_event.specs.Limits.{positions_bad}
use Rattle.sampler_player.specs.declared.Setup.{Setup}
use Rattle.sampler_player.specs.Events.{apply}
use Rattle.sampler_player.specs.Pieces.{Lent, Going}
use Rattle.sampler_player.specs.inner.Kept.{kept}
use Rattle.sampler_processor.specs.declared.Leg.{Leg}
use Rattle.sampler_processor.specs.declared.block.Stand.{Stand}
use Rattle.sampler_processor.specs.declared.block.BlockEnd.{BlockEnd}
use Rattle.sampler_processor.specs.Block.{Running, Ended, frame_of, up_to}
use Rattle.sampler_processor.specs.Calls.{Rendered}

-- what numbers 1 to 5 leave of a leg's sizes and of what it is lent, but for the output's length
pub record Lends (s : Setup) (b : Lent) : Type 0 where
  pub slow : 8000 ≤ s.rate
  pub fast : s.rate ≤ 96000
  pub one : 1 ≤ s.channels
  pub two : s.channels ≤ 2
  pub short : s.frames ≤ 4194304
  pub one_out : 1 ≤ b.channels
  pub two_out : b.channels ≤ 2
  pub block : b.block ≤ 4096
  pub recording : length b.recording ≡ s.channels * s.frames
  pub table : length b.table ≡ s.fade

abbrev pub running : Stand → List Float → Running
running a out = record { player = a.player; out = out; done = a.done; now = a.now.bits; pieces = a.pieces }

-- a leg whose block was one segment, and left the queue as it was
abbrev pub rendered_on : Leg → Going → Rendered
rendered_on l g = record { answer = record { number = 0; leg = record { setup = l.setup; player = g.player; queue = l.queue }; pieces = g.pieces }; out = g.out }

-- an event applied where the block stands
abbrev pub applied_to : ℕ → Event → Stand → Stand
applied_to R e a = record { player = apply R e.kind (a.now.bits -ℤ e.time.bits) a.player; done = a.done; now = a.now; pieces = a.pieces }

-- what an event that is due finds: times in reach, what plays within its limits, its frame ahead and inside the block, and a delay that `apply` takes
pub record Reaches (s : Setup) (b : Lent) (start : ℤ) (e : Event) (r : Running) : Type 0 where
  pub from : T (within (pos 0) (pos (2 ^ 49)) start)
  pub now : T (within (pos 0) (pos (2 ^ 49)) r.now)
  pub time : T (within (pos 0) (pos (2 ^ 49)) e.time.bits)
  pub limits : kept s (b.block - r.done) r.player ≡ true
  pub pieces : r.pieces ≤ 2 ^ 32
  pub places : positions_bad e.kind ≡ false
  pub ahead : r.done ≤ frame_of s.rate start r.now e.time.bits
  pub inside : frame_of s.rate start r.now e.time.bits ≤ b.block
  pub delay : T (within (neg_ℤ (pos (2 ^ 20))) (pos (2 ^ 49)) ((up_to s b start (frame_of s.rate start r.now e.time.bits) r).now -ℤ e.time.bits))

-- a block at its end: what plays, the queue, the pieces and the output; where the block stands then is no one's business
pub record Left : Type 0 where
  pub end : BlockEnd
  pub out : List Float

abbrev pub left_of : Ended → Left
left_of e = record { end = record { player = e.running.player; queue = e.queue; pieces = e.running.pieces }; out = e.running.out }
