-- "One block". Definitions only.
use Rattle.std.specs.Prelude.{ℕ, ◌+◌, ◌-◌, Bool, true, false, ◌&&◌, List, [], ◌∷◌, ltb, ℤ, ◌+ℤ◌, ◌-ℤ◌, Float}
use Rattle.std.specs.Int.Signed.{lt_z}
use Rattle.timestamp.specs.Time.{time_of, frame_at, later}
use Rattle.sampler_event.specs.declared.Event.{Event}
use Rattle.event_processor.specs.declared.Queue.{Queue}
use Rattle.event_processor.specs.Queue.{without}
use Rattle.sampler_player.specs.declared.Setup.{Setup}
use Rattle.sampler_player.specs.declared.Player.{Player}
use Rattle.sampler_player.specs.Clock.{clock_at}
use Rattle.sampler_player.specs.Events.{apply}
use Rattle.sampler_player.specs.Pieces.{Lent, segment}

-- "Its frame is the floor of S(later of event time and current time, minus start)"
unfoldable pub frame_of : ℕ → ℤ → ℤ → ℤ → ℕ
frame_of R start now time = frame_at R (later time now -ℤ start)

-- where a block stands: what plays, the output, the frames rendered, the current time, the pieces so far
pub record Running : Type 0 where
  pub player : Player
  pub out : List Float
  pub done : ℕ
  pub now : ℤ
  pub pieces : ℕ

-- a block at its first frame
abbrev pub opening : Player → List Float → ℤ → Running
opening p out start = record { player = p; out = out; done = 0; now = start; pieces = 0 }

-- a block at its end, with the events that wait on
pub record Ended : Type 0 where
  pub running : Running
  pub queue : Queue

module _ (s : Setup) (b : Lent) (start : ℤ) where
  -- "The block ends at start + T(N)"
  abbrev pub block_end : ℤ
  block_end = start +ℤ time_of s.rate b.block

  -- "Frames up to it are rendered, current time grows by T of those frames"
  unfoldable pub up_to : ℕ → Running → Running
  up_to f r =
      let n = f - r.done in
      let g =
      segment (clock_at s.rate) s b
      (record { player = r.player; out = r.out; at = r.done; remaining = n; pieces = r.pieces }) in
      record {
        player = g.player;
        out = g.out;
        done = r.done + n;
        now = r.now +ℤ time_of s.rate n;
        pieces = g.pieces;
      }

  -- "then the event is applied"; "delay = current time − event time"
  unfoldable pub applied : Event → Running → Running
  applied e r =
      record {
        player = apply s.rate e.kind (r.now -ℤ e.time.bits) r.player;
        out = r.out;
        done = r.done;
        now = r.now;
        pieces = r.pieces;
      }

  -- one event further: the frames up to its own, then the event
  abbrev pub past : Event → Running → Running
  past e r = applied e (up_to (frame_of s.rate start r.now e.time.bits) r)

  -- "While frames remain, the first event with time below that end is taken"
  abbrev pub is_taken : Event → Running → Bool
  is_taken e r = ltb r.done b.block && lt_z e.time.bits block_end

  -- on with the rest of the queue, or the block's last frames
  abbrev pub onward : (Queue → Running → Ended) → Event → Queue → Running → Bool → Ended
  onward go e q r true = go (without q) (past e r)
  onward go e q r false = record { running = up_to b.block r; queue = q }

  -- the list is the events that wait in the queue, first to last
  unfoldable pub block : List Event → Queue → Running → Ended
  block [] q r = record { running = up_to b.block r; queue = q }
  block (e ∷ es) q r = onward (λ p t. block es p t) e q r (is_taken e r)
