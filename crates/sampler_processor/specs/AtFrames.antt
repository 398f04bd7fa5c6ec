-- "in a block of 1 frame or more, every event with time below the end is applied, at floor((time−start)·R/2^32), or at 0 if late": said of a render, by whole numbers alone.
-- `AtFrames` is what is proved of every render that is not refused (proofs/AtFrames). Definitions only.
use Rattle.std.specs.Prelude.{ℕ, ◌+◌, ◌*◌, ◌/◌, ◌^◌, ◌≡◌, Bool, true, ◌&&◌, cond, List, [], ◌∷◌, ℤ, pos, negsuc, neg_ℤ, ◌-ℤ◌, ◌*ℤ◌, length, Float}
use Rattle.std.specs.Int.Signed.{lt_z}
use Rattle.sampler_event.specs.declared.Event.{Event}
use Rattle.event_processor.specs.declared.Queue.{Queue}
use Rattle.event_processor.specs.Queue.{pending, without}
use Rattle.sampler_player.specs.declared.Setup.{Setup}
use Rattle.sampler_player.specs.Pieces.{Lent}
use Rattle.sampler_processor.specs.declared.Leg.{Leg}
use Rattle.sampler_processor.specs.Block.{Running, Ended, opening, block_end, up_to, applied}
use Rattle.sampler_processor.specs.Calls.{rendered_to, render}

-- ---- which events

-- those "with time below the end", and the others
abbrev pub below : ℤ → List Event → List Event
below end [] = []
below end (e ∷ es) = cond (lt_z e.time.bits end) (e ∷ below end es) (below end es)

abbrev pub not_below : ℤ → List Event → List Event
not_below end [] = []
not_below end (e ∷ es) = cond (lt_z e.time.bits end) (not_below end es) (e ∷ not_below end es)

-- the queue with each of these taken
abbrev pub without_each : List Event → Queue → Queue
without_each [] q = q
without_each (e ∷ es) q = without_each es (without q)

-- ---- at which frame

-- "at floor((time−start)·R/2^32), or at 0 if late", of time−start
abbrev pub exact_frame : ℕ → ℤ → ℕ
exact_frame R (pos units) = units * R / 2 ^ 32
exact_frame R (negsuc n) = 0

module _ (s : Setup) (b : Lent) (start : ℤ) where
  -- the frames up to the event's own
  abbrev pub to_frame : Event → Running → Running
  to_frame e r = up_to s b start (exact_frame s.rate (e.time.bits -ℤ start)) r

  -- each event at its frame, first to last
  abbrev pub applied_each : List Event → Running → Running
  applied_each [] r = r
  applied_each (e ∷ es) r = applied_each es (applied s b start e (to_frame e r))

  -- "delay = current time − event time", of each of them
  abbrev pub delays : List Event → Running → List ℤ
  delays [] r = []
  delays (e ∷ es) r = ((to_frame e r).now -ℤ e.time.bits) ∷ delays es (applied s b start e (to_frame e r))

-- "which may be negative by less than a frame plus 8 units": a frame is 2^32/R units, so both sides are R times as large
abbrev pub frame_and8 : ℕ → ℕ
frame_and8 R = 2 ^ 32 + 8 * R

abbrev pub delay_above : ℕ → ℤ → Bool
delay_above R delay = lt_z (neg_ℤ (pos (frame_and8 R))) (delay *ℤ pos R)

abbrev pub delays_above : ℕ → List ℤ → Bool
delays_above R [] = true
delays_above R (d ∷ ds) = delay_above R d && delays_above R ds

-- ---- of a render

module _ (l : Leg) (b : Lent) (out : List Float) (start : ℤ) where
  -- the events that it applies
  abbrev pub due : List Event
  due = below (block_end l.setup b start) (pending l.queue)

  -- the events at their frames, then the frames that are left
  abbrev pub through_due : Ended
  through_due =
      record {
        running = up_to l.setup b start b.block (applied_each l.setup b start due (opening l.player out start));
        queue = without_each due l.queue;
      }

  -- it answers that; the events that are not below the end wait on, in a queue of 16 places; and each event's delay, so each Start's, is above minus a frame and 8 units
  pub record AtFrames : Type 0 where
    pub answer : render l b out start ≡ rendered_to l.setup through_due
    pub others : length l.queue.events ≡ 16 → pending (render l b out start).answer.leg.queue ≡ not_below (block_end l.setup b start) (pending l.queue)
    pub delay : delays_above l.setup.rate (delays l.setup b start due (opening l.player out start)) ≡ true
