-- "Pieces": the end E, the interval, a pass, and the passes of a segment, at any clock. Definitions only.
use Prim.Native.Nat.{ℕ, zero, suc, ◌+◌, ◌-◌, ◌^◌, min}
use Rattle.std.specs.Prelude.{List, [], ◌∷◌, ℤ, ◌+ℤ◌, ◌-ℤ◌, Float}
use Rattle.std.proofs.Math.Option.{Option, none, some}
use Rattle.timestamp.specs.declared.Timestamp.{Timestamp}
use Rattle.sampler_voice.specs.declared.Channels.{Channels}
use Rattle.sampler_voice.specs.declared.Voice.{Voice}
use Rattle.sampler_voice.specs.Voices.{mix}
use Rattle.sampler_player.specs.declared.Lent.{Lent as Borrowed}
use Rattle.sampler_player.specs.declared.Points.{Points}
use Rattle.sampler_player.specs.declared.Points.TheVariants.{Absent, Between}
use Rattle.sampler_player.specs.declared.Setup.{Setup}
use Rattle.sampler_player.specs.declared.Player.{Player}
use Rattle.timestamp.specs.Time.{earlier}
use Rattle.sampler_player.specs.Clock.{Clock}
use Rattle.sampler_player.specs.Assign.{assign}

-- what a render is lent: recording, fade table, how many channels the output has, and how many frames the block has
pub record Lent : Type 0 where
  pub recording : List Float
  pub table : List Float
  pub channels : ℕ
  pub block : ℕ

abbrev pub lending : List Float → List Float → ℕ → ℕ → Lent
lending rec table channels block = record { recording = rec; table = table; channels = channels; block = block }

-- the same of the code's value, which borrows the recording and the table
abbrev pub lent_by : Borrowed → Lent
lent_by b = lending b.recording.now b.table.now b.channels b.block

-- how many channels the recording has, and the output
abbrev pub sides : Setup → Lent → Channels
sides s b = record { recording = s.channels; output = b.channels }

module _ (k : Clock) (s : Setup) where
  -- "End E without loop: T(recording frames). With loop: .."
  unfoldable pub end_of : Player → Points → Option ℤ
  end_of p Absent = some (k.time s.frames)
  end_of p (Between from end) = k.ending from.bits end.bits p.start.bits p.completed

  -- "smaller of position + T(remaining) and E"
  abbrev pub nearer : ℤ → Option ℤ → ℤ
  nearer t none = t
  nearer t (some e) = earlier t e

  -- "Interval = round S(smaller of position + T(remaining) and E, minus position), at most remaining"
  unfoldable pub interval : Player → ℕ → ℕ
  unfolding end_of
  interval p remaining =
      min (k.near (nearer (p.position.bits +ℤ k.time remaining) (end_of p p.points) -ℤ p.position.bits)) remaining

  -- "completed + 1, assign at loop start"
  unfoldable pub loop_back : Timestamp → Player → Player
  loop_back from p =
      assign k from.bits
      (record {
        voices = p.voices;
        active = p.active;
        points = p.points;
        position = p.position;
        start = p.start;
        completed = p.completed + 1;
      })

  -- "position += T(piece)"
  abbrev pub advanced : ℕ → List Voice → Player → Player
  advanced n vs p =
      record {
        voices = vs;
        active = p.active;
        points = p.points;
        position = record { bits = p.position.bits +ℤ k.time n };
        start = p.start;
        completed = p.completed;
      }

-- where a segment stands: what plays, the output, the output's next frame, the frames that remain, the pieces so far
pub record Going : Type 0 where
  pub player : Player
  pub out : List Float
  pub at : ℕ
  pub remaining : ℕ
  pub pieces : ℕ

-- what a segment leaves: what plays, the output, the pieces
pub record Segment : Type 0 where
  pub player : Player
  pub out : List Float
  pub pieces : ℕ

abbrev pub left_by : Going → Segment
left_by g = record { player = g.player; out = g.out; pieces = g.pieces }

-- on with the next state, or the segment's end here
abbrev pub after : (Going → Going) → Going → Option Going → Going
after go g none = g
after go g (some h) = go h

-- the frames of some pieces together, and a position after them: summed T, not T of the sum
abbrev pub total : List ℕ → ℕ
total [] = 0
total (m ∷ ms) = m + total ms

abbrev pub travel : Clock → ℤ → List ℕ → ℤ
travel k z [] = z
travel k z (m ∷ ms) = travel k (z +ℤ k.time m) ms

abbrev pub piece_of : ℕ → List ℕ → List ℕ
piece_of zero ms = ms
piece_of (suc n) ms = suc n ∷ ms

abbrev pub and_then : (Going → List ℕ) → Going → Option Going → List ℕ
and_then go g none = []
and_then go g (some h) = piece_of (g.remaining - h.remaining) (go h)

-- a pass that renders no frame only catches up: one more of those
abbrev pub idle_of : ℕ → ℕ → ℕ
idle_of zero c = suc c
idle_of (suc n) c = c

abbrev pub count_then : (Going → ℕ) → Going → Option Going → ℕ
count_then go g none = 0
count_then go g (some h) = idle_of (g.remaining - h.remaining) (go h)

module _ (k : Clock) (s : Setup) (b : Lent) where
  -- "Otherwise render, position += T(piece), pieces + 1"
  unfoldable pub rendered : ℕ → Going → Going
  rendered n g =
      let m = mix b.recording s.frames b.table b.block (sides s b) g.at n g.player.voices g.out in
      record {
        player = advanced k s n m.voices g.player;
        out = m.out;
        at = g.at + n;
        remaining = g.remaining - n;
        pieces = g.pieces + 1;
      }

  -- "0 with a loop: completed + 1, assign at loop start. 0 without: the segment ends, voices and position stay as they are"
  unfoldable pub caught_up : Points → Going → Option Going
  caught_up Absent g = none
  caught_up (Between from end) g =
      some
      (record { player = loop_back k s from g.player; out = g.out; at = g.at; remaining = g.remaining; pieces = g.pieces })

  -- a pass whose interval is n
  unfoldable pub pass_of : ℕ → Going → Option Going
  pass_of zero g = caught_up g.player.points g
  pass_of (suc n) g = some (rendered (suc n) g)

  -- one pass while frames remain; none: the segment ends
  unfoldable pub pass : ℕ → Going → Option Going
  pass zero g = none
  pass (suc r) g = pass_of (interval k s g.player (suc r)) g

  -- pass after pass, at most this many
  unfoldable pub passes : ℕ → Going → Going
  passes zero g = g
  passes (suc f) g = after (λ h. passes f h) g (pass g.remaining g)

  -- A segment. Each pass renders one frame or more, or catches up, and those "stay below 2^27" (`catch_ups`, proofs/CatchUps): the bound never ends it (proofs/Enough)
  unfoldable pub segment : Going → Going
  segment g = passes (g.remaining + (2 ^ 27 + 1)) g

  -- the frames of each piece that a segment renders, first to last: what demand 3 speaks of
  unfoldable pub renderings : ℕ → Going → List ℕ
  renderings zero g = []
  renderings (suc f) g = and_then (λ h. renderings f h) g (pass g.remaining g)

  -- how many passes render nothing: "Passes that only catch up stay below 2^27", which proofs/CatchUps shows
  unfoldable pub catch_ups : ℕ → Going → ℕ
  catch_ups zero g = 0
  catch_ups (suc f) g = count_then (λ h. catch_ups f h) g (pass g.remaining g)
