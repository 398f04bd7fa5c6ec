-- The second half: a run to which no event comes, the same in "whole-frame arithmetic", and the budget of pieces and loops within which they agree. Definitions only.
use Rattle.std.specs.Prelude.{ℕ, zero, suc, ◌+◌, ◌-◌, ◌*◌, ◌/◌, ◌^◌, ◌≤◌, ◌<◌, ◌≡◌, List, [], ◌∷◌, ◌++◌, pos, nat_abs, ◌-ℤ◌, ◌*ℤ◌, ℤ, Float, Option}
use Rattle.timestamp.specs.declared.Timestamp.{Timestamp}
use Rattle.sampler_event.specs.declared.Event.{Event}
use Rattle.laws.specs.Rules.{first_broken}
use Rattle.event_processor.specs.Queue.{pending}
use Rattle.sampler_voice.specs.declared.Voice.{Voice}
use Rattle.sampler_player.specs.declared.Points.{Points}
use Rattle.sampler_player.specs.declared.Points.TheVariants.{Absent, Between}
use Rattle.sampler_player.specs.declared.Setup.{Setup}
use Rattle.sampler_player.specs.declared.Player.{Player}
use Rattle.sampler_player.specs.Clock.{whole_frames}
use Rattle.sampler_player.specs.Pieces.{Lent, Going, segment, renderings}
use Rattle.sampler_processor.specs.declared.Leg.{Leg}
use Rattle.sampler_processor.specs.Numbers.{render_order}
use Rattle.sampler_processor.specs.Block.{Running, up_to}
use Rattle.sampler_processor.specs.Calls.{render}
use Rattle.whole_frames.specs.Run.{pieces_to, next_stop, Call, submitted, rendered, opening, told_at, leg_after, told_all, leg_after_all, Midway, leg_rest, told_rest}

-- ---- times that are whole frames

-- a loop in frames, from and to
pub data Loop : Type 0 where
  no_loop : Loop
  loop : ℕ → ℕ → Loop

-- the timestamp nearest to f frames: 2·|t·R − f·2^32| ≤ R
abbrev pub Nearest : ℕ → Timestamp → ℕ → Type 0
Nearest R t f = 2 * nat_abs (t.bits *ℤ pos R -ℤ pos (f * 2 ^ 32)) ≤ R

abbrev pub NearestPoints : ℕ → Points → Loop → Type 0
NearestPoints R Absent no_loop = Unit {0}
NearestPoints R Absent (loop x y) = ⊥
NearestPoints R (Between from end) no_loop = ⊥
NearestPoints R (Between from end) (loop x y) = Nearest R from x × Nearest R end y

-- where the run begins: D is 0, no loop is completed, the start position is nearest to f frames and the loop points to q's
pub record Whole (R f : ℕ) (q : Loop) (p : Player) : Type 0 where
  pub position : p.position.bits ≡ pos 0
  pub completed : p.completed ≡ 0
  pub start : Nearest R p.start f
  pub points : NearestPoints R p.points q

-- the same "with every time a whole number of frames", "from the leg's own voices at that start"
abbrev pub points_in : Loop → Points
points_in no_loop = Absent
points_in (loop x y) = Between (record { bits = pos x }) (record { bits = pos y })

abbrev pub in_frames : ℕ → Loop → Player → Player
in_frames f q p =
    record { voices = p.voices; active = p.active; points = points_in q; position = record { bits = pos 0 }; start = record { bits = pos f }; completed = 0 }

-- (k + 2c + 4)·R < 2^32
abbrev pub Budget : ℕ → ℕ → ℕ → Type 0
Budget R k c = (k + 2 * c + 4) * R < 2 ^ 32

-- the largest k + 2c within it
abbrev pub limit : ℕ → ℕ
limit R = (2 ^ 32 - 1) / R - 4

-- ---- parts of blocks

-- from one frame to another of a block: what it is lent, its output and its pieces until then
pub record Part : Type 0 where
  pub lent : Lent
  pub from : ℕ
  pub until : ℕ
  pub out : List Float
  pub pieces : ℕ

-- what a part gives: the output, the voices, which is active, the completed loops, and the frames of each piece
pub record Given : Type 0 where
  pub out : List Float
  pub voices : List Voice
  pub active : Option ℕ
  pub completed : ℕ
  pub pieces : List ℕ

abbrev pub given_of : List Float → Player → List ℕ → Given
given_of out p ms = record { out = out; voices = p.voices; active = p.active; completed = p.completed; pieces = ms }

-- ---- in whole frames, part after part: "these same rules for Assign, pieces and voices"

abbrev pub going_in : Player → Part → Going
going_in w d = record { player = w; out = d.out; at = d.from; remaining = d.until - d.from; pieces = d.pieces }

module _ (s : Setup) where
  abbrev pub whole_part : Player → Part → Going
  whole_part w d = segment whole_frames s d.lent (going_in w d)

  abbrev pub whole_pieces : Player → Part → List ℕ
  whole_pieces w d = renderings whole_frames s d.lent (d.until - d.from + (2 ^ 27 + 1)) (going_in w d)

  unfoldable pub whole_run : Player → List Part → List Given
  whole_run w [] = []
  whole_run w (d ∷ ds) = given_of (whole_part w d).out (whole_part w d).player (whole_pieces w d) ∷ whole_run (whole_part w d).player ds

-- ---- the leg's own: a whole block for each call that renders; a refused call and a command have none

abbrev pub only_taken : {A : Type 0} → ℕ → A → List A
only_taken zero x = x ∷ []
only_taken (suc n) x = []

unfoldable pub parts_at : Leg → Call → List Part
parts_at l (submitted bytes) = []
parts_at l (rendered b out start) = only_taken (first_broken (render_order l b out start)) (record { lent = b; from = 0; until = b.block; out = out; pieces = 0 })

unfoldable pub given_at : Leg → Call → List Given
given_at l (submitted bytes) = []
given_at l (rendered b out start) =
    only_taken (first_broken (render_order l b out start)) (given_of (render l b out start).out (render l b out start).answer.leg.player (told_at l (rendered b out start)).pieces)

unfoldable pub parts : Leg → List Call → List Part
parts l [] = []
parts l (c ∷ cs) = parts_at l c ++ parts (leg_after l c) cs

unfoldable pub given : Leg → List Call → List Given
given l [] = []
given l (c ∷ cs) = given_at l c ++ given (leg_after l c) cs

-- a block up to its next event, or to its end
module _ (s : Setup) (b : Lent) (start : ℤ) (es : List Event) (r : Running) where
  abbrev pub part_next : Part
  part_next = record { lent = b; from = r.done; until = next_stop s b start es r; out = r.out; pieces = r.pieces }

  abbrev pub given_next : Given
  given_next = let t = up_to s b start (next_stop s b start es r) r in given_of t.out t.player (pieces_to s b start (next_stop s b start es r) r)

-- ---- a run to which no event comes: its parts, what they give, its pieces, and the loops completed at the end

-- from a leg: some calls; or these, and a block up to its first event
pub data Plays (l : Leg) : List Part → List Given → List ℕ → ℕ → Type 0 where
  calls : (cs : List Call) → (told_all l cs).events ≡ [] → Plays l (parts l cs) (given l cs) (told_all l cs).pieces (leg_after_all l cs).player.completed
  cut : (cs : List Call) (b : Lent) (out : List Float) (start : ℤ) → (told_all l cs).events ≡ [] → first_broken (render_order (leg_after_all l cs) b out start) ≡ 0
      → Plays l (parts l cs ++ part_next (leg_after_all l cs).setup b start (pending (leg_after_all l cs).queue) (opening (leg_after_all l cs) out start) ∷ [])
      (given l cs ++ given_next (leg_after_all l cs).setup b start (pending (leg_after_all l cs).queue) (opening (leg_after_all l cs) out start) ∷ [])
      ((told_all l cs).pieces ++ (given_next (leg_after_all l cs).setup b start (pending (leg_after_all l cs).queue) (opening (leg_after_all l cs) out start)).pieces)
      (given_next (leg_after_all l cs).setup b start (pending (leg_after_all l cs).queue) (opening (leg_after_all l cs) out start)).completed

-- from inside a block: up to its next event; or the rest of it, and on from the leg that it leaves
abbrev pub midway_part : Midway → Part
midway_part m = part_next m.leg.setup m.lent m.start m.events m.running

abbrev pub midway_given : Midway → Given
midway_given m = given_next m.leg.setup m.lent m.start m.events m.running

pub data PlaysFrom (m : Midway) : List Part → List Given → List ℕ → ℕ → Type 0 where
  short : PlaysFrom m (midway_part m ∷ []) (midway_given m ∷ []) (midway_given m).pieces (midway_given m).completed
  long : {ds : List Part} {gs : List Given} {ms : List ℕ} {c : ℕ} → (told_rest m).events ≡ [] → Plays (leg_rest m) ds gs ms c
      → PlaysFrom m (midway_part m ∷ ds) (midway_given m ∷ gs) ((midway_given m).pieces ++ ms) c
