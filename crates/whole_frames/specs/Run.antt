-- A run: the rest of a block, then calls one after another; the pieces that it renders, the events that it applies, and how far its position may drift. Definitions only.
use Rattle.std.specs.Prelude.{ℕ, zero, suc, ◌+◌, ◌-◌, ◌*◌, ◌^◌, ◌≤◌, ◌≡◌, Bool, true, false, not, cond, List, [], ◌∷◌, ◌++◌, ℤ, pos, nat_abs, ◌-ℤ◌, ◌*ℤ◌, Float}
use Rattle.sampler_event.specs.declared.Kind.{Kind}
use Rattle.sampler_event.specs.declared.Kind.TheVariants.{Start, StartImmediate, Stop, EnableLoop, CancelLoop, CancelAll}
use Rattle.sampler_event.specs.declared.Event.{Event}
use Rattle.laws.specs.Rules.{first_broken}
use Rattle.event_processor.specs.declared.Queue.{Queue}
use Rattle.event_processor.specs.Queue.{pending, without, each}
use Rattle.sampler_player.specs.declared.Setup.{Setup}
use Rattle.sampler_player.specs.declared.Player.{Player}
use Rattle.sampler_player.specs.Clock.{clock_at}
use Rattle.sampler_player.specs.Pieces.{Lent, Going, passes, renderings, total}
use Rattle.sampler_processor.specs.declared.Leg.{Leg}
use Rattle.sampler_processor.specs.Numbers.{render_order}
use Rattle.sampler_processor.specs.Block as Block
use Rattle.sampler_processor.specs.Block.{Running, Ended, frame_of, is_taken, block}
pub use Rattle.sampler_processor.specs.Block.{past}
use Rattle.sampler_processor.specs.Calls.{submit, render}

-- what is told of a run, first to last: the frames of each piece that it renders, and the events that it applies
pub record Told : Type 0 where
  pub pieces : List ℕ
  pub events : List Event

abbrev pub nothing : Told
nothing = record { pieces = []; events = [] }

abbrev pub then : Told → Told → Told
then a b = record { pieces = a.pieces ++ b.pieces; events = a.events ++ b.events }

-- ---- a block, from any point of it on: `block` takes the same way

module _ (s : Setup) (b : Lent) (start : ℤ) where
  -- the segment up to frame f, as `up_to` has it
  abbrev pub towards : ℕ → Running → Going
  towards f r = record { player = r.player; out = r.out; at = r.done; remaining = f - r.done; pieces = r.pieces }

  -- its pieces
  abbrev pub pieces_to : ℕ → Running → List ℕ
  pieces_to f r = renderings (clock_at s.rate) s b (f - r.done + (2 ^ 27 + 1)) (towards f r)

  -- up to the event, the event, and on; or the block's last frames
  abbrev pub told_on : (Running → Told) → Event → Running → Bool → Told
  told_on go e r true =
      let f = frame_of s.rate start r.now e.time.bits in
      then (record { pieces = pieces_to f r; events = e ∷ [] }) (go (past s b start e r))
  told_on go e r false = record { pieces = pieces_to b.block r; events = [] }

  unfoldable pub told_of : List Event → Running → Told
  told_of [] r = record { pieces = pieces_to b.block r; events = [] }
  told_of (e ∷ es) r = told_on (λ t. told_of es t) e r (is_taken s b start e r)

  -- the frame that the next segment goes to
  abbrev pub next_stop : List Event → Running → ℕ
  next_stop [] r = b.block
  next_stop (e ∷ es) r = cond (is_taken s b start e r) (frame_of s.rate start r.now e.time.bits) b.block

  -- A point between two events: from these events, queue and state the block comes to those
  pub data Comes : List Event → Queue → Running → List Event → Queue → Running → Type 0 where
    at : {es : List Event} {q : Queue} {r : Running} → Comes es q r es q r
    on : {e : Event} {es fs : List Event} {q p : Queue} {r t : Running} → is_taken s b start e r ≡ true → Comes es (without q) (past s b start e r) fs p t → Comes (e ∷ es) q r fs p t

  -- Any point of the rest of a block: some events further, and n passes into the segment that follows. What is told up to there, and what plays there
  pub data Inside : List Event → Running → Told → Player → Type 0 where
    here : {es : List Event} {r : Running} (n : ℕ)
        → Inside es r (record { pieces = renderings (clock_at s.rate) s b n (towards (next_stop es r) r); events = [] })
        (passes (clock_at s.rate) s b n (towards (next_stop es r) r)).player
    later : {e : Event} {es : List Event} {r : Running} {a : Told} {p : Player} → is_taken s b start e r ≡ true → Inside es (past s b start e r) a p
        → Inside (e ∷ es) r (then (record { pieces = pieces_to (frame_of s.rate start r.now e.time.bits) r; events = e ∷ [] }) a) p

-- ---- calls

pub data Call : Type 0 where
  submitted : List ℕ → Call
  rendered : Lent → List Float → ℤ → Call

-- a block at its first frame
abbrev pub opening : Leg → List Float → ℤ → Running
opening l out start = Block.opening l.player out start

-- a refused call renders nothing and applies nothing, and so does a command
abbrev pub told_by : ℕ → Leg → Lent → List Float → ℤ → Told
told_by zero l b out start = told_of l.setup b start (pending l.queue) (opening l out start)
told_by (suc n) l b out start = nothing

unfoldable pub told_at : Leg → Call → Told
told_at l (submitted bytes) = nothing
told_at l (rendered b out start) = told_by (first_broken (render_order l b out start)) l b out start

unfoldable pub leg_after : Leg → Call → Leg
leg_after l (submitted bytes) = (submit l bytes).leg
leg_after l (rendered b out start) = (render l b out start).answer.leg

-- the pieces that it reports
unfoldable pub reported_at : Leg → Call → ℕ
reported_at l (submitted bytes) = 0
reported_at l (rendered b out start) = (render l b out start).answer.pieces

-- call after call
unfoldable pub told_all : Leg → List Call → Told
told_all l [] = nothing
told_all l (c ∷ cs) = then (told_at l c) (told_all (leg_after l c) cs)

unfoldable pub leg_after_all : Leg → List Call → Leg
leg_after_all l [] = l
leg_after_all l (c ∷ cs) = leg_after_all (leg_after l c) cs

unfoldable pub reported_all : Leg → List Call → ℕ
reported_all l [] = 0
reported_all l (c ∷ cs) = reported_at l c + reported_all (leg_after l c) cs

-- ---- where a run begins: between two events of a block, the first of them its start. (From a fresh leg it is calls alone)

pub record Midway : Type 0 where
  pub leg : Leg
  pub lent : Lent
  pub out : List Float
  pub start : ℤ
  pub events : List Event
  pub queue : Queue
  pub running : Running
  pub taken : first_broken (render_order leg lent out start) ≡ 0
  pub comes : Comes leg.setup lent start (pending leg.queue) leg.queue (opening leg out start) events queue running

-- what is told of the rest of the block, and the leg that it leaves
abbrev pub leg_of : Setup → Ended → Leg
leg_of s e = record { setup = s; player = e.running.player; queue = e.queue }

unfoldable pub leg_rest : Midway → Leg
leg_rest m = leg_of m.leg.setup (block m.leg.setup m.lent m.start m.events m.queue m.running)

unfoldable pub told_rest : Midway → Told
told_rest m = told_of m.leg.setup m.lent m.start m.events m.running

-- the call that renders the block
abbrev pub call_of : Midway → Call
call_of m = rendered m.lent m.out m.start

-- from there to the end of the block, and calls after it: what is told, and k: the pieces that those calls report, less the block's before the run begins
unfoldable pub told_from : Midway → List Call → Told
told_from m cs = then (told_rest m) (told_all (leg_after m.leg (call_of m)) cs)

unfoldable pub reported_from : Midway → List Call → ℕ
reported_from m cs = reported_all m.leg (call_of m ∷ cs) - m.running.pieces

-- ---- every point of a run, with what is told up to it and what plays there

-- from a leg: between two calls, or inside a block
pub data Point (l : Leg) : Told → Player → Type 0 where
  between : (cs : List Call) → Point l (told_all l cs) (leg_after_all l cs).player
  within : (cs : List Call) (b : Lent) (out : List Float) (start : ℤ) {a : Told} {p : Player}
      → first_broken (render_order (leg_after_all l cs) b out start) ≡ 0
      → Inside (leg_after_all l cs).setup b start (pending (leg_after_all l cs).queue) (opening (leg_after_all l cs) out start) a p
      → Point l (then (told_all l cs) a) p

-- from inside a block: in the rest of it, or after it
pub data PointFrom (m : Midway) : Told → Player → Type 0 where
  before : {a : Told} {p : Player} → Inside m.leg.setup m.lent m.start m.events m.running a p → PointFrom m a p
  after : {a : Told} {p : Player} → Point (leg_rest m) a p → PointFrom m (then (told_rest m) a) p

-- ---- the first half

-- no start is applied
abbrev pub is_start : Kind → Bool
is_start (Start u) = true
is_start StartImmediate = true
is_start Stop = false
is_start (EnableLoop from end) = false
is_start CancelLoop = false
is_start CancelAll = false

abbrev pub no_start : Told → Type 0
no_start a = each (λ (e : Event). not (is_start e.kind)) a.events ≡ true

-- 2·|(P − D)·R − n·2^32| ≤ k·R, for k pieces and the frames of each, from D to P
abbrev pub Drifts : ℕ → ℕ → List ℕ → ℤ → ℤ → Type 0
Drifts R k ms D P = 2 * nat_abs ((P -ℤ D) *ℤ pos R -ℤ pos (total ms * 2 ^ 32)) ≤ k * R
