-- What the position and the pieces are after calls: each moves them as its block does, or not at all; and "The pieces reported equal the number of such renderings".
-- The idea: a render that is not refused starts its block with events in order (Accepted), and Blocks does the rest. Assumes nothing.
use Prim.Native.Nat.{ℕ, zero, suc, ◌+◌, ◌-◌}
use native.Mathlib.Nat.{zero-add}
use native.Mathlib.Omega.{arith}
use mathlib.Core.Path.{◌≡◌, refl, sym, ap, ◌∙◌, subst}
use mathlib.Core.Bool.{Bool, true, false, cond}
use mathlib.Core.List.{List, [], ◌∷◌}
use lib.Dec.{eqb}
use lib.IntN.{ℤ, pos, nat_abs}
use lib.ListN.{length, length-append}
use lib.Ieee.{Float}
use Rattle.sampler_event.specs.declared.Event.{Event}
use Rattle.laws.specs.Rules.{first_broken}
use Rattle.sampler_event.specs.Command.{EventAnswer, command_answer}
use Rattle.event_processor.specs.declared.Queue.{Queue}
use Rattle.event_processor.specs.Queue.{pending, without, received}
use Rattle.sampler_player.specs.declared.Setup.{Setup}
use Rattle.sampler_player.specs.declared.Player.{Player}
use Rattle.sampler_player.specs.Pieces.{Lent}
use Rattle.sampler_processor.specs.declared.Leg.{Leg}
use Rattle.sampler_processor.specs.Numbers.{sound, render_order}
use Rattle.sampler_processor.specs.Block.{Running, Ended, is_taken, onward, block}
use Rattle.sampler_processor.specs.Calls.{Rendered, leg_answer, entered_in, commanded, submit, rendered_to, rendered_by, render}
use Rattle.whole_frames.specs.Run.{Told, nothing, told_of, past, Comes, at, on, Inside, Call, submitted, rendered, opening, told_by, told_at, leg_after, told_all, leg_after_all, reported_at, reported_all, Midway, leg_rest, told_rest, call_of, told_from, reported_from}
use Rattle.whole_frames.proofs.Accepted.{Accepted, accepted}
use Rattle.whole_frames.proofs.Along.{Along, along_first, along_next}
use Rattle.whole_frames.proofs.Blocks.{Moves, moves_then, moves_none, block_moves, inside_moves, block_count}

-- ---- a command leaves the setup and what plays
pub record Kept (l x : Leg) : Type 0 where
  pub setup : x.setup ≡ l.setup
  pub player : x.player ≡ l.player

same : (l : Leg) → Kept l l
same l = record { setup = refl; player = refl }

commanded_kept : (l : Leg) (a : EventAnswer) → Kept l (commanded l a).leg
commanded_kept l a = go (eqb a.number 0)
  where
    go : (x : Bool) → Kept l (cond x (entered_in l (received a.event l.queue)) (leg_answer a.number l)).leg
    go true = record { setup = refl; player = refl }
    go false = same l

pub submit_kept : (l : Leg) (bytes : List ℕ) → Kept l (submit l bytes).leg
unfolding submit
submit_kept l bytes = go (sound l)
  where
    go : (x : Bool) → Kept l (cond x (commanded l (command_answer l.setup.rate l.setup.fade bytes)) (leg_answer 14 l)).leg
    go true = commanded_kept l (command_answer l.setup.rate l.setup.fade bytes)
    go false = same l

-- ---- inside a block that is not refused
module _ (l : Leg) (b : Lent) (out : List Float) (start : ℤ) (c : Accepted l b start) where
  abbrev pub AlongAt : ℕ → ℕ → List Event → Running → Type 0
  AlongAt = Along l.setup b (nat_abs start) c.sizes.rate_low c.sizes.rate_high c.few_frames

  pub along_opening : AlongAt 0 0 (pending l.queue) (opening l out start)
  along_opening =
      subst (λ (z : ℤ). AlongAt 0 0 (pending l.queue) (opening l out z)) (sym c.from.is)
      (along_first l.setup b (nat_abs start) c.sizes.rate_low c.sizes.rate_high c.few_frames l.player out (pending l.queue) c.ordered c.few_events)

  along_comes : (z : ℤ) (lo k : ℕ) (es fs : List Event) (q p : Queue) (r t : Running) → z ≡ pos (nat_abs start) → AlongAt lo k es r → Comes l.setup b z es q r fs p t
      → (lo' : ℕ) × (k' : ℕ) × AlongAt lo' k' fs t
  along_comes z lo k es fs q p r t h a at = (lo, k, a)
  along_comes z lo k (e ∷ es) fs q p r t h a (on x w) =
      along_comes z a.ordered.0 (suc k) es fs _ p (past l.setup b z e r) t h
      (subst (λ (y : ℤ). AlongAt a.ordered.0 (suc k) es (past l.setup b y e r)) (sym h)
      (along_next l.setup b (nat_abs start) c.sizes.rate_low c.sizes.rate_high c.few_frames lo k e es r a (subst (λ (y : ℤ). is_taken l.setup b y e r ≡ true) h x))) w

  pub along_midway : (fs : List Event) (p : Queue) (t : Running) → Comes l.setup b start (pending l.queue) l.queue (opening l out start) fs p t
      → (lo : ℕ) × (k : ℕ) × AlongAt lo k fs t
  along_midway fs p t w = along_comes start 0 0 (pending l.queue) fs l.queue p (opening l out start) t c.from.is along_opening w

  pub rest_moves : (lo k : ℕ) (es : List Event) (q : Queue) (r : Running) → AlongAt lo k es r
      → Moves l.setup.rate (told_of l.setup b start es r) r.player (block l.setup b start es q r).running.player
  rest_moves lo k es q r a =
      subst (λ (z : ℤ). Moves l.setup.rate (told_of l.setup b z es r) r.player (block l.setup b z es q r).running.player) (sym c.from.is)
      (block_moves l.setup b (nat_abs start) c.sizes.rate_low c.sizes.rate_high c.few_frames lo k es q r a)

  pub point_moves : (lo k : ℕ) (es : List Event) (r : Running) (a : Told) (p : Player) → AlongAt lo k es r → Inside l.setup b start es r a p → Moves l.setup.rate a r.player p
  point_moves lo k es r a p w i =
      inside_moves l.setup b (nat_abs start) c.sizes.rate_low c.sizes.rate_high c.few_frames lo k es r a p w
      (subst (λ (z : ℤ). Inside l.setup b z es r a p) c.from.is i)

  pub rest_count : (es : List Event) (q : Queue) (r : Running) → (block l.setup b start es q r).running.pieces ≡ r.pieces + length (told_of l.setup b start es r).pieces
  rest_count es q r =
      subst (λ (z : ℤ). (block l.setup b z es q r).running.pieces ≡ r.pieces + length (told_of l.setup b z es r).pieces) (sym c.from.is)
      (block_count l.setup b (nat_abs start) c.sizes.rate_low c.sizes.rate_high c.few_frames es q r)

-- ---- a call, and calls
render_moves : (l : Leg) (b : Lent) (out : List Float) (start : ℤ) (n : ℕ) → (n ≡ 0 → Accepted l b start)
    → Moves l.setup.rate (told_by n l b out start) l.player (rendered_by n l b out start).answer.leg.player
render_moves l b out start zero f = rest_moves l b out start (f refl) 0 0 (pending l.queue) l.queue (opening l out start) (along_opening l b out start (f refl))
render_moves l b out start (suc n) f = moves_none l.setup.rate l.player

render_setup : (l : Leg) (b : Lent) (out : List Float) (start : ℤ) (n : ℕ) → (rendered_by n l b out start).answer.leg.setup ≡ l.setup
render_setup l b out start zero = refl
render_setup l b out start (suc n) = refl

pub call_setup : (l : Leg) (c : Call) → (leg_after l c).setup ≡ l.setup
unfolding leg_after render
call_setup l (submitted bytes) = (submit_kept l bytes).setup
call_setup l (rendered b out start) = render_setup l b out start (first_broken (render_order l b out start))

pub call_moves : (l : Leg) (c : Call) → Moves l.setup.rate (told_at l c) l.player (leg_after l c).player
unfolding leg_after told_at render
call_moves l (submitted bytes) = subst (λ (p : Player). Moves l.setup.rate nothing l.player p) (sym (submit_kept l bytes).player) (moves_none l.setup.rate l.player)
call_moves l (rendered b out start) = render_moves l b out start (first_broken (render_order l b out start)) (accepted l b out start)

pub calls_setup : (l : Leg) (cs : List Call) → (leg_after_all l cs).setup ≡ l.setup
unfolding leg_after_all
calls_setup l [] = refl
calls_setup l (c ∷ cs) = calls_setup (leg_after l c) cs ∙ call_setup l c

pub calls_move : (l : Leg) (cs : List Call) → Moves l.setup.rate (told_all l cs) l.player (leg_after_all l cs).player
unfolding leg_after_all told_all
calls_move l [] = moves_none l.setup.rate l.player
calls_move l (c ∷ cs) =
    let x = leg_after l c in
    moves_then l.setup.rate (told_at l c) (told_all x cs) l.player x.player (leg_after_all x cs).player (call_moves l c)
    (subst (λ (s : Setup). Moves s.rate (told_all x cs) x.player (leg_after_all x cs).player) (call_setup l c) (calls_move x cs))

-- ---- the call that renders a block gives what its rest gives
block_comes : (s : Setup) (b : Lent) (start : ℤ) (es fs : List Event) (q p : Queue) (r t : Running) → Comes s b start es q r fs p t → block s b start es q r ≡ block s b start fs p t
unfolding block
block_comes s b start es fs q p r t at = refl
block_comes s b start (e ∷ es) fs q p r t (on x w) =
    ap (λ (y : Bool). onward s b start (λ p t. block s b start es p t) e q r y) x ∙ block_comes s b start es fs (without q) p (past s b start e r) t w

render_rest : (m : Midway) → render m.leg m.lent m.out m.start ≡ rendered_to m.leg.setup (block m.leg.setup m.lent m.start m.events m.queue m.running)
unfolding render
render_rest m =
    let l = m.leg in
    ap (λ (n : ℕ). rendered_by n l m.lent m.out m.start) m.taken
    ∙ ap (λ (e : Ended). rendered_to l.setup e)
    (block_comes l.setup m.lent m.start (pending l.queue) m.events l.queue m.queue (opening l m.out m.start) m.running m.comes)

pub leg_rest_lem : (m : Midway) → leg_after m.leg (call_of m) ≡ leg_rest m
unfolding leg_after leg_rest
leg_rest_lem m = ap (λ (x : Rendered). x.answer.leg) (render_rest m)

-- ---- "The pieces reported equal the number of such renderings"
render_count : (l : Leg) (b : Lent) (out : List Float) (start : ℤ) (n : ℕ) → (n ≡ 0 → Accepted l b start) → (rendered_by n l b out start).answer.pieces ≡ length (told_by n l b out start).pieces
render_count l b out start zero f =
    rest_count l b out start (f refl) (pending l.queue) l.queue (opening l out start) ∙ zero-add (length (told_of l.setup b start (pending l.queue) (opening l out start)).pieces)
render_count l b out start (suc n) f = refl

reported_at_lem : (l : Leg) (c : Call) → reported_at l c ≡ length (told_at l c).pieces
unfolding reported_at told_at render
reported_at_lem l (submitted bytes) = refl
reported_at_lem l (rendered b out start) = render_count l b out start (first_broken (render_order l b out start)) (accepted l b out start)

pub reported_all_lem : (l : Leg) (cs : List Call) → reported_all l cs ≡ length (told_all l cs).pieces
unfolding reported_all told_all
reported_all_lem l [] = refl
reported_all_lem l (c ∷ cs) =
    let x = leg_after l c in
    ap (λ (n : ℕ). n + reported_all x cs) (reported_at_lem l c) ∙ ap (λ (n : ℕ). length (told_at l c).pieces + n) (reported_all_lem x cs) ∙ sym (length-append (told_at l c).pieces (told_all x cs).pieces)

-- and from inside a block
pub reported_from_lem : (m : Midway) (cs : List Call) → reported_from m cs ≡ length (told_from m cs).pieces
unfolding reported_from told_from reported_all reported_at told_rest
reported_from_lem m cs =
    let l = m.leg in
    let x = leg_after l (call_of m) in
    let first = ap (λ (x : Rendered). x.answer.pieces) (render_rest m) ∙ rest_count l m.lent m.out m.start (accepted l m.lent m.out m.start m.taken) m.events m.queue m.running in
    less m.running.pieces _ _ _ _ _ first (reported_all_lem x cs) (length-append (told_rest m).pieces (told_all x cs).pieces)
  where
    less : (b a r n t d : ℕ) → a ≡ b + n → r ≡ t → d ≡ n + t → a + r - b ≡ d
    less b a r n t d h i j = omega arith
