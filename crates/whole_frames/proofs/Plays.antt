-- A run to which no event comes, from a leg: all its parts join, whole blocks and one that is cut by an event.
-- The idea: a block up to its next event is a part of at most 4,096 frames (`stop_inside`), and the calls before it join (Quiet). Assumes nothing.
use mathlib.Core.Path.{sym, subst}
use Prim.Native.Nat.{ℕ, ◌+◌, ◌^◌, ◌≤◌}
use native.Mathlib.Nat.{le_trans}
use native.Mathlib.Omega.{arith}
use mathlib.Core.List.{List, [], ◌∷◌, ◌++◌}
use lib.IntN.{ℤ, nat_abs}
use lib.ListN.{length}
use lib.Ieee.{Float}
use Rattle.sampler_event.specs.declared.Event.{Event}
use Rattle.event_processor.specs.Queue.{pending}
use Rattle.sampler_player.specs.declared.Setup.{Setup}
use Rattle.sampler_player.specs.declared.Player.{Player}
use Rattle.sampler_player.specs.Pieces.{Lent}
use Rattle.sampler_processor.specs.declared.Leg.{Leg}
use Rattle.sampler_processor.specs.Block.{Running, up_to}
use Rattle.whole_frames.specs.Run.{next_stop, opening, told_all, leg_after_all}
use Rattle.whole_frames.specs.Whole.{Loop, Given, Part, parts, given, part_next, given_next, Plays, calls, cut, Budget}
use Rattle.whole_frames.proofs.Accepted.{Accepted, accepted}
use Rattle.whole_frames.proofs.Drift.{count_append}
use Rattle.whole_frames.proofs.Along.{stop_inside}
use Rattle.whole_frames.proofs.Calls.{AlongAt, along_opening, calls_setup}
use Rattle.whole_frames.proofs.Placed.{Placed, placed_loops}
use Rattle.whole_frames.proofs.Nearest.{Follows}
use Rattle.whole_frames.proofs.Parts.{at_most}
use Rattle.whole_frames.proofs.Same.{budget_before}
use Rattle.whole_frames.proofs.Joined.{Joined, joined_then, part_joined, part_grows}
use Rattle.whole_frames.proofs.Quiet.{calls_grow, calls_joined}

-- ---- a block up to its next event, from any point between two
module _ (l : Leg) (b : Lent) (out : List Float) (start : ℤ) (c : Accepted l b start) (lo n : ℕ) (es : List Event) (r : Running) (w : AlongAt l b out start c lo n es r) (f : ℕ) (q : Loop) where
  stop_few : next_stop l.setup b start es r ≤ 4096
  stop_few =
      le_trans
      (subst (λ (z : ℤ). next_stop l.setup b z es r ≤ b.block) (sym c.from.is)
      (stop_inside l.setup b (nat_abs start) c.sizes.rate_low c.sizes.rate_high c.few_frames lo n es r w)) c.few_frames

  pub next_joined : (k x : ℕ) (i : Follows l.setup.rate k x f q r.player) → Placed l.setup r.player → i.at ≤ 2 ^ 48
      → Budget l.setup.rate (k + length (given_next l.setup b start es r).pieces) (given_next l.setup b start es r).completed
      → Joined l.setup f q k x r.player (up_to l.setup b start (next_stop l.setup b start es r) r).player (given_next l.setup b start es r).pieces
      (given_next l.setup b start es r ∷ []) (part_next l.setup b start es r ∷ [])
  next_joined k x i g h u =
      part_joined l.setup f q b start (next_stop l.setup b start es r) c.sizes.rate_low c.sizes.rate_high c.sizes.frames_high stop_few k x r i g h u

  next_grows : r.player.completed ≤ (given_next l.setup b start es r).completed
  next_grows = part_grows l.setup f q b start (next_stop l.setup b start es r) c.sizes.rate_low c.sizes.rate_high c.sizes.frames_high stop_few r

-- ---- from a leg
module _ (f : ℕ) (q : Loop) where
  pub plays_grow : (l : Leg) (ds : List Part) (gs : List Given) (ms : List ℕ) (c : ℕ) → Plays l ds gs ms c → l.player.completed ≤ c
  plays_grow l ds gs ms c (calls cs none) = calls_grow f q l cs none
  plays_grow l ds gs ms c (cut cs b out start none h) =
      let y = leg_after_all l cs in
      let a = accepted y b out start h in
      le_trans (calls_grow f q l cs none) (next_grows y b out start a 0 0 (pending y.queue) (opening y out start) (along_opening y b out start a) f q)

  pub plays_joined : (l : Leg) (ds : List Part) (gs : List Given) (ms : List ℕ) (c k x : ℕ) → Plays l ds gs ms c → Follows l.setup.rate k x f q l.player → Budget l.setup.rate (k + length ms) c
      → (w : Player) × Joined l.setup f q k x l.player w ms gs ds
  plays_joined l ds gs ms c k x (calls cs none) i u = ((leg_after_all l cs).player, calls_joined f q l cs k x none i u)
  plays_joined l ds gs ms c k x (cut cs b out start none h) i u =
      let y = leg_after_all l cs in
      let a = accepted y b out start h in
      let r = opening y out start in
      let es = pending y.queue in
      let t = given_next y.setup b start es r in
      let xs = (told_all l cs).pieces in
      let n = count_append k xs t.pieces in
      let e = calls_setup l cs in
      let along = along_opening y b out start a in
      let j =
      calls_joined f q l cs k x none i
      (budget_before l.setup.rate (k + length xs) y.player.completed (k + length (xs ++ t.pieces)) t.completed (omega (arith, n)) (next_grows y b out start a 0 0 es r along f q) u) in
      let i' : Follows y.setup.rate (k + length xs) j.to f q y.player = subst (λ (s : Setup). Follows s.rate (k + length xs) j.to f q y.player) (sym e) j.follows in
      let u' : Budget y.setup.rate (k + length xs + length t.pieces) t.completed =
      subst (λ (s : Setup). Budget s.rate (k + length xs + length t.pieces) t.completed) (sym e)
      (subst (λ (m : ℕ). Budget l.setup.rate m t.completed) n u) in
      let v = (up_to y.setup b start (next_stop y.setup b start es r) r).player in (
        v,
        joined_then l.setup f q k x l.player y.player v xs t.pieces (given l cs) (t ∷ []) (parts l cs) (part_next y.setup b start es r ∷ []) j
            (subst (λ (s : Setup). Joined s f q (k + length xs) j.to y.player v t.pieces (t ∷ []) (part_next y.setup b start es r ∷ [])) e
            (next_joined y b out start a 0 0 es r along f q (k + length xs) j.to i' (placed_loops y.setup y.player a.loops)
            (at_most y.player.position.bits i'.at (2 ^ 48) i'.position a.position) u')),
      )
