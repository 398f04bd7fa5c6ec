-- The second half of demand 3: a run to which no event comes, from D 0 and nearest times, gives in every part what whole-frame arithmetic gives, while (k + 2c + 4)·R < 2^32.
-- The idea: the rest of the block that it begins in is a part, and joins with what follows (Plays). Assumes nothing.
use mathlib.Core.Path.{◌≡◌, refl, sym, ap, ◌∙◌, subst}
use Prim.Native.Nat.{ℕ, ◌+◌, ◌≤◌}
use native.Mathlib.Nat.{zero-add}
use native.Mathlib.Omega.{arith}
use mathlib.Core.List.{List, [], ◌∷◌, ◌++◌}
use lib.Dec.{lit≤}
use lib.IntN.{pos}
use lib.ListN.{length}
use Rattle.timestamp.proofs.Drift.{drift_none}
use Rattle.event_processor.specs.Queue.{pending}
use Rattle.sampler_player.specs.declared.Player.{Player}
use Rattle.sampler_processor.specs.declared.Leg.{Leg}
use Rattle.sampler_processor.specs.Block.{Ended, up_to}
use Rattle.whole_frames.specs.Run.{next_stop, opening, Midway, leg_rest, told_rest}
use Rattle.whole_frames.specs.Whole.{Loop, points_in, in_frames, Whole, Given, Part, whole_run, Plays, midway_part, midway_given, PlaysFrom, short, long, Budget}
use Rattle.whole_frames.proofs.Drift.{count_append}
use Rattle.whole_frames.proofs.Accepted.{Accepted, accepted}
use Rattle.whole_frames.proofs.Calls.{AlongAt, along_midway}
use Rattle.whole_frames.proofs.Intervals.{as_whole}
use Rattle.whole_frames.proofs.Placed.{Placed, placed_loops, placed_comes}
use Rattle.whole_frames.proofs.Nearest.{Follows}
use Rattle.whole_frames.proofs.Same.{budget_before}
use Rattle.whole_frames.proofs.Joined.{Joined, joined_then, joined_run}
use Rattle.whole_frames.proofs.Quiet.{quiet_block}
use Rattle.whole_frames.proofs.Plays.{next_joined, plays_grow, plays_joined}

-- ---- where it begins
follows_first : (R f : ℕ) (q : Loop) (p : Player) → Whole R f q p → Follows R 0 0 f q p
follows_first R f q p w = record { at = 0; position = w.position; drift = drift_none R; start = w.start; points = w.points }

first_whole : (f : ℕ) (q : Loop) (p : Player) → p.completed ≡ 0 → as_whole 0 f q p ≡ in_frames f q p
first_whole f q p h =
    ap (λ (c : ℕ). record { voices = p.voices; active = p.active; points = points_in q; position = record { bits = pos 0 }; start = record { bits = pos f }; completed = c }) h

-- ---- the second half: from a leg between two calls, such as a fresh one, and from inside a block, where a start was applied
pub second_half_leg : (l : Leg) (f : ℕ) (q : Loop) (ds : List Part) (gs : List Given) (ms : List ℕ) (c : ℕ) → Whole l.setup.rate f q l.player → Plays l ds gs ms c → Budget l.setup.rate (length ms) c
    → gs ≡ whole_run l.setup (in_frames f q l.player) ds
second_half_leg l f q ds gs ms c w h u =
    let j = plays_joined f q l ds gs ms c 0 0 h (follows_first l.setup.rate f q l.player w) (subst (λ (n : ℕ). Budget l.setup.rate n c) (sym (zero-add (length ms))) u) in
    joined_run l.setup f q 0 0 l.player j.0 ms gs ds j.1 ∙ ap (λ (p : Player). whole_run l.setup p ds) (first_whole f q l.player w.completed)

rest_is : (m : Midway) → (told_rest m).events ≡ [] → (up_to m.leg.setup m.lent m.start (next_stop m.leg.setup m.lent m.start m.events m.running) m.running).player ≡ (leg_rest m).player
unfolding leg_rest told_rest
rest_is m h =
    let t = quiet_block m.leg.setup m.lent m.start m.events m.queue m.running h in
    ap (λ (u : ℕ). (up_to m.leg.setup m.lent m.start u m.running).player) t.goes_to ∙ ap (λ (e : Ended). e.running.player) (sym t.ended)

rest_setup : (m : Midway) → (leg_rest m).setup ≡ m.leg.setup
unfolding leg_rest
rest_setup m = refl

pub second_half : (m : Midway) (f : ℕ) (q : Loop) (ds : List Part) (gs : List Given) (ms : List ℕ) (c : ℕ) → Whole m.leg.setup.rate f q m.running.player → PlaysFrom m ds gs ms c
    → Budget m.leg.setup.rate (length ms) c → gs ≡ whole_run m.leg.setup (in_frames f q m.running.player) ds
unfolding follows_first leg_rest
second_half m f q ds gs ms c w h u = go ds gs ms c h u
  where
    a : Accepted m.leg m.lent m.start
    a = accepted m.leg m.lent m.out m.start m.taken

    p : Player
    p = m.running.player

    begins : Follows m.leg.setup.rate 0 0 f q m.running.player
    begins = follows_first m.leg.setup.rate f q m.running.player w

    placed : Placed m.leg.setup m.running.player
    placed =
        placed_comes m.leg.setup m.lent m.start (pending m.leg.queue) m.events m.leg.queue m.queue (opening m.leg m.out m.start) m.running a.events
        (placed_loops m.leg.setup m.leg.player a.loops) m.comes

    along : (lo : ℕ) × (n : ℕ) × AlongAt m.leg m.lent m.out m.start a lo n m.events m.running
    along = along_midway m.leg m.lent m.out m.start a m.events m.queue m.running m.comes

    first : Budget m.leg.setup.rate (0 + length (midway_given m).pieces) (midway_given m).completed
        → Joined m.leg.setup f q 0 0 p (up_to m.leg.setup m.lent m.start (next_stop m.leg.setup m.lent m.start m.events m.running) m.running).player (midway_given m).pieces (midway_given m ∷ []) (midway_part m ∷ [])
    first v = next_joined m.leg m.lent m.out m.start a along.0 along.1 m.events m.running along.2 f q 0 0 begins placed (lit≤ tt) v

    whole : (v : Player) (ds : List Part) (gs : List Given) (ms : List ℕ) → Joined m.leg.setup f q 0 0 p v ms gs ds → gs ≡ whole_run m.leg.setup (in_frames f q p) ds
    whole v ds gs ms j = joined_run m.leg.setup f q 0 0 p v ms gs ds j ∙ ap (λ (x : Player). whole_run m.leg.setup x ds) (first_whole f q p w.completed)

    go : (ds : List Part) (gs : List Given) (ms : List ℕ) (c : ℕ) → PlaysFrom m ds gs ms c → Budget m.leg.setup.rate (length ms) c → gs ≡ whole_run m.leg.setup (in_frames f q p) ds
    go ds gs ms c short u = whole _ ds gs ms (first (subst (λ (n : ℕ). Budget m.leg.setup.rate n (midway_given m).completed) (sym (zero-add (length (midway_given m).pieces))) u))
    go ds gs ms c (long {ds = es} {gs = hs} {ms = ns} none h) u =
        let xs = (midway_given m).pieces in
        let n : length (xs ++ ns) ≡ 0 + length xs + length ns = sym (zero-add (length (xs ++ ns))) ∙ count_append 0 xs ns in
        let y = leg_rest m in
        let e = rest_is m none in
        let grows = subst (λ (z : Player). z.completed ≤ c) (sym e) (plays_grow f q y es hs ns c h) in
        let j = first (budget_before m.leg.setup.rate (0 + length xs) (midway_given m).completed (length (xs ++ ns)) c (omega (arith, n)) grows u) in
        let t =
        plays_joined f q y es hs ns c (0 + length xs) j.to h (subst (λ (z : Player). Follows m.leg.setup.rate (0 + length xs) j.to f q z) e j.follows)
        (subst (λ (k : ℕ). Budget m.leg.setup.rate k c) n u) in
        whole t.0 (midway_part m ∷ es) (midway_given m ∷ hs) (xs ++ ns)
        (joined_then m.leg.setup f q 0 0 p y.player t.0 xs ns (midway_given m ∷ []) hs (midway_part m ∷ []) es
        (subst (λ (z : Player). Joined m.leg.setup f q 0 0 p z xs (midway_given m ∷ []) (midway_part m ∷ [])) e j) t.1)
