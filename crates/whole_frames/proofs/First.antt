-- The first half of demand 3: from D, at every point of a run in which no start is applied, 2·|(P − D)·R − n·2^32| ≤ k·R for its k pieces of n frames.
-- The idea: every point is reached by whole calls (Calls) and a part of a block (Blocks), and the pieces of all add up (Drift). Assumes nothing.
use Prim.Native.Nat.{ℕ, ◌≤◌}
use native.Mathlib.Nat.{le_trans, mul-le-mul_right}
use mathlib.Core.Path.{sym, subst}
use mathlib.Core.List.{List, ◌∷◌}
use lib.IntN.{ℤ}
use lib.ListN.{length}
use Rattle.event_processor.specs.Queue.{pending}
use Rattle.sampler_player.specs.declared.Setup.{Setup}
use Rattle.sampler_player.specs.declared.Player.{Player}
use Rattle.sampler_processor.specs.declared.Leg.{Leg}
use Rattle.whole_frames.specs.Run.{Told, then, Call, opening, told_all, leg_after_all, reported_all, Midway, leg_rest, told_rest, call_of, told_from, reported_from, Point, between, within, PointFrom, before, after, no_start, Drifts}
use Rattle.whole_frames.proofs.Drift.{drifts}
use Rattle.whole_frames.proofs.Accepted.{accepted}
use Rattle.whole_frames.proofs.Blocks.{Moves, moves_then}
use Rattle.whole_frames.proofs.Calls.{along_opening, along_midway, rest_moves, point_moves, calls_setup, calls_move, leg_rest_lem, reported_all_lem, reported_from_lem}

-- ---- every point
leg_moves : (l : Leg) (a : Told) (p : Player) → Point l a p → Moves l.setup.rate a l.player p
leg_moves l a p (between cs) = calls_move l cs
leg_moves l a p (within cs b out start {a = t} h i) =
    let x = leg_after_all l cs in
    let c = accepted x b out start h in
    moves_then l.setup.rate (told_all l cs) t l.player x.player p (calls_move l cs)
    (subst (λ (s : Setup). Moves s.rate t x.player p) (calls_setup l cs)
    (point_moves x b out start c 0 0 (pending x.queue) (opening x out start) t p (along_opening x b out start c) i))

midway_moves : (m : Midway) (a : Told) (p : Player) → PointFrom m a p → Moves m.leg.setup.rate a m.running.player p
unfolding leg_rest told_rest
midway_moves m a p (before i) =
    let c = accepted m.leg m.lent m.out m.start m.taken in
    let w = along_midway m.leg m.lent m.out m.start c m.events m.queue m.running m.comes in
    point_moves m.leg m.lent m.out m.start c w.0 w.1 m.events m.running a p w.2 i
midway_moves m a p (after {a = t} i) =
    let c = accepted m.leg m.lent m.out m.start m.taken in
    let w = along_midway m.leg m.lent m.out m.start c m.events m.queue m.running m.comes in
    moves_then m.leg.setup.rate (told_rest m) t m.running.player (leg_rest m).player p
    (rest_moves m.leg m.lent m.out m.start c w.0 w.1 m.events m.queue m.running w.2) (leg_moves (leg_rest m) t p i)

-- ---- the first half: from inside a block, where a start was applied, and from a leg, such as a fresh one
pub first_half : (m : Midway) (a : Told) (p : Player) → PointFrom m a p → no_start a → Drifts m.leg.setup.rate (length a.pieces) a.pieces m.running.player.position.bits p.position.bits
first_half m a p i h = let w = midway_moves m a p i in drifts m.leg.setup.rate m.running.player.position.bits p.position.bits a.pieces w.each_timed (w.position h)

pub first_half_leg : (l : Leg) (a : Told) (p : Player) → Point l a p → no_start a → Drifts l.setup.rate (length a.pieces) a.pieces l.player.position.bits p.position.bits
first_half_leg l a p i h = let w = leg_moves l a p i in drifts l.setup.rate l.player.position.bits p.position.bits a.pieces w.each_timed (w.position h)

wider : (R k n : ℕ) (ms : List ℕ) (D P : ℤ) → k ≤ n → Drifts R k ms D P → Drifts R n ms D P
wider R k n ms D P h d = le_trans d (mul-le-mul_right R h)

-- ---- after whole calls, with the pieces that they report. Where a run begins inside a block, the pieces before it may be counted or not
abbrev DriftsTo : Midway → List Call → Leg → Type 0
DriftsTo m cs x =
    let a = then (told_rest m) (told_all x cs) in
    no_start a → Drifts m.leg.setup.rate (length a.pieces) a.pieces m.running.player.position.bits (leg_after_all x cs).player.position.bits

pub first_half_reported : (m : Midway) (cs : List Call) (k : ℕ) → no_start (told_from m cs) → reported_from m cs ≤ k
    → Drifts m.leg.setup.rate k (told_from m cs).pieces m.running.player.position.bits (leg_after_all m.leg (call_of m ∷ cs)).player.position.bits
unfolding told_from leg_after_all
first_half_reported m cs k h enough =
    let w = subst (λ (x : Leg). DriftsTo m cs x) (sym (leg_rest_lem m)) (first_half m _ _ (after (between cs))) h in
    wider m.leg.setup.rate _ k (told_from m cs).pieces m.running.player.position.bits (leg_after_all m.leg (call_of m ∷ cs)).player.position.bits
    (subst (λ (n : ℕ). n ≤ k) (reported_from_lem m cs) enough) w

pub first_half_leg_reported : (l : Leg) (cs : List Call) → no_start (told_all l cs) → Drifts l.setup.rate (reported_all l cs) (told_all l cs).pieces l.player.position.bits (leg_after_all l cs).player.position.bits
first_half_leg_reported l cs h =
    subst (λ (k : ℕ). Drifts l.setup.rate k (told_all l cs).pieces l.player.position.bits (leg_after_all l cs).player.position.bits) (sym (reported_all_lem l cs))
    (first_half_leg l (told_all l cs) (leg_after_all l cs).player (between cs) h)
