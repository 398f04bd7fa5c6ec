-- Inside a block that is not refused, the start position is 0 to 2^42 and the loop points pass 11 and 12, between any two events.
-- The idea: passes change neither, and an event that does is admissible. Assumes nothing.
use mathlib.Core.Path.{◌≡◌, refl, sym, ap, subst}
use Prim.Native.Nat.{ℕ, ◌+◌, ◌-◌, ◌^◌}
use mathlib.Core.Bool.{true, false, not, and-eq-true_iff}
use mathlib.Core.List.{List, ◌∷◌}
use borrow.Author.Tests.{not-false}
use lib.IntN.{ℤ, pos, ◌-ℤ◌}
use Rattle.timestamp.specs.declared.Timestamp.{Timestamp}
use Rattle.sampler_event.specs.declared.Kind.{Kind}
use Rattle.sampler_event.specs.declared.Kind.TheVariants.{Start, StartImmediate, Stop, EnableLoop, CancelLoop, CancelAll}
use Rattle.sampler_event.specs.declared.Event.{Event}
use Rattle.laws.specs.Rules.{within}
use Rattle.sampler_event.specs.Limits.{positions_bad, loop_bad, admissible}
use Rattle.event_processor.specs.declared.Queue.{Queue}
use Rattle.event_processor.specs.Queue.{each}
use Rattle.sampler_player.specs.declared.Points.{Points}
use Rattle.sampler_player.specs.declared.Setup.{Setup}
use Rattle.sampler_player.specs.declared.Player.{Player}
use Rattle.sampler_player.specs.Clock.{clock_at}
use Rattle.sampler_player.specs.Assign.{stop, assign}
use Rattle.sampler_player.specs.Events.{apply}
use Rattle.sampler_player.specs.Pieces.{Lent, segment}
use Rattle.sampler_player.specs.Sound.{points_good, loop_good}
use Rattle.sampler_event.proofs.Admissible.{passed}
use Rattle.sampler_player.proofs.Assign.{assign_leaves}
use Rattle.sampler_player.proofs.Kept.{loops_opened}
use Rattle.laws.proofs.Tests.{both}
use Rattle.sampler_processor.specs.Block.{Running, frame_of, up_to, applied}
use Rattle.whole_frames.specs.Run.{towards, past, Comes, at, on}
use Rattle.whole_frames.proofs.Lasting.{lasting}

pub record Placed (s : Setup) (p : Player) : Type 0 where
  pub start : within (pos 0) (pos (2 ^ 42)) p.start.bits ≡ true
  pub points : points_good s p.points ≡ true

pub placed_loops : (s : Setup) (p : Player) → loop_good s p ≡ true → Placed s p
placed_loops s p h = let l = loops_opened s p h in record { start = l.start; points = l.points }

placed_kept : (s : Setup) (p w : Player) → w.start ≡ p.start → w.points ≡ p.points → Placed s p → Placed s w
placed_kept s p w x y i =
    record {
      start = subst (λ (t : Timestamp). within (pos 0) (pos (2 ^ 42)) t.bits ≡ true) (sym x) i.start;
      points = subst (λ (t : Points). points_good s t ≡ true) (sym y) i.points;
    }

-- ---- an admissible event
pub assign_points : (R : ℕ) (u : ℤ) (p : Player) → (assign (clock_at R) u p).points ≡ p.points
assign_points R u p = assign_leaves (λ (x : Player). x.points) (λ vs a x. refl) (clock_at R) u p

placed_apply : (s : Setup) (k : Kind) (d : ℤ) (p : Player) → positions_bad k ≡ false → loop_bad s.rate s.fade k ≡ false → Placed s p → Placed s (apply s.rate k d p)
unfolding apply stop
placed_apply s (Start u) d p h g i =
    record {
      start = not-false (within (pos 0) (pos (2 ^ 42)) u.bits) h;
      points = subst (λ (t : Points). points_good s t ≡ true) (sym (assign_points s.rate _ p)) i.points;
    }
placed_apply s StartImmediate d p h g i = record { start = refl; points = subst (λ (t : Points). points_good s t ≡ true) (sym (assign_points s.rate _ p)) i.points }
placed_apply s Stop d p h g i = record { start = i.start; points = i.points }
placed_apply s (EnableLoop from end) d p h g i = record { start = i.start; points = both (ap not h) (ap not g) }
placed_apply s CancelLoop d p h g i = record { start = i.start; points = refl }
placed_apply s CancelAll d p h g i = record { start = i.start; points = refl }

-- ---- between two events
module _ (s : Setup) (b : Lent) (start : ℤ) where
  placed_past : (e : Event) (r : Running) → admissible s.rate s.fade e ≡ true → Placed s r.player → Placed s (past s b start e r).player
  unfolding up_to applied segment
  placed_past e r h i =
      let f = frame_of s.rate start r.now e.time.bits in
      let t = lasting (clock_at s.rate) s b (f - r.done + (2 ^ 27 + 1)) (towards s b start f r) in
      let u = up_to s b start f r in
      let k = passed s.rate s.fade e h in
      placed_apply s e.kind (u.now -ℤ e.time.bits) u.player k.places k.loop (placed_kept s r.player u.player t.start t.points i)

  pub placed_comes : (es fs : List Event) (q p : Queue) (r t : Running) → each (admissible s.rate s.fade) es ≡ true → Placed s r.player → Comes s b start es q r fs p t → Placed s t.player
  placed_comes es fs q p r t h i at = i
  placed_comes (e ∷ es) fs q p r t h i (on x w) =
      let k = (and-eq-true_iff (admissible s.rate s.fade e) (each (admissible s.rate s.fade) es)).0 h in
      placed_comes es fs _ p (past s b start e r) t k.1 (placed_past e r k.0 i) w
