-- Where a run may begin: what a start leaves, and a fresh leg; and a start at the place where the active voice stands is not heard.
-- The idea: the definitions of the events, read off. Assumes nothing.
use mathlib.Core.Path.{◌≡◌, refl, sym, ap, ◌∙◌, subst}
use Prim.Native.Nat.{ℕ, ◌*◌, ◌^◌, ◌≤◌}
use native.Mathlib.Nat.{zero-mul}
use native.Mathlib.Omega.{arith}
use mathlib.Core.Bool.{Bool, true, cond}
use lib.IntN.{ℤ, pos, nat_abs, ◌-ℤ◌, +ℤ_idr}
use Rattle.timestamp.specs.declared.Timestamp.{Timestamp}
use Rattle.timestamp.specs.Time.{frame_near}
use Rattle.sampler_event.specs.declared.Kind.{Kind}
use Rattle.sampler_event.specs.declared.Event.{Event}
use Rattle.sampler_event.specs.declared.Kind.TheVariants.{Start, StartImmediate}
use Rattle.sampler_player.specs.declared.Points.{Points}
use Rattle.sampler_player.specs.declared.Setup.{Setup}
use Rattle.sampler_player.specs.declared.Player.{Player}
use Rattle.sampler_player.specs.Assign.{active_at, stop, begin, assign_at}
use Rattle.sampler_player.specs.Events.{begun, apply}
use Rattle.sampler_player.specs.Pieces.{Lent}
use Rattle.sampler_processor.specs.Block.{Running, frame_of, up_to, applied}
use Rattle.sampler_processor.specs.Calls.{fresh}
use Rattle.whole_frames.specs.Run.{past}
use Rattle.whole_frames.specs.Whole.{Loop, no_loop, Nearest, NearestPoints, Whole}
use Rattle.whole_frames.proofs.Placed.{assign_points}

-- ---- D is the delay
pub start_delay : (R : ℕ) (u : Timestamp) (d : ℤ) (p : Player) → (apply R (Start u) d p).position.bits ≡ d
unfolding apply
start_delay R u d p = refl

nearest_zero : (R : ℕ) → Nearest R (record { bits = pos 0 }) 0
nearest_zero R = subst (λ (n : ℕ). 2 * nat_abs (pos n -ℤ pos (0 * 2 ^ 32)) ≤ R) (sym (zero-mul R)) (omega arith)

-- ---- a start on its frame, with no delay
pub start_whole : (R f : ℕ) (q : Loop) (u : Timestamp) (p : Player) → Nearest R u f → NearestPoints R p.points q → Whole R f q (apply R (Start u) (pos 0) p)
unfolding apply
start_whole R f q u p h g = record { position = refl; completed = refl; start = h; points = subst (λ (w : Points). NearestPoints R w q) (sym (assign_points R _ p)) g }

-- StartImmediate always is one
pub immediate_whole : (R : ℕ) (q : Loop) (d : ℤ) (p : Player) → NearestPoints R p.points q → Whole R 0 q (apply R StartImmediate d p)
unfolding apply
immediate_whole R q d p g = record { position = refl; completed = refl; start = nearest_zero R; points = subst (λ (w : Points). NearestPoints R w q) (sym (assign_points R _ p)) g }

pub fresh_whole : (s : Setup) → Whole s.rate 0 no_loop (fresh s).player
fresh_whole s = record { position = refl; completed = refl; start = nearest_zero s.rate; points = tt }

-- ---- as a block applies it
module _ (s : Setup) (b : Lent) (start : ℤ) (e : Event) (r : Running) (q : Loop) where
  -- where the block stands when the event's frame is reached
  abbrev pub reached : Running
  reached = up_to s b start (frame_of s.rate start r.now e.time.bits) r

  pub past_start : (u : Timestamp) (f : ℕ) → e.kind ≡ Start u → reached.now -ℤ e.time.bits ≡ pos 0 → Nearest s.rate u f → NearestPoints s.rate reached.player.points q
      → Whole s.rate f q (past s b start e r).player
  unfolding applied
  past_start u f k d h g =
      subst (λ (x : Kind). Whole s.rate f q (apply s.rate x (reached.now -ℤ e.time.bits) reached.player)) (sym k)
      (subst (λ (z : ℤ). Whole s.rate f q (apply s.rate (Start u) z reached.player)) (sym d) (start_whole s.rate f q u reached.player h g))

  pub past_immediate : e.kind ≡ StartImmediate → NearestPoints s.rate reached.player.points q → Whole s.rate 0 q (past s b start e r).player
  unfolding applied
  past_immediate k g =
      subst (λ (x : Kind). Whole s.rate 0 q (apply s.rate x (reached.now -ℤ e.time.bits) reached.player)) (sym k)
      (immediate_whole s.rate q (reached.now -ℤ e.time.bits) reached.player g)

-- ---- a start at the frame where the active voice stands: the voices go on as they are, and the run begins anew
pub silent_restart : (R : ℕ) (u : Timestamp) (p : Player) → active_at p.active (frame_near R u.bits) p.voices ≡ true → apply R (Start u) (pos 0) p ≡ begun u (pos 0) p
unfolding apply assign_at
silent_restart R u p h =
    ap (λ (z : ℤ). begun u (pos 0) (assign_at (frame_near R z) p)) (+ℤ_idr u.bits)
    ∙ ap (λ (t : Bool). begun u (pos 0) (cond t p (begin (frame_near R u.bits) (stop p)))) h
