-- A sound leg by its parts, and which legs are sound: a fresh one of sizes in range is, the blank one is not.
-- The idea: soundness is a conjunction, so it is known by its parts, and a fresh leg's parts but for the sizes compute. Assumes nothing.
use Prim.Native.Nat.{◌≤◌}
use mathlib.Core.Path.{◌≡◌, refl}
use mathlib.Core.Bool.{true, false, ◌&&◌, not, and-eq-true_iff}
use borrow.Author.Tests.{leb-true, le-leb, not-true}
use lib.Dec.{leb}
use Rattle.sampler_event.specs.Limits.{admissible}
use Rattle.event_processor.specs.declared.Queue.{Queue}
use Rattle.event_processor.specs.Queue.{pending, in_order, each}
use Rattle.sampler_player.specs.declared.Setup.{Setup}
use Rattle.sampler_player.specs.Sound.{player_good}
use Rattle.sampler_player.proofs.Sound.{quiet_good}
use Rattle.sampler_processor.specs.declared.Leg.{Leg}
use Rattle.sampler_processor.specs.Numbers.{sizes_bad, queue_good, sound}
use Rattle.sampler_processor.specs.Calls.{fresh, blank}
use Rattle.sampler_processor.proofs.Sizes.{Sized, sized}

-- ---- the parts

pub record Parts (l : Leg) : Type 0 where
  pub sizes : sizes_bad l.setup ≡ false
  pub player : player_good l.setup l.player ≡ true
  pub queue : queue_good l.setup l.queue ≡ true

pub parts : (l : Leg) → sound l ≡ true → Parts l
unfolding sound
parts l e =
    let p = player_good l.setup l.player in
    let q = queue_good l.setup l.queue in
    let a = (and-eq-true_iff (not (sizes_bad l.setup)) (p && q)).0 e in
    let b = (and-eq-true_iff p q).0 a.1 in
    record { sizes = not-true (sizes_bad l.setup) a.0; player = b.0; queue = b.1 }

pub whole : (l : Leg) → Parts l → sound l ≡ true
unfolding sound
whole l p = rw (p.sizes, p.player, p.queue) refl

pub sound_sized : (l : Leg) → sound l ≡ true → Sized l.setup
sound_sized l e = sized l.setup (parts l e).sizes

-- "queue at most 16, each event admissible, in order"
pub record Queued (s : Setup) (q : Queue) : Type 0 where
  pub few : q.count ≤ 16
  pub each_one : each (admissible s.rate s.fade) (pending q) ≡ true
  pub ordered : in_order (pending q) ≡ true

pub queued : (s : Setup) (q : Queue) → queue_good s q ≡ true → Queued s q
unfolding queue_good
queued s q e =
    let x = each (admissible s.rate s.fade) (pending q) in
    let o = in_order (pending q) in
    let a = (and-eq-true_iff (leb q.count 16) (x && o)).0 e in
    let b = (and-eq-true_iff x o).0 a.1 in
    record { few = leb-true q.count 16 a.0; each_one = b.0; ordered = b.1 }

pub queue_whole : (s : Setup) (q : Queue) → Queued s q → queue_good s q ≡ true
unfolding queue_good
queue_whole s q k = rw (le-leb q.count 16 k.few, k.each_one, k.ordered) refl

pub none_waits : (s : Setup) (q : Queue) → q.count ≡ 0 → queue_good s q ≡ true
unfolding queue_good
none_waits s q e = rw e refl

-- ---- fresh, and blank

pub fresh_sound : (s : Setup) → sizes_bad s ≡ false → sound (fresh s) ≡ true
unfolding queue_good
fresh_sound s e = whole (fresh s) (record { sizes = e; player = quiet_good s; queue = refl })

pub blank_damaged : sound blank ≡ false
unfolding sound
blank_damaged = refl
