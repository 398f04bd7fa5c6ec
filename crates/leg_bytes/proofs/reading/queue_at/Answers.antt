-- `leg_bytes::reading::queue_at` meets its contract.
-- The idea: after i turns i places are read, all of them well formed; the first that is not spoils the queue. Assumes nothing.
use Rattle.std.proofs.Common.{◌≡◌, ℕ, zero, suc, ◌<◌, false, List, refl, add-one, inl, inr, eq-or-lt_of_le, arith}
use Rattle.std.proofs.Math.Bool.{and-false}
use Rattle.leg_bytes.specs.Read.{place_at, places_good, queue_at}
use Rattle.leg_bytes.proofs.Given.{there, not_there}
use Rattle.leg_bytes.proofs.reading.queue_at.Goals as goal

spoilt : (s : List ℕ) (i n : ℕ) → i < n → (place_at s i).good ≡ false → places_good s n ≡ false
spoilt s i zero h e = absurd (omega arith)
spoilt s i (suc n) h e = elim (eq-or-lt_of_le h) [
  | inl q ↦
      let z : i ≡ n = omega (arith, q) in
      rw (rw z at e) (and-false (places_good s n))
  | inr l ↦
      let m : i < n = omega (arith, l) in
      rw (spoilt s i n m e) refl
]

pub loop-i-preserved : goal.loop-i-preserved
loop-i-preserved c =
    let l = c.loop-i in
    let p = there _ _ _ c.in_ok-event.ensures in
    (rw (add-one l.i, l.invariant.0, p.1) refl, rw (add-one l.i, l.invariant.1, p.0) refl)

pub returns-in_err-event : goal.returns-in_err-event
unfolding queue_at
returns-in_err-event c =
    let l = c.loop-i in
    rw (c.from_residual.ensures, spoilt c.args.bytes.now l.i 16 (omega arith) (not_there _ _ c.in_err-event.ensures)) refl

pub returns : goal.returns
unfolding queue_at
returns c =
    let l = c.loop-i in
    let e : l.i ≡ 16 = omega arith in
    let p = rw e at l.invariant.0 in
    let g = rw e at l.invariant.1 in
    rw (p, g, c.number.ensures.value) refl
