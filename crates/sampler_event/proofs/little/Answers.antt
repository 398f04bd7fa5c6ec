-- `sampler_event::little` meets its contract.
-- The idea: `number` is that of the bytes past those that the iterator has left. Assumes nothing.
use Prim.Native.Nat.{◌^◌, ◌<◌}
use native.Mathlib.Omega.{arith}
use Rattle.sampler_event.proofs.Bytes.{past_none, past_byte, past_one, past_below, past_all}
use Rattle.sampler_event.proofs.little.Goals as goal
use Rattle.sampler_event.proofs.little.Goals.{In-Some}

pub loop-byte-init : goal.loop-byte-init
loop-byte-init c = rw (c.into_iter-byte-iterator.ensures.into_iter_gives, c.rev-byte-items.ensures.source, c.iter.ensures.rest) (past_none c.args.bytes.now)

-- before a turn
below : (c : In-Some) → c.loop-byte.number < 2 ^ 56
below c = past_below c.args.bytes.now c.loop-byte.byte-iterator.iter.rest.now c.next.new.self.iter.rest.now c.loop-byte.number c.in-Some.byte.now c.in-Some.ensures.steps c.loop-byte.invariant c.requires

byte : (c : In-Some) → c.in-Some.byte.now < 256
byte c = past_byte c.args.bytes.now c.loop-byte.byte-iterator.iter.rest.now c.next.new.self.iter.rest.now c.loop-byte.number c.in-Some.byte.now c.in-Some.ensures.steps c.loop-byte.invariant c.type_inv.bytes

pub overflow_mul-number : goal.overflow_mul-number
overflow_mul-number c = let b = below c in omega arith

pub overflow_add-number : goal.overflow_add-number
overflow_add-number c = let b = below (goal.at.overflow_add-number c).In-Some in let h = byte (goal.at.overflow_add-number c).In-Some in omega arith

pub loop-byte-preserved : goal.loop-byte-preserved
loop-byte-preserved c = rw c.from.ensures (past_one c.args.bytes.now c.loop-byte.byte-iterator.iter.rest.now c.next.new.self.iter.rest.now c.loop-byte.number c.in-Some.byte.now c.in-Some.ensures.steps c.loop-byte.invariant (byte (goal.at.loop-byte-preserved c).In-Some))

pub returns : goal.returns
returns c =
    let p = past_all c.args.bytes.now c.loop-byte.byte-iterator.iter.rest.now c.loop-byte.number c.in-None.ensures.steps.0 c.loop-byte.invariant in
    record { value = p.0; bound = p.1 }
