-- `words::number` meets its contract.
-- The idea: the bytes that are there are at most n. Assumes nothing.
use Rattle.std.proofs.Common.{◌≤◌, length, arith, length-take, lit<}
use Rattle.std.proofs.Math.Nat.{pow-le-pow_right, lt_of_lt_of_le}
use Rattle.words.proofs.number.Goals as goal

pub returns-clause-bound : goal.returns-clause-bound
returns-clause-bound c =
    let l : length c.part.result.now ≤ c.args.n = rw (c.part.ensures, length-take) (omega arith) in
    lt_of_lt_of_le c.little.ensures.bound (pow-le-pow_right (lit< tt) l)
