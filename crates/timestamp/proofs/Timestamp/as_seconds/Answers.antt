-- `timestamp::Timestamp::as_seconds` meets its contract.
-- The idea: a field written as bits and read back is itself. Assumes nothing.
use Rattle.std.proofs.Common.{ap, ◌∙◌, w64, SFits, rules}
use mir.ValLaws.{to_z-of_z}
use Rattle.timestamp.specs.Time.{seconds}
use Rattle.timestamp.proofs.Timestamp.as_seconds.Goals as goal

pub returns : goal.returns
returns c =
    let z = c.args.self.bits in
    let fit : SFits w64 z = search rules in
    c.to_seconds.ensures ∙ ap seconds (to_z-of_z w64 z fit)
