-- `sampler_processor::block::Block::frames_later` meets its contract.
-- The idea: a time of a block and T of its frames are far below 2 ^ 63, so the sum is answered. Assumes nothing.
use mathlib.Core.Path.{◌≡◌, ap, ◌∙◌}
use lib.IntN.{ℤ, ◌+ℤ◌}
use Rattle.timestamp.specs.Time.{time_of}
use Rattle.timestamp.specs.Answer.{told, taken, plus}
use Rattle.timestamp.proofs.Told.{is_ok, is_time}
use Rattle.sampler_processor.proofs.Times.{sum_taken, later_fits, up_to_lem}
use Rattle.sampler_processor.proofs.block.Block.frames_later.Goals as goal
use Rattle.sampler_processor.proofs.block.Block.frames_later.Goals.{After-add}

summed : (c : After-add) → told c.add.result ≡ taken (c.args.t.bits +ℤ time_of c.args.self.setup.rate c.args.n)
summed c =
    let s = c.args.self in
    let t = c.args.t.bits in
    c.add.ensures
    ∙ ap (λ (z : ℤ). plus t z) c.time_of.ensures
    ∙ sum_taken t (time_of s.setup.rate c.args.n) (later_fits s.setup.rate c.args.n t s.lends.slow s.lends.fast c.requires.n_bound (up_to_lem _ t c.requires.t_within))

pub unwrap-requires : goal.unwrap-requires
unwrap-requires c = is_ok _ _ (summed c)

pub returns : goal.returns
returns c = is_time _ _ _ c.unwrap.ensures (summed c.before)
