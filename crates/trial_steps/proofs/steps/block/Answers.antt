-- `trial_steps::steps::block` meets its contract.
-- The idea: the leg is what `render` hands back. Assumes nothing.
use Rattle.trial_steps.proofs.Stepped.{rendered_by}
use Rattle.trial_steps.proofs.steps.block.Goals as goal
use Rattle.trial_steps.proofs.steps.block.Goals.{in-Ok, in-Err}

pub returns-clause-goes : goal.returns-clause-goes
returns-clause-goes c = λ h. elim c.match-render.branch [
  | in-Ok w ↦ rw w.leg-is (rendered_by _ _ _ _ _ w.in-Ok.ensures)
  | in-Err w ↦ rw w.leg-is (rendered_by _ _ _ _ _ w.in-Err.ensures)
]
