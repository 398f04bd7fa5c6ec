-- `trial_steps::steps::command` meets its contract.
-- The idea: the leg is what `submit` hands back. Assumes nothing.
use Rattle.trial_steps.proofs.Stepped.{told_to}
use Rattle.trial_steps.proofs.steps.command.Goals as goal
use Rattle.trial_steps.proofs.steps.command.Goals.{in-Ok, in-Err}

pub returns-clause-goes : goal.returns-clause-goes
returns-clause-goes c = λ h. elim c.match-submit.branch [
  | in-Ok w ↦ rw w.leg-is (told_to _ _ _ w.in-Ok.ensures)
  | in-Err w ↦ rw w.leg-is (told_to _ _ _ w.in-Err.ensures)
]
