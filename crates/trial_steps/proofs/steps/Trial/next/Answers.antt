-- `trial_steps::steps::Trial::next` meets its contract.
-- The idea: the byte says which step it is, and each step says what it makes of the leg. Assumes nothing.
use Rattle.trial_steps.proofs.Stepped.{next}
use Rattle.trial_steps.proofs.steps.Trial.next.Goals as goal

pub returns-in-1-clause-goes : goal.returns-in-1-clause-goes
returns-in-1-clause-goes c = λ h. next _ _ _ _ _ _ 1 _ c.hold.ensures c.number.ensures.value c.in-1.is (c.command.ensures.goes h)

pub returns-in-2-clause-goes : goal.returns-in-2-clause-goes
returns-in-2-clause-goes c = λ h. next _ _ _ _ _ _ 2 _ c.hold.ensures c.number.ensures.value c.in-2.is (c.block.ensures.goes h)

pub returns-in-3-clause-goes : goal.returns-in-3-clause-goes
returns-in-3-clause-goes c = λ h. next _ _ _ _ _ _ 3 _ c.hold.ensures c.number.ensures.value c.in-3.is (c.placed.ensures.goes h)

pub returns-in-4-clause-goes : goal.returns-in-4-clause-goes
returns-in-4-clause-goes c = λ h. next _ _ _ _ _ _ 4 _ c.hold.ensures c.number.ensures.value c.in-4.is (c.blocks-in-4.ensures.goes h)
