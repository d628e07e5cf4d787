-- The test on words is the test on costs.
-- Assumes nothing.
use Rattle.history_steps.proofs.StepChoices.{taken, passed}
use Rattle.history_steps.proofs.StepChoice.offer.Goals as goal

pub returns-then-total-self : goal.returns-then-total-self
returns-then-total-self c = taken _ _ c.requires.0 _ c.total.ensures _ _ _ c.if-total-self.true c.number.ensures c.min.ensures

pub returns-else-total-self : goal.returns-else-total-self
returns-else-total-self c = passed _ _ c.requires.0 _ c.total.ensures _ c.if-total-self.false
