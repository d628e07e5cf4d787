-- A step ends, leaves two children or leads on, and the sum of its cost and of the words there is what it costs with what follows it.
-- Assumes nothing.
use Rattle.tellings.specs.Chosen.{onward}
use Rattle.history_steps.proofs.StepChoices.{splits_of, here_of, goes_of, cells_apart, cells_on, sum_apart, sum_on, sum_rest}
use Rattle.history_steps.proofs.StepChoice.total.Goals as goal

pub both-requires : goal.both-requires
both-requires c = let r = cells_apart _ _ (here_of c.in-Duplication.is) c.requires.1 in (c.cost-c.ensures.1, r.0, r.1)

pub after-requires : goal.after-requires
after-requires c = (c.cost-c.ensures.1, cells_on _ _ (goes_of c.in-LossGoingDown.is) c.requires.1)

pub both-requires-in-Speciation : goal.both-requires-in-Speciation
both-requires-in-Speciation c = let r = cells_apart _ _ (splits_of c.in-Speciation.is) c.requires.1 in (c.cost-c.ensures.1, r.0, r.1)

pub returns-in-Rest : goal.returns-in-Rest
unfolding onward
returns-in-Rest c = sum_rest _ _ _ (rw c.in-Rest.is) c.cost-c.ensures.1 c.cost-c.ensures.0

pub returns-in-Duplication : goal.returns-in-Duplication
returns-in-Duplication c = sum_apart _ _ (here_of c.in-Duplication.is) _ _ c.cost-c.ensures.0 c.both.ensures

pub returns-in-LossGoingDown : goal.returns-in-LossGoingDown
returns-in-LossGoingDown c = sum_on _ _ (goes_of c.in-LossGoingDown.is) _ _ c.cost-c.ensures.0 c.after.ensures

pub returns-in-Speciation : goal.returns-in-Speciation
returns-in-Speciation c = sum_apart _ _ (splits_of c.in-Speciation.is) _ _ c.cost-c.ensures.0 c.both-in-Speciation.ensures
