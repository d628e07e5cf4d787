-- The steps that end at the node are offered first, then those by which the gene moves on.
-- Assumes nothing.
use Rattle.tellings.specs.Chosen.{endings}
use Rattle.tellings.specs.inner.Walks.{Each}
use Rattle.tellings.proofs.Options.{each_left, each_right}
use Rattle.history_steps.proofs.StepChoices.{in_parts, first_then}
use Rattle.history_steps.proofs.StepChoice.lowest.Goals as goal

pub rests-ended-requires : goal.rests-ended-requires
unfolding endings
rests-ended-requires c = (c.requires.0, each_left _ _ _ (rw c.in-Tip.is at c.requires.1))

pub moves-requires : goal.moves-requires
moves-requires c = (c.requires.0, each_right _ _ _ c.requires.1)

pub parts-ended-requires : goal.parts-ended-requires
unfolding endings Each
parts-ended-requires c = (c.requires.0, each_left _ _ _ (rw c.in-Pair.is at c.requires.1).1)

pub moves-requires-in-Pair : goal.moves-requires-in-Pair
moves-requires-in-Pair c = (c.requires.0, each_right _ _ _ c.requires.1)

pub returns-in-Tip : goal.returns-in-Tip
unfolding endings
returns-in-Tip c = rw c.in-Tip.is (in_parts _ _ _ _ _ _ c.rests-ended.ensures c.moves.ensures)

pub returns-in-Pair : goal.returns-in-Pair
unfolding endings
returns-in-Pair c = rw c.in-Pair.is (first_then _ _ _ _ _ _ _ _ c.offer-here.ensures c.parts-ended.ensures c.moves-in-Pair.ensures)
