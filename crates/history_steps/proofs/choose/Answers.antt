-- What the steps cost by the words of the table judges them as the least costs do (proofs/Choices), so the step of the lowest number is the choice.
-- Assumes nothing.
use Rattle.history_steps.proofs.Choices.{node_few, choice_asks, choice_ready, choice_fit, chosen}
use Rattle.history_steps.proofs.choose.Goals as goal

pub out-out-requires : goal.out-out-requires
out-out-requires c = node_few _ _ c.requires.0 _ c.requires.1 _ c.requires.2

pub choice_at-choice-requires : goal.choice_at-choice-requires
choice_at-choice-requires c = choice_asks _ _ c.requires.0 _ c.requires.1 _ c.requires.2

pub lowest-requires : goal.lowest-requires
lowest-requires c = let t = c.choice_at-choice in
    (choice_ready _ _ c.requires.0 _ c.requires.1 _ c.requires.2 _ c.out-out.ensures _ t.ensures, choice_fit _ _ c.requires.0 _ c.requires.1 _ c.requires.2 _ c.out-out.ensures _ t.ensures)

pub returns : goal.returns
returns c = chosen _ _ c.requires.0 _ c.requires.1 _ c.requires.2 _ c.out-out.ensures _ c.choice_at-choice.ensures _ c.lowest.ensures _ c.of_number.ensures
