-- The tree is turned to the settings of the column and the genes are mapped into it, so the score is that of the switching put together from the
-- column.
-- Assumes nothing.
use Rattle.search.proofs.Turns.{family_held, assembly}
use Rattle.search.proofs.given.Given.evaluated.Goals as goal

pub invariant_of-seated : goal.invariant_of-seated
invariant_of-seated c = record { family = family_held c.args.self.now _ c.switch.ensures }

pub returns : goal.returns
returns c = assembly c.args.self.now _ c.switch.ensures c.evaluate.ensures.score c.evaluate.ensures.evaluated
