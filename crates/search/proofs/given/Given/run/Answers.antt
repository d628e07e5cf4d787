-- The steps reach the machine's last state (proofs/Steps); the switching of its bests is then evaluated, and crate optimum says that it is the
-- cheapest (proofs/Turns).
-- Assumes nothing.
use Rattle.search.proofs.Turns.{works_first, leaves_low, searched}
use Rattle.search.proofs.given.Given.run.Goals as goal

pub start-requires : goal.start-requires
start-requires c = c.requires.1

pub seat_leaves-requires : goal.seat_leaves-requires
seat_leaves-requires c = let g = c.args.self.now in (g.network.lines.now.within.few_genes, leaves_low g, c.requires.2)

pub components-trials-requires : goal.components-trials-requires
components-trials-requires c = (works_first c.args.self.now c.start.ensures c.seat_leaves.ensures, c.requires.0)

pub returns : goal.returns
returns c = searched c.args.self.now c.components-trials.ensures.last c.evaluated-score.ensures
