-- `cell_costs::tip_cost` meets its contract. Each return is one case of what leaves the node.
-- Assumes nothing.
use Rattle.std.proofs.Common.{◌∙◌}
use Rattle.histories.specs.Histories.{◌lesser◌, resting, moving}
use Rattle.cell_costs.specs.inner.Costs.{tip_cost}
use Rattle.cell_costs.proofs.Sums.{or_none}
use Rattle.cell_costs.proofs.tip_cost.Goals as goal

pub returns-in-Leaf : goal.returns-in-Leaf
unfolding tip_cost moving
returns-in-Leaf c = rw c.in-Leaf.is (c.rest.ensures ∙ or_none _)

pub returns-in-One : goal.returns-in-One
unfolding tip_cost resting moving ◌lesser◌
returns-in-One c = rw c.in-One.is c.after.ensures

pub returns-in-Two : goal.returns-in-Two
unfolding tip_cost resting moving ◌lesser◌
returns-in-Two c = rw c.in-Two.is c.onward.ensures

pub returns-in-Mixed : goal.returns-in-Mixed
unfolding tip_cost resting moving ◌lesser◌
returns-in-Mixed c = rw c.in-Mixed.is c.onward-in-Mixed.ensures
