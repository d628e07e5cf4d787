-- `cell_costs::inner_cost` meets its contract. Each return is one case of what leaves the node.
-- Assumes nothing.
use Rattle.std.proofs.Common.{◌∙◌}
use Rattle.histories.specs.Histories.{parting, moving}
use Rattle.cell_costs.specs.inner.Costs.{transferring, inner_cost}
use Rattle.cell_costs.proofs.Sums.{or_none, lesser_of}
use Rattle.cell_costs.proofs.inner_cost.Goals as goal

pub returns-in-Leaf : goal.returns-in-Leaf
unfolding inner_cost parting moving
returns-in-Leaf c = rw c.in-Leaf.is (c.both-here.ensures ∙ or_none _ ∙ or_none _)

pub returns-in-One : goal.returns-in-One
unfolding inner_cost parting moving
returns-in-One c = rw c.in-One.is (lesser_of _ _ _ c.min.ensures (c.both-here.ensures ∙ or_none _) c.after.ensures)

pub returns-in-Two : goal.returns-in-Two
unfolding inner_cost parting moving
returns-in-Two c = rw c.in-Two.is (lesser_of _ _ _ c.min-in-Two-2.ensures (lesser_of _ _ _ c.min-in-Two.ensures c.both-here.ensures c.parted.ensures) c.onward.ensures)

pub returns-in-Mixed : goal.returns-in-Mixed
unfolding inner_cost parting moving transferring
returns-in-Mixed c = rw c.in-Mixed.is (lesser_of _ _ _ c.min-in-Mixed-2.ensures (lesser_of _ _ _ c.min-in-Mixed.ensures c.both-here.ensures c.transferred.ensures) c.onward-in-Mixed.ensures)
