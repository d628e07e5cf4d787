-- `cell_costs::Children::transferred` meets its contract. The other child stays or takes the principal arc, and the answer is the lesser.
-- Assumes nothing.
use Rattle.cell_costs.specs.inner.Costs.{transferring}
use Rattle.cell_costs.proofs.Sums.{lesser_of}
use Rattle.cell_costs.proofs.Children.transferred.Goals as goal

pub returns : goal.returns
unfolding transferring
returns c = lesser_of _ _ _ c.min.ensures c.parted.ensures c.parted-2.ensures
