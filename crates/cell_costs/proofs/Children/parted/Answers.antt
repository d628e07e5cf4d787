-- `cell_costs::Children::parted` meets its contract. Either child may go along the arc, and the answer is the lesser.
-- Assumes nothing.
use Rattle.std.proofs.Common.{◌∙◌}
use Rattle.cell_costs.proofs.Sums.{lesser_of, both_swap}
use Rattle.cell_costs.proofs.Children.parted.Goals as goal

pub returns : goal.returns
returns c = lesser_of _ _ _ c.min.ensures c.both.ensures (c.both-2.ensures ∙ both_swap _ _ _)
