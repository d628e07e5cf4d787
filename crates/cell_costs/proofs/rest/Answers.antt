-- `cell_costs::rest` meets its contract. Each return is one case of resting, by the two species.
-- Assumes nothing.
use Rattle.std.proofs.Common.{◌∙◌, arith}
use Rattle.finite.proofs.Tests.{is_same, not_same}
use Rattle.histories.specs.Histories.{resting}
use Rattle.cell_costs.proofs.Sums.{sum_none, sum_some}
use Rattle.cell_costs.proofs.rest.Goals as goal

pub returns-then-gene_species-node_species : goal.returns-then-gene_species-node_species
unfolding resting
returns-then-gene_species-node_species c = sum_some (omega arith) ∙ rw (is_same c.if-gene_species-node_species.true)

pub returns-else-gene_species-node_species : goal.returns-else-gene_species-node_species
unfolding resting
returns-else-gene_species-node_species c = sum_none (omega arith) ∙ rw (not_same c.if-gene_species-node_species.false)
