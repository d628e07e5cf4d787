-- A sheet that no refusal turns away: its lines and costs.
-- Assumes nothing.
use Rattle.std.specs.Prelude.{◌≡◌}
use Rattle.finite.specs.Refusals.{verdict}
use Rattle.topology.specs.Lines.{NodeLines, GeneLines}
use Rattle.reconciliation.specs.Costs.{Costs}
use Rattle.reconciliation.specs.Limits.{Limits}
use Rattle.network.specs.inner.Accepted.{NoOthers}
use Rattle.network.specs.Refusals.{network_refusals}
use Rattle.components.specs.Refusals.{component_refusals}
use Rattle.gene_tree.specs.Refusals.{gene_refusals}

-- the header is within its limits (4), and neither the network's nor the gene tree's refusals apply (6 to 13)
pub record Admitted (L : NodeLines) (K : GeneLines) (C : Costs) : Type 0 where
  pub limits : Limits L.size K.count C
  pub others : NoOthers L
  pub network : verdict (network_refusals L) ≡ 0
  pub component : verdict (component_refusals L) ≡ 0
  pub genes : verdict (gene_refusals L K) ≡ 0
