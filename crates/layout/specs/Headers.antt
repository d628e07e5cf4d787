-- The header of a sheet and its limits (01, "The sheet").
-- Assumes nothing.
use Rattle.std.specs.Prelude.{◌≤◌}
use Rattle.reconciliation.specs.Costs.{Costs}
use Rattle.reconciliation.specs.Limits.{Limits}
use Rattle.layout.specs.declared.Header.{Header}

-- "costs of a duplication (D), a transfer (T) and a loss (L)"
abbrev pub costs : Header → Costs
costs h = record { duplication = h.duplication; transfer = h.transfer; loss = h.loss }

-- its numbers are within the limits
abbrev pub WithinLimits : Header → Type 0
WithinLimits h = Limits h.nodes h.genes (costs h)

-- it has as many nodes and genes as the columns hold: all that reading a column asks
pub record FewLines (h : Header) : Type 0 where
  pub few_nodes : h.nodes ≤ 127
  pub few_genes : h.genes ≤ 127
