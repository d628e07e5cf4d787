-- The last-common-ancestor cost is local: displayed trees are alike at v where the switchings agree in v's component, so v is charged the same.
-- Assumes nothing.
use Rattle.std.proofs.Common.{ℕ, arith}
use Rattle.topology.specs.Networks.{Network, Sound}
use Rattle.topology.specs.Switchings.{Switching}
use Rattle.reconciliation.specs.GeneTrees.{GeneTree, Rooted, Seated}
use Rattle.reconciliation.specs.Costs.{Costs}
use Rattle.displayed.specs.inner.Charges as T
use Rattle.displayed.specs.Displays.{switched, display, base}
use Rattle.displayed.specs.Model.{tree_of, lca_cost}
use Rattle.displayed.proofs.Nodes.{cost_nodes}
use Rattle.displayed.proofs.Locality.{charge_local}
use Rattle.displayed.proofs.Displays.{display_alike, base_near}
use Rattle.displayed.proofs.Model.{tree_is, tree_seated}
use Rattle.optimum.specs.Optimum.{Local}

-- what node v is charged
abbrev pub charge : Network → GeneTree → Costs → Switching → ℕ → ℕ
charge N G C σ = T.charge (tree_of N σ) G C

pub charged : (N : Network) → Sound N → (G : GeneTree) → Rooted G → Seated N G → (C : Costs) → Local N (lca_cost N G C) (charge N G C)
unfolding display switched lca_cost
charged N ok G t s C = record {
  sums = λ σ. cost_nodes (tree_of N σ) (tree_is N ok σ) G t (tree_seated N ok σ G t s) C;
  near = λ σ τ v k a. charge_local (tree_of N σ) (tree_of N τ) (tree_is N ok σ) (tree_is N ok τ) G v (λ e. omega (arith, k.low))
      (display_alike N ok σ τ v k a base (base_near N ok)) C;
}
