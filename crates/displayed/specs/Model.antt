-- The mapping of a gene tree into a network under a switching is that into the tree that the network displays. The promises go by these names.
-- Assumes nothing.
use Rattle.std.specs.Prelude.{ℕ}
use Rattle.topology.specs.Networks.{Network}
use Rattle.topology.specs.Switchings.{Switching}
use Rattle.reconciliation.specs.GeneTrees.{GeneTree}
use Rattle.reconciliation.specs.Costs.{Costs}
use Rattle.displayed.specs.Displayed.{Displayed}
use Rattle.displayed.specs.Mapping as T
use Rattle.displayed.specs.Displays.{displayed, base}

abbrev pub tree_of : Network → Switching → Displayed
tree_of N σ = displayed N base σ

module _ (N : Network) (G : GeneTree) (σ : Switching) where
  unfoldable pub place : ℕ → ℕ
  place = T.place (tree_of N σ) G

  unfoldable pub event : ℕ → ℕ
  event = T.event (tree_of N σ) G

  unfoldable pub transfers : ℕ → ℕ
  transfers = T.transfers (tree_of N σ) G

  unfoldable pub losses : ℕ → ℕ
  losses = T.losses (tree_of N σ) G

  unfoldable pub duplication_count : ℕ
  duplication_count = T.duplication_count (tree_of N σ) G

  unfoldable pub transfer_count : ℕ
  transfer_count = T.transfer_count (tree_of N σ) G

  unfoldable pub loss_count : ℕ
  loss_count = T.loss_count (tree_of N σ) G

unfoldable pub lca_cost : Network → GeneTree → Costs → Switching → ℕ
lca_cost N G C σ = T.lca_cost (tree_of N σ) G C
