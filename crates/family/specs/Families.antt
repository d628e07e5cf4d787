-- A family: its lines and costs, and the network, the gene tree and the gene family of the whole network that they describe; the setting reported.
-- Assumes nothing.
use Rattle.topology.specs.Networks.{Network}
use Rattle.topology.specs.Switchings.{Switching}
use Rattle.topology.specs.Lines.{NodeLines, GeneLines, network}
use Rattle.reconciliation.specs.GeneTrees.{GeneTree}
use Rattle.reconciliation.specs.Costs.{Costs}
use Rattle.gene_tree.specs.Genes.{gene_tree_of}
use Rattle.optimum.specs.Optimum.{chosen}
use Rattle.histories.specs.Histories.{Family}
use Rattle.histories.specs.Families.{family_of}

-- the lines and the costs of a family
pub record Contents : Type 0 where
  pub nodes : NodeLines
  pub genes : GeneLines
  pub costs : Costs

module _ (X : Contents) where
  unfoldable pub network_in : Network
  network_in = network X.nodes

  unfoldable pub gene_tree_in : GeneTree
  gene_tree_in = gene_tree_of X.nodes X.genes

  -- the family as the whole-network cost takes it
  unfoldable pub family_in : Family
  family_in = family_of X.nodes X.genes (gene_tree_of X.nodes X.genes) X.costs

  -- the setting reported
  unfoldable pub reported : Switching
  reported = chosen network_in gene_tree_in X.costs
