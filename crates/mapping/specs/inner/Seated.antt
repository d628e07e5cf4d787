-- The two trees of what is mapped.
-- Assumes nothing.
use Rattle.layout.specs.inner.Genes.{gene_tree}
use Rattle.reconciliation.specs.GeneTrees.{GeneTree}
use Rattle.displayed.specs.Displayed.{Displayed}
use Rattle.mapping.specs.inner.Climbs.{tree_of}
use Rattle.mapping.specs.declared.seated.SeatedGenes.{SeatedGenes}

abbrev pub displayed_in : SeatedGenes → Displayed
displayed_in s = tree_of s.header.nodes s.tree.now

abbrev pub genes_in : SeatedGenes → GeneTree
genes_in s = gene_tree s.header.genes s.genes.now
