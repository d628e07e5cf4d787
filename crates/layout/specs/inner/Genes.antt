-- The table of a gene tree: of each gene its children, 0 for a leaf gene, the node of a leaf gene, and its parent.
-- Assumes nothing.
use Rattle.std.specs.Prelude.{ℕ}
use Rattle.finite.specs.Tables.{at}
use Rattle.reconciliation.specs.GeneTrees.{GeneTree}
use Rattle.layout.specs.declared.genes.Genes.{Genes}

abbrev pub left : Genes → ℕ → ℕ
left t = at t.left

abbrev pub right : Genes → ℕ → ℕ
right t = at t.right

abbrev pub leaf : Genes → ℕ → ℕ
leaf t = at t.leaf

abbrev pub parent : Genes → ℕ → ℕ
parent t = at t.parent

-- the gene tree of the genes 1 .. m
unfoldable pub gene_tree : ℕ → Genes → GeneTree
gene_tree m t = record { count = m; left = left t; right = right t; leaf = leaf t; parent = parent t }
