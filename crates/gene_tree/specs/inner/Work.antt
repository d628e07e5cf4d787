-- What is worked out first: of each gene how many children it has, of each number up to the last node's the node that bears it as a species.
-- Assumes nothing.
use Rattle.std.specs.Prelude.{◌≡◌, List, ℕ, ◌≤◌}
use Rattle.finite.specs.Tables.{at, zeros}
use Rattle.topology.specs.Lines.{Gene, NodeLines, GeneLines}
use Rattle.layout.specs.declared.genes.Genes.{Genes}
use Rattle.gene_tree.specs.Refusals.{child_count, bearer}

pub record ChildCounts (K : GeneLines) (c : List ℕ) : Type 0 where
  pub counts : (g : ℕ) → Gene K g → at c g ≡ child_count K g

pub record Bearers (L : NodeLines) (c : List ℕ) : Type 0 where
  pub bearers : (s : ℕ) → s ≤ L.size → at c s ≡ bearer L s

-- a table of genes without entries
abbrev pub blank : Genes
blank = record { left = zeros; right = zeros; leaf = zeros; parent = zeros }
