-- The gene tree that the gene lines describe (01, "The sheet"; its leaf genes sit at leaves of the network: "Settings and placement").
-- Assumes nothing.
use Rattle.std.specs.Prelude.{◌≡◌, ◌≢◌, ℕ, ◌≤◌}
use Rattle.finite.specs.Tables.{within}
use Rattle.tables.specs.Children.{next}
use Rattle.topology.specs.Lines.{NodeLines, GeneLines}
use Rattle.reconciliation.specs.GeneTrees.{GeneTree}
use Rattle.gene_tree.specs.Refusals.{bearer}

-- a gene's lowest-numbered child, the lowest-numbered after that, and the node that bears its species; 0 for none
unfoldable pub left_of : GeneLines → ℕ → ℕ
left_of K g = next K.count K.parent 0 g

unfoldable pub right_of : GeneLines → ℕ → ℕ
right_of K g = next K.count K.parent (left_of K g) g

unfoldable pub leaf_of : NodeLines → GeneLines → ℕ → ℕ
leaf_of L K g = bearer L (K.species g)

-- what is no gene has 0 everywhere
unfoldable pub gene_tree_of : NodeLines → GeneLines → GeneTree
gene_tree_of L K = record {
  count = K.count;
  left = within K.count (left_of K);
  right = within K.count (right_of K);
  leaf = within K.count (leaf_of L K);
  parent = within K.count K.parent;
}

-- what refusal 13 leaves of a leaf gene g: it has a species, and node v bears it
pub record SeatAt (L : NodeLines) (K : GeneLines) (g v : ℕ) : Type 0 where
  pub low : 1 ≤ v
  pub high : v ≤ L.size
  pub some : K.species g ≢ 0
  pub bears : L.species v ≡ K.species g
