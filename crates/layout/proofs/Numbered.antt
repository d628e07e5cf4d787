-- The lines by number read as the columns have them: at a node or a gene the column is read, at any other number there is 0.
-- Assumes nothing.
use Rattle.std.proofs.Common.{◌≡◌, ℕ, ◌≤◌, refl}
use Rattle.finite.specs.Range.{children}
use Rattle.finite.specs.Tables.{at}
use Rattle.finite.proofs.Tables.{within_in}
use Rattle.finite.proofs.Count.{children_same}
use Rattle.topology.specs.Networks.{Node}
use Rattle.topology.specs.Lines.{network}
use Rattle.topology.proofs.Lines.{node_of}
use Rattle.layout.specs.declared.lines.NodeColumns.{NodeColumns}
use Rattle.layout.specs.declared.lines.GeneColumns.{GeneColumns}
use Rattle.layout.specs.Lines.{nodes_in, genes_in}

pub size_in : (n : ℕ) (l : NodeColumns) → (nodes_in n l).size ≡ n
unfolding nodes_in
size_in n l = refl

module _ (n : ℕ) (l : NodeColumns) (v : ℕ) (low : 1 ≤ v) (high : v ≤ n) where
  pub node_in : Node (network (nodes_in n l)) v
  unfolding nodes_in
  node_in = node_of (nodes_in n l) v low high

  pub principal_in : (nodes_in n l).principal v ≡ at l.principal v
  unfolding nodes_in
  principal_in = within_in n _ v low high

  pub secondary_in : (nodes_in n l).secondary v ≡ at l.secondary v
  unfolding nodes_in
  secondary_in = within_in n _ v low high

  pub stamp_in : (nodes_in n l).stamp v ≡ at l.stamp v
  unfolding nodes_in
  stamp_in = within_in n _ v low high

  pub species_in : (nodes_in n l).species v ≡ at l.species v
  unfolding nodes_in
  species_in = within_in n _ v low high

-- how many of the nodes have x in a field
module _ (n : ℕ) (l : NodeColumns) (x : ℕ) where
  pub principals_in : children (nodes_in n l).size (nodes_in n l).principal x ≡ children n (at l.principal) x
  unfolding nodes_in
  principals_in = children_same n _ _ x (λ v a b. within_in n (at l.principal) v a b)

  pub secondaries_in : children (nodes_in n l).size (nodes_in n l).secondary x ≡ children n (at l.secondary) x
  unfolding nodes_in
  secondaries_in = children_same n _ _ x (λ v a b. within_in n (at l.secondary) v a b)

  pub bearers_in : children (nodes_in n l).size (nodes_in n l).species x ≡ children n (at l.species) x
  unfolding nodes_in
  bearers_in = children_same n _ _ x (λ v a b. within_in n (at l.species) v a b)

module _ (m : ℕ) (l : GeneColumns) (g : ℕ) (low : 1 ≤ g) (high : g ≤ m) where
  pub gene_parent_in : (genes_in m l).parent g ≡ at l.parent g
  unfolding genes_in
  gene_parent_in = within_in m _ g low high

  pub gene_species_in : (genes_in m l).species g ≡ at l.species g
  unfolding genes_in
  gene_species_in = within_in m _ g low high
