-- The gene family of a sheet (01, "The network as a whole": "All arcs are on"): what leaves each node by the parents in the network lines, and each
-- gene's children by the gene tree and its species by the gene lines.
-- Assumes nothing.
use Rattle.std.specs.Prelude.{◌≡◌, ◌≢◌, ◌⊎◌, ◌↔◌, cond, ◌&&◌, ℕ, suc}
use Rattle.finite.specs.Tests.{same, under}
unfoldable pub use Rattle.tables.specs.Children.{is_next, next}
use Rattle.topology.specs.Networks.{Node, NoArcs}
use Rattle.topology.specs.Lines.{NodeLines, GeneLines, network}
use Rattle.reconciliation.specs.GeneTrees.{GeneTree}
use Rattle.reconciliation.specs.Costs.{Costs}
use Rattle.histories.specs.Histories.{Out, leaf, one, two, mixed, Gene, tip, pair, Family}

-- the arcs out of a node of species s with the principal children x and y and the secondary child z, 0 for none
unfoldable pub out_by : (x y z s : ℕ) → Out
out_by x y z s = cond (same x 0) (leaf s) (cond (same y 0) (cond (same z 0) (one x) (mixed x z)) (two x y))

-- a gene with the children a and b, 0 for none, or of species s
unfoldable pub gene_by : (a b s : ℕ) → Gene
gene_by a b s = cond (same a 0) (tip s) (pair a b)

module _ (L : NodeLines) where
  -- the first and the second child of a node by principal arcs, by number, and its first by a secondary arc; 0 for none
  unfoldable pub first_child : ℕ → ℕ
  first_child v = next L.size L.principal 0 v

  unfoldable pub second_child : ℕ → ℕ
  second_child v = next L.size L.principal (first_child v) v

  unfoldable pub other_child : ℕ → ℕ
  other_child v = next L.size L.secondary 0 v

  -- what is no node is a leaf of no species
  unfoldable pub out_of : ℕ → Out
  out_of v = cond (under 0 v && under v (suc L.size)) (out_by (first_child v) (second_child v) (other_child v) (L.species v)) (leaf 0)

unfoldable pub gene_of : GeneLines → GeneTree → ℕ → Gene
gene_of K G g = gene_by (G.left g) (G.right g) (K.species g)

unfoldable pub family_of : NodeLines → GeneLines → GeneTree → Costs → Family
family_of L K G C = record {
  nodes = L.size;
  genes = G.count;
  out = out_of L;
  gene = gene_of K G;
  costs = C;
}

-- what leaves a node, arc by arc: x is the end of a principal arc, of a secondary arc
unfoldable pub PrincipalEnd : Out → ℕ → Type 0
PrincipalEnd (leaf s) x = ⊥
PrincipalEnd (one a) x = x ≡ a
PrincipalEnd (two a b) x = (x ≡ a) ⊎ (x ≡ b)
PrincipalEnd (mixed a b) x = x ≡ a

unfoldable pub SecondaryEnd : Out → ℕ → Type 0
SecondaryEnd (leaf s) x = ⊥
SecondaryEnd (one a) x = ⊥
SecondaryEnd (two a b) x = ⊥
SecondaryEnd (mixed a b) x = x ≡ b

-- a family's view of the network and of the gene tree that the mapping knows: the arcs out of a node lead to the nodes that have it as principal or as
-- secondary parent, a leaf is a node that no arc leaves, with its line's species, and a gene has its children, or as a leaf gene its line's species
pub record Describes (L : NodeLines) (K : GeneLines) (G : GeneTree) (C : Costs) (F : Family) : Type 0 where
  pub nodes : F.nodes ≡ (network L).size
  pub genes : F.genes ≡ G.count
  pub costs : F.costs ≡ C
  pub principal : (v x : ℕ) → Node (network L) v → PrincipalEnd (F.out v) x ↔ (Node (network L) x × ((network L).principal x ≡ v))
  pub secondary : (v x : ℕ) → Node (network L) v → SecondaryEnd (F.out v) x ↔ (Node (network L) x × ((network L).secondary x ≡ v))
  pub leaves : (v s : ℕ) → Node (network L) v → (F.out v ≡ leaf s) ↔ (NoArcs (network L) v × (L.species v ≡ s))
  pub pairs : (g a b : ℕ) → (F.gene g ≡ pair a b) ↔ ((G.left g ≢ 0) × (a ≡ G.left g) × (b ≡ G.right g))
  pub tips : (g s : ℕ) → (F.gene g ≡ tip s) ↔ ((G.left g ≡ 0) × (s ≡ K.species g))

-- whoever unfolds this unfolds all of this file
unfoldable pub open_Families : Unit {0}
unfolding is_next next out_by gene_by first_child second_child other_child out_of gene_of family_of
open_Families = tt
