-- The gene tree that the gene lines describe, as 01 words it ("The sheet", and "Settings and placement" for the leaf genes).
-- Assumes nothing.
use Rattle.std.specs.Prelude.{◌≡◌, ◌≢◌, ◌↔◌, ◌⊎◌, ℕ, ◌<◌}
use Rattle.topology.specs.Networks.{Node, NoArcs}
use Rattle.topology.specs.Lines.{NodeLines, GeneLines, Gene, network}
use Rattle.reconciliation.specs.GeneTrees.{GeneTree}

-- parents as the lines have them; a leaf gene is no gene's parent; an inner gene has the two children of rising number that have it as parent; and a leaf
-- gene's seat is "its species' leaf"
pub record GenesOf (L : NodeLines) (K : GeneLines) (G : GeneTree) : Type 0 where
  pub number : G.count ≡ K.count
  pub parents : (g : ℕ) → Gene K g → G.parent g ≡ K.parent g
  pub leaf_genes : (g a : ℕ) → Gene K g → G.left g ≡ 0 → Gene K a → K.parent a ≢ g
  pub children : (g a : ℕ) → Gene K g → G.left g ≢ 0 → (Gene K a × (K.parent a ≡ g)) ↔ ((a ≡ G.left g) ⊎ (a ≡ G.right g))
  pub rising : (g : ℕ) → Gene K g → G.left g ≢ 0 → G.left g < G.right g
  pub seats : (g : ℕ) → Gene K g → G.left g ≡ 0 → Node (network L) (G.leaf g) × NoArcs (network L) (G.leaf g) × (L.species (G.leaf g) ≡ K.species g)
