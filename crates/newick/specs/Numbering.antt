-- The numbering as laws have it: where the genes of a subtree stand, and the tree that gene lines describe.
-- Assumes nothing.
use Rattle.std.specs.Prelude.{ℕ, suc, ◌+◌, ◌<◌, ◌≡◌, ◌≢◌, ◌⊎◌}
use Rattle.topology.specs.Lines.{GeneLines, Gene}
use Rattle.newick.specs.Trees.{Tree, leaf, pair, genes}

-- "Genes are numbered as met from the left, each pair before its members": the genes of t are numbered from g on, and the parent of gene g is up
unfoldable pub Numbered : GeneLines → (g up : ℕ) → Tree → Type 0
Numbered K g up (leaf s) = Gene K g × (K.parent g ≡ up) × (K.species g ≡ s)
Numbered K g up (pair l r) = Gene K g × (K.parent g ≡ up) × (K.species g ≡ 0) × Numbered K (suc g) g l × Numbered K (suc g + genes l) g r

-- a leaf gene of species s: no gene has it for a parent
pub record LeafGene (K : GeneLines) (g s : ℕ) : Type 0 where
  pub gene : Gene K g
  pub species_is : K.species g ≡ s
  pub childless : (x : ℕ) → Gene K x → K.parent x ≢ g

-- a gene with exactly the two children a and b, the first of which is a
pub record PairGene (K : GeneLines) (g a b : ℕ) : Type 0 where
  pub gene : Gene K g
  pub no_species : K.species g ≡ 0
  pub order : a < b
  pub left_child : K.parent a ≡ g
  pub right_child : K.parent b ≡ g
  pub no_others : (x : ℕ) → Gene K x → K.parent x ≡ g → (x ≡ a) ⊎ (x ≡ b)

-- gene g of the lines and what is below it are the tree t
unfoldable pub Describes : GeneLines → (g : ℕ) → Tree → Type 0
Describes K g (leaf s) = LeafGene K g s
Describes K g (pair l r) = (a : ℕ) × (b : ℕ) × PairGene K g a b × Describes K a l × Describes K b r
