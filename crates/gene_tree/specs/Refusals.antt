-- Refusals 12 and 13 (01, "Refusals": "The gene tree's curator") over the lines of a sheet. Each is said twice, as a test that computes and clause by
-- clause; proofs/Refusals joins the two.
-- Assumes nothing.
use Rattle.std.specs.Prelude.{◌≡◌, ◌≢◌, Bool, cond, ◌||◌, not, List, [], ◌∷◌, ℕ, ◌≤◌}
use Rattle.finite.specs.Tests.{same, under}
use Rattle.finite.specs.Range.{any, children}
use Rattle.finite.specs.Refusals.{Refusal}
use Rattle.tables.specs.Children.{next}
use Rattle.topology.specs.Lines.{Gene, NodeLines, GeneLines}

-- how many children gene g has
unfoldable pub child_count : GeneLines → ℕ → ℕ
child_count K g = children K.count K.parent g

-- 12, "gene 1 has a parent; another gene's parent is 0 or not below its own number": one of these is so of gene g with the parent p
unfoldable pub bad_parent : (g p : ℕ) → Bool
bad_parent g p = cond (same g 1) (not (same p 0)) (same p 0 || not (under p g))

-- 12, "a gene has neither 0 nor 2 children": a gene has k
unfoldable pub bad_count : (k : ℕ) → Bool
bad_count k = not (same k 0 || same k 2)

unfoldable pub bad_gene_at : GeneLines → ℕ → Bool
bad_gene_at K g = bad_parent g (K.parent g) || bad_count (child_count K g)

unfoldable pub refusal12 : GeneLines → Bool
refusal12 K = any K.count (bad_gene_at K)

-- 12 as 01 words it
pub data Refusal12 (K : GeneLines) : Type 0 where
  first_has_parent : Gene K 1 → K.parent 1 ≢ 0 → Refusal12 K
  no_parent : (g : ℕ) → Gene K g → g ≢ 1 → K.parent g ≡ 0 → Refusal12 K
  parent_not_below : (g : ℕ) → Gene K g → g ≢ 1 → g ≤ K.parent g → Refusal12 K
  children_amiss : (g : ℕ) → Gene K g → child_count K g ≢ 0 → child_count K g ≢ 2 → Refusal12 K

-- the node that bears species s: the lowest with that entry, 0 where there is none, or where s is no species
unfoldable pub bearer : NodeLines → ℕ → ℕ
bearer L s = cond (same s 0) 0 (next L.size L.species 0 s)

-- 13, "a leaf's species is not in the network, or an inner gene has one": one of these is so of a gene with k children, of species s
unfoldable pub bad_species : NodeLines → (k s : ℕ) → Bool
bad_species L k s = cond (same k 0) (same (bearer L s) 0) (not (same s 0))

unfoldable pub bad_species_at : NodeLines → GeneLines → ℕ → Bool
bad_species_at L K g = bad_species L (child_count K g) (K.species g)

unfoldable pub refusal13 : NodeLines → GeneLines → Bool
refusal13 L K = any K.count (bad_species_at L K)

-- 13 as 01 words it; 0 is no species, though nodes other than leaves have it
pub data Refusal13 (L : NodeLines) (K : GeneLines) : Type 0 where
  leaf_without_species : (g : ℕ) → Gene K g → child_count K g ≡ 0 → K.species g ≡ 0 → Refusal13 L K
  leaf_unknown : (g : ℕ) → Gene K g → child_count K g ≡ 0 → ((v : ℕ) → 1 ≤ v → v ≤ L.size → L.species v ≢ K.species g) → Refusal13 L K
  inner_with_species : (g : ℕ) → Gene K g → child_count K g ≢ 0 → K.species g ≢ 0 → Refusal13 L K

-- the refusals of the gene lines in the order of checking, and those from 13 on
unfoldable pub species_refusals : NodeLines → GeneLines → List Refusal
species_refusals L K = record { number = 13; test = refusal13 L K; condition = Refusal13 L K } ∷ []

unfoldable pub gene_refusals : NodeLines → GeneLines → List Refusal
gene_refusals L K = record { number = 12; test = refusal12 K; condition = Refusal12 K } ∷ species_refusals L K
