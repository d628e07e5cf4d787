-- What the code asks of one node for refusals 9 and 10: proofs/ShortForms shows that it comes to what 01 says (`refusal9`, `refusal10`).
-- Assumes nothing.
use Rattle.std.specs.Prelude.{Bool, ◌&&◌, ◌||◌, not, cond, ℕ}
use Rattle.finite.specs.Tests.{same}
use Rattle.finite.specs.Range.{children}
use Rattle.topology.specs.Lines.{NodeLines}
use Rattle.shapes.specs.Refusals.{leaf_at}

-- a node with species k, which c nodes have
unfoldable pub wrong_species : (leaf : Bool) (k c : ℕ) → Bool
wrong_species leaf k c = cond leaf (same k 0 || not (same c 1)) (not (same k 0))

unfoldable pub wrong_species_at : NodeLines → ℕ → Bool
wrong_species_at L v = wrong_species (leaf_at L v) (L.species v) (children L.size L.species (L.species v))

-- the principal parent of a node that is no reticulation; 0 of a reticulation. p and s are the node's parents
unfoldable pub plain_parent : (p s : ℕ) → ℕ
plain_parent p s = cond (same s 0) p 0

unfoldable pub plain_parent_at : NodeLines → ℕ → ℕ
plain_parent_at L w = plain_parent (L.principal w) (L.secondary w)

-- a node with a principal and b secondary arcs out, of which k lead to no reticulation
unfoldable pub only_reticulations : (a b k : ℕ) → Bool
only_reticulations a b k = same k 0 && (not (same a 0) || not (same b 0))
