-- What a network is to which none of the refusals 6 to 10 applies, for the layers above.
-- Assumes nothing.
use Rattle.std.specs.Prelude.{◌≡◌, ◌≢◌, ℕ, ◌<◌}
use Rattle.topology.specs.Networks.{Network, Node, Sound}
use Rattle.topology.specs.Lines.{NodeLines, network}
use Rattle.shapes.specs.Refusals.{IsLeaf, Shape}

-- a number that is no node has no parents, as the columns have it (`nodes_in`)
pub record NoOthers (L : NodeLines) : Type 0 where
  pub zero_principal : L.principal 0 ≡ 0
  pub zero_secondary : L.secondary 0 ≡ 0
  pub out_principal : (v : ℕ) → L.size < v → L.principal v ≡ 0
  pub out_secondary : (v : ℕ) → L.size < v → L.secondary v ≡ 0

-- a child of v by a principal arc that is no reticulation
pub record PlainChild (N : Network) (v : ℕ) : Type 0 where
  pub child : ℕ
  pub is_node : Node N child
  pub is_child : N.principal child ≡ v
  pub plain : N.secondary child ≡ 0

-- what the verdict 0 says of the network and its species
pub record AcceptedNetwork (L : NodeLines) : Type 0 where
  pub sound : Sound (network L)
  pub shape : (v : ℕ) → Node (network L) v → Shape (network L) v
  pub leaf_species : (v : ℕ) → Node (network L) v → IsLeaf (network L) v → L.species v ≢ 0
  pub other_species : (v : ℕ) → Node (network L) v → ¬ (IsLeaf (network L) v) → L.species v ≡ 0
  pub distinct : (v w : ℕ) → Node (network L) v → Node (network L) w → IsLeaf (network L) v → IsLeaf (network L) w → L.species v ≡ L.species w → v ≡ w
  pub plain_child : (v : ℕ) → Node (network L) v → ¬ (IsLeaf (network L) v) → PlainChild (network L) v
