-- The refusals that the network's curator can cause by what a node is, 8, 9 and 10 of 01: for each a test that computes, behind one name, and beside it
-- what 01 says (`Refusal8` and so on), which proofs/Readings shows to be the same. 0 is no parent and no species.
-- Assumes nothing.
use Rattle.std.specs.Prelude.{◌≡◌, ◌≢◌, Bool, ◌&&◌, ◌||◌, not, List, [], ◌∷◌, ℕ, ◌+◌, ◌≤◌}
use Rattle.finite.specs.Tests.{same, under}
use Rattle.finite.specs.Range.{any, every, children}
use Rattle.finite.specs.Refusals.{Refusal}
use Rattle.topology.specs.Networks.{Network, Node}
use Rattle.topology.specs.Lines.{NodeLines, network}

-- 8: "a node is none of these: reticulation (two parents, one child, by a principal arc); inner node (no secondary parent, two arcs out, at least
-- one principal); leaf (no secondary parent, no arc out)". p and s are the node's parents, a and b the numbers of principal and of secondary
-- arcs out of it
unfoldable pub reticulation_with : (p s a b : ℕ) → Bool
reticulation_with p s a b = not (same p 0) && not (same s 0) && same a 1 && same b 0

unfoldable pub inner_with : (s a b : ℕ) → Bool
inner_with s a b = same s 0 && same (a + b) 2 && under 0 a

unfoldable pub leaf_with : (s a b : ℕ) → Bool
leaf_with s a b = same s 0 && same a 0 && same b 0

unfoldable pub shapeless : (p s a b : ℕ) → Bool
shapeless p s a b = not (reticulation_with p s a b || inner_with s a b || leaf_with s a b)

unfoldable pub shapeless_at : NodeLines → ℕ → Bool
shapeless_at L v = shapeless (L.principal v) (L.secondary v) (children L.size L.principal v) (children L.size L.secondary v)

unfoldable pub refusal8 : NodeLines → Bool
refusal8 L = any L.size (shapeless_at L)

-- node v of a network: `children N.size N.principal v` principal arcs leave it, and `children N.size N.secondary v` secondary ones
pub record IsReticulation (N : Network) (v : ℕ) : Type 0 where
  pub first_parent : N.principal v ≢ 0
  pub second_parent : N.secondary v ≢ 0
  pub one_principal : children N.size N.principal v ≡ 1
  pub no_secondary : children N.size N.secondary v ≡ 0

pub record IsInner (N : Network) (v : ℕ) : Type 0 where
  pub one_parent : N.secondary v ≡ 0
  pub two_arcs_lem : children N.size N.principal v + children N.size N.secondary v ≡ 2
  pub some_principal : 1 ≤ children N.size N.principal v

pub record IsLeaf (N : Network) (v : ℕ) : Type 0 where
  pub one_parent : N.secondary v ≡ 0
  pub no_principal : children N.size N.principal v ≡ 0
  pub no_secondary : children N.size N.secondary v ≡ 0

pub data Shape (N : Network) (v : ℕ) : Type 0 where
  reticulation : IsReticulation N v → Shape N v
  inner : IsInner N v → Shape N v
  leaf : IsLeaf N v → Shape N v

pub record Refusal8 (L : NodeLines) : Type 0 where
  pub node : ℕ
  pub is_node : Node (network L) node
  pub none : ¬ (Shape (network L) node)

-- 9: "a leaf without species, another node with one, or two leaves with the same"
unfoldable pub leaf_at : NodeLines → ℕ → Bool
leaf_at L v = leaf_with (L.secondary v) (children L.size L.principal v) (children L.size L.secondary v)

unfoldable pub refusal9 : NodeLines → Bool
refusal9 L =
    any L.size (λ v. leaf_at L v && same (L.species v) 0)
    || any L.size (λ v. not (leaf_at L v) && not (same (L.species v) 0))
    || any L.size (λ v. any L.size (λ w. leaf_at L v && leaf_at L w && not (same v w) && same (L.species v) (L.species w)))

pub data Refusal9 (L : NodeLines) : Type 0 where
  leaf_without : (v : ℕ) → Node (network L) v → IsLeaf (network L) v → L.species v ≡ 0 → Refusal9 L
  other_with_lem : (v : ℕ) → Node (network L) v → ¬ (IsLeaf (network L) v) → L.species v ≢ 0 → Refusal9 L
  two_alike : (v w : ℕ) → Node (network L) v → Node (network L) w → v ≢ w → IsLeaf (network L) v → IsLeaf (network L) w → L.species v ≡ L.species w → Refusal9 L

-- 10: "a node has children and all are reticulations". p and s are the parents of a node that may be a child of v
unfoldable pub child_with : (p s v : ℕ) → Bool
child_with p s v = same p v || same s v

unfoldable pub child_at : NodeLines → (v w : ℕ) → Bool
child_at L v w = child_with (L.principal w) (L.secondary w) v

-- w is a reticulation if it is a child of v
unfoldable pub reticulation_if_child : NodeLines → (v w : ℕ) → Bool
reticulation_if_child L v w = not (child_at L v w) || not (same (L.secondary w) 0)

unfoldable pub only_reticulations_at : NodeLines → ℕ → Bool
only_reticulations_at L v = any L.size (child_at L v) && every L.size (reticulation_if_child L v)

unfoldable pub refusal10 : NodeLines → Bool
refusal10 L = any L.size (only_reticulations_at L)

pub data Child (L : NodeLines) (v w : ℕ) : Type 0 where
  by_principal : L.principal w ≡ v → Child L v w
  by_secondary : L.secondary w ≡ v → Child L v w

pub record Refusal10 (L : NodeLines) : Type 0 where
  pub node : ℕ
  pub is_node : Node (network L) node
  pub child : ℕ
  pub child_node : Node (network L) child
  pub is_child : Child L node child
  pub all_reticulations : (w : ℕ) → Node (network L) w → Child L node w → L.secondary w ≢ 0

-- the three in the order of checking, and what is left of them after 8
unfoldable pub after_eight : NodeLines → List Refusal
after_eight L = record { number = 9; test = refusal9 L; condition = Refusal9 L } ∷ record { number = 10; test = refusal10 L; condition = Refusal10 L } ∷ []

unfoldable pub shape_refusals : NodeLines → List Refusal
shape_refusals L = record { number = 8; test = refusal8 L; condition = Refusal8 L } ∷ after_eight L
