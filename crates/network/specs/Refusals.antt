-- The refusals that the network's curator can cause by parents and stamps, 6 and 7 of 01: for each a test that computes, behind one name, and beside it
-- what 01 says (`Refusal6`, `Refusal7`), which proofs/Readings shows to be the same; and the list of them with those after them that ask no component,
-- 6 to 10. 0 is no parent.
-- Assumes nothing.
use Rattle.std.specs.Prelude.{◌≡◌, ◌≢◌, Bool, ◌&&◌, ◌||◌, not, List, ◌∷◌, ℕ, ◌≤◌, ◌<◌}
use Rattle.finite.specs.Tests.{same, under}
use Rattle.finite.specs.Range.{any, children}
use Rattle.finite.specs.Refusals.{Refusal}
use Rattle.topology.specs.Networks.{Node}
use Rattle.topology.specs.Lines.{NodeLines, network}
use Rattle.shapes.specs.Refusals.{shape_refusals}

-- 6: "a parent above n or equal to the node; not exactly one node without a principal parent (the root); the root has a secondary parent".
-- p and s are the parents of node v
unfoldable pub bad_parents : (n p s v : ℕ) → Bool
bad_parents n p s v = under n p || under n s || same p v || same s v || (same p 0 && not (same s 0))

unfoldable pub bad_parents_at : NodeLines → ℕ → Bool
bad_parents_at L v = bad_parents L.size (L.principal v) (L.secondary v) v

-- `children L.size L.principal 0` nodes have no principal parent
unfoldable pub refusal6 : NodeLines → Bool
refusal6 L = any L.size (bad_parents_at L) || not (same (children L.size L.principal 0) 1)

pub record OneRoot (L : NodeLines) : Type 0 where
  pub root : ℕ
  pub is_node : Node (network L) root
  pub no_parent : L.principal root ≡ 0
  pub alone : (v : ℕ) → Node (network L) v → L.principal v ≡ 0 → v ≡ root

pub data Refusal6 (L : NodeLines) : Type 0 where
  principal_above : (v : ℕ) → Node (network L) v → L.size < L.principal v → Refusal6 L
  secondary_above : (v : ℕ) → Node (network L) v → L.size < L.secondary v → Refusal6 L
  principal_itself : (v : ℕ) → Node (network L) v → L.principal v ≡ v → Refusal6 L
  secondary_itself : (v : ℕ) → Node (network L) v → L.secondary v ≡ v → Refusal6 L
  not_one_root : ¬ (OneRoot L) → Refusal6 L
  root_secondary : (v : ℕ) → Node (network L) v → L.principal v ≡ 0 → L.secondary v ≢ 0 → Refusal6 L

-- 7: "a principal parent's stamp is not below the node's, or a secondary parent's is not equal to it".
-- p and s are the parents of a node with the stamp t, tp and ts the parents' stamps
unfoldable pub bad_stamps : (p s tp ts t : ℕ) → Bool
bad_stamps p s tp ts t = (not (same p 0) && not (under tp t)) || (not (same s 0) && not (same ts t))

unfoldable pub bad_stamps_at : NodeLines → ℕ → Bool
bad_stamps_at L v = bad_stamps (L.principal v) (L.secondary v) (L.stamp (L.principal v)) (L.stamp (L.secondary v)) (L.stamp v)

unfoldable pub refusal7 : NodeLines → Bool
refusal7 L = any L.size (bad_stamps_at L)

pub data Refusal7 (L : NodeLines) : Type 0 where
  principal_not_below : (v : ℕ) → Node (network L) v → L.principal v ≢ 0 → L.stamp v ≤ L.stamp (L.principal v) → Refusal7 L
  secondary_not_equal : (v : ℕ) → Node (network L) v → L.secondary v ≢ 0 → L.stamp (L.secondary v) ≢ L.stamp v → Refusal7 L

-- the five in the order of checking, and what is left of them after 6
unfoldable pub after_six : NodeLines → List Refusal
after_six L = record { number = 7; test = refusal7 L; condition = Refusal7 L } ∷ shape_refusals L

unfoldable pub network_refusals : NodeLines → List Refusal
network_refusals L = record { number = 6; test = refusal6 L; condition = Refusal6 L } ∷ after_six L
