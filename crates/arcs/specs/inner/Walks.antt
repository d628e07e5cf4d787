-- The walk that puts the nodes in order: who stands at each place of the order, how many stand, and where each node stands, 0 for not yet.
-- Assumes nothing.
use Rattle.std.specs.Prelude.{◌≡◌, ◌≢◌, not, ℕ, ◌≤◌, ◌<◌, length}
use Rattle.finite.specs.Tests.{same}
use Rattle.finite.specs.Range.{count}
use Rattle.finite.specs.Tables.{at}
use Rattle.topology.specs.Networks.{Network, Node}
use Rattle.arcs.specs.declared.Walk.{Walk}

abbrev pub order : Walk → ℕ → ℕ
order w = at w.order

abbrev pub place : Walk → ℕ → ℕ
place w = at w.place

-- the nodes that stand do so without a gap, each after its parents
pub record Walked (N : Network) (w : Walk) : Type 0 where
  pub order_long : length w.order ≡ 128
  pub place_long : length w.place ≡ 128
  pub standing : w.standing ≡ count N.size (λ v. not (same (place w v) 0))
  pub visits : (v : ℕ) → Node N v → place w v ≢ 0 → order w (place w v) ≡ v
  pub high : (v : ℕ) → place w v ≤ w.standing
  pub elsewhere : (v : ℕ) → (Node N v → ⊥) → place w v ≡ 0
  pub node : (i : ℕ) → 1 ≤ i → i ≤ w.standing → Node N (order w i)
  pub placed : (i : ℕ) → 1 ≤ i → i ≤ w.standing → place w (order w i) ≡ i
  pub principal : (v : ℕ) → Node N v → place w v ≢ 0 → N.principal v ≢ 0 → (place w (N.principal v) ≢ 0) × (place w (N.principal v) < place w v)
  pub secondary : (v : ℕ) → Node N v → place w v ≢ 0 → N.secondary v ≢ 0 → (place w (N.secondary v) ≢ 0) × (place w (N.secondary v) < place w v)

-- v is a node whose parents stand
pub record Due (N : Network) (v : ℕ) (w : Walk) : Type 0 where
  pub node : Node N v
  pub principal : N.principal v ≢ 0 → place w (N.principal v) ≢ 0
  pub secondary : N.secondary v ≢ 0 → place w (N.secondary v) ≢ 0

-- what stood stands, and v does, if it is a node
pub record Visited (N : Network) (v : ℕ) (w w₁ : Walk) : Type 0 where
  pub walked : Walked N w₁
  pub stands : v ≢ 0 → place w₁ v ≢ 0
  pub stay : (u : ℕ) → place w u ≢ 0 → place w₁ u ≢ 0
