-- What the least costs of a family rest on: histories go down in the network and in the gene tree, so they end.
-- Assumes nothing.
use Rattle.std.specs.Prelude.{◌≡◌, ◌≢◌, ℕ, suc, ◌+◌, ◌≤◌, ◌<◌}
use Rattle.topology.specs.Networks.{Network, Node}
use Rattle.reconciliation.specs.Limits.{Limits}
use Rattle.histories.specs.Histories.{Out, leaf, one, two, mixed, pair, Family}

-- every arc out leads to where `below` holds
unfoldable pub Leads : (below : ℕ → Type 0) → Out → Type 0
Leads below (leaf s) = Unit {0}
Leads below (one x) = below x
Leads below (two x y) = below x × below y
Leads below (mixed x y) = below x × below y

-- a height that falls along every arc, and for each gene a size that exceeds its children's together
pub record Graded (F : Family) : Type 0 where
  pub height : ℕ → ℕ
  pub height_le : (v : ℕ) → height v ≤ F.nodes
  pub falls : (v : ℕ) → Leads (λ x. height x < height v) (F.out v)
  pub size : ℕ → ℕ
  pub size_low : (g : ℕ) → 1 ≤ size g
  pub size_le : (g : ℕ) → size g ≤ suc F.genes
  pub left_more : (g a b : ℕ) → F.gene g ≡ pair a b → g < a
  pub right_more : (g a b : ℕ) → F.gene g ≡ pair a b → g < b
  pub left_in : (g a b : ℕ) → F.gene g ≡ pair a b → a ≤ F.genes
  pub right_in : (g a b : ℕ) → F.gene g ≡ pair a b → b ≤ F.genes
  pub splits : (g a b : ℕ) → F.gene g ≡ pair a b → size a + size b < size g

-- the nodes of a network in an order in which each comes after its parents: `order i` is the node at place i, `place v` the place of node v
pub record Order (N : Network) (order : ℕ → ℕ) : Type 0 where
  pub place : ℕ → ℕ
  pub place_low : (v : ℕ) → Node N v → 1 ≤ place v
  pub place_high : (v : ℕ) → Node N v → place v ≤ N.size
  pub visits : (v : ℕ) → Node N v → order (place v) ≡ v
  pub node : (i : ℕ) → 1 ≤ i → i ≤ N.size → Node N (order i)
  pub placed : (i : ℕ) → 1 ≤ i → i ≤ N.size → place (order i) ≡ i
  pub principal : (v : ℕ) → Node N v → N.principal v ≢ 0 → place (N.principal v) < place v
  pub secondary : (v : ℕ) → Node N v → N.secondary v ≢ 0 → place (N.secondary v) < place v

-- such an order as the table is filled by, from the last place down: the arcs out of the node at place i lead to higher places
pub record Schedule (F : Family) (order : ℕ → ℕ) : Type 0 where
  pub place : ℕ → ℕ
  pub place_low : (v : ℕ) → 1 ≤ v → v ≤ F.nodes → 1 ≤ place v
  pub place_high : (v : ℕ) → 1 ≤ v → v ≤ F.nodes → place v ≤ F.nodes
  pub visits : (v : ℕ) → 1 ≤ v → v ≤ F.nodes → order (place v) ≡ v
  pub entry_low : (i : ℕ) → 1 ≤ i → i ≤ F.nodes → 1 ≤ order i
  pub entry_high : (i : ℕ) → 1 ≤ i → i ≤ F.nodes → order i ≤ F.nodes
  pub higher : (i : ℕ) → 1 ≤ i → i ≤ F.nodes → Leads (λ x. (1 ≤ x) × (x ≤ F.nodes) × (i < place x)) (F.out (order i))

-- all of this, for a family and an order of its nodes
pub record Prepared (F : Family) (order : ℕ → ℕ) : Type 0 where
  pub graded : Graded F
  pub limits : Limits F.nodes F.genes F.costs
  pub schedule : Schedule F order
