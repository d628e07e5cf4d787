-- Gene trees whose leaf genes sit at leaves of a species network (001, section 2; 01, "The sheet" and the gene tree's refusals).
-- Assumes nothing.
use Rattle.std.specs.Prelude.{◌≡◌, ◌≢◌, ◌⊎◌, ℕ, ◌+◌, ◌≤◌, ◌<◌}
use Rattle.finite.specs.Range.{children}
use Rattle.topology.specs.Networks.{Network, Node}

-- the genes are 1..count; a gene's two children, 0 for a leaf gene; the node at which a leaf gene sits; a gene's parent, 0 for gene 1
pub record GeneTree : Type 0 where
  pub count : ℕ
  pub left : ℕ → ℕ
  pub right : ℕ → ℕ
  pub leaf : ℕ → ℕ
  pub parent : ℕ → ℕ

-- what refusal 12 of 01 leaves: a tree with root 1 in which children have higher numbers than their parents; a parent has two children, and what is no
-- gene has none
pub record Rooted (G : GeneTree) : Type 0 where
  pub some : 1 ≤ G.count
  pub root : G.parent 1 ≡ 0
  pub inner_low : (g : ℕ) → G.left g ≢ 0 → 1 ≤ g
  pub inner_high : (g : ℕ) → G.left g ≢ 0 → g ≤ G.count
  pub left_more : (g : ℕ) → G.left g ≢ 0 → g < G.left g
  pub right_more : (g : ℕ) → G.left g ≢ 0 → g < G.right g
  pub left_in : (g : ℕ) → G.left g ≢ 0 → G.left g ≤ G.count
  pub right_in : (g : ℕ) → G.left g ≢ 0 → G.right g ≤ G.count
  pub apart : (g : ℕ) → G.left g ≢ 0 → G.left g ≢ G.right g
  pub left_parent : (g : ℕ) → G.left g ≢ 0 → G.parent (G.left g) ≡ g
  pub right_parent : (g : ℕ) → G.left g ≢ 0 → G.parent (G.right g) ≡ g
  pub parent_inner : (g : ℕ) → G.parent g ≢ 0 → G.left (G.parent g) ≢ 0
  pub is_child : (g : ℕ) → G.parent g ≢ 0 → (G.left (G.parent g) ≡ g) ⊎ (G.right (G.parent g) ≡ g)

-- what refusals 8, 9 and 13 of 01 leave for the mapping: "a leaf gene sits at its species' leaf" ("Settings and placement"), a node that no arc leaves, and
-- no more than two arcs leave a node
pub record Seated (N : Network) (G : GeneTree) : Type 0 where
  pub seat : (g : ℕ) → 1 ≤ g → g ≤ G.count → G.left g ≡ 0 → Node N (G.leaf g)
  pub no_principal : (g : ℕ) → 1 ≤ g → g ≤ G.count → G.left g ≡ 0 → children N.size N.principal (G.leaf g) ≡ 0
  pub no_secondary : (g : ℕ) → 1 ≤ g → g ≤ G.count → G.left g ≡ 0 → children N.size N.secondary (G.leaf g) ≡ 0
  pub few : (v : ℕ) → Node N v → children N.size N.principal v + children N.size N.secondary v ≤ 2
