-- What the telling of a history gene by gene takes from the gene tree and the network (01, refusals 6 to 8 and 12).
-- Assumes nothing.
use Rattle.std.specs.Prelude.{◌≡◌, ◌⊎◌, ℕ, ◌≤◌, ◌<◌}
use Rattle.topology.specs.Climbing.{Falls}
use Rattle.histories.specs.Histories.{pair, Family}
use Rattle.histories.specs.inner.Grades.{Leads}

-- each gene from 2 on is one of the two children of its parent, which has a lower number, and `pair` names the lower-numbered child first
pub record Lineage (F : Family) : Type 0 where
  pub up : ℕ → ℕ
  pub falls : Falls (λ g. g) up
  pub left_up : (g a b : ℕ) → F.gene g ≡ pair a b → up a ≡ g
  pub right_up : (g a b : ℕ) → F.gene g ≡ pair a b → up b ≡ g
  pub lower_first : (g a b : ℕ) → F.gene g ≡ pair a b → a < b
  pub up_low : (x : ℕ) → 2 ≤ x → x ≤ F.genes → 1 ≤ up x
  pub child : (x : ℕ) → 2 ≤ x → x ≤ F.genes → (a b : ℕ) × (F.gene (up x) ≡ pair a b) × ((x ≡ a) ⊎ (x ≡ b))

-- arcs lead to nodes, and each node has a level from 1 to n, which falls along every arc
pub record Levels (F : Family) : Type 0 where
  pub level : ℕ → ℕ
  pub level_low : (v : ℕ) → 1 ≤ v → v ≤ F.nodes → 1 ≤ level v
  pub level_high : (v : ℕ) → 1 ≤ v → v ≤ F.nodes → level v ≤ F.nodes
  pub lower : (v : ℕ) → 1 ≤ v → v ≤ F.nodes → Leads (λ x. (1 ≤ x) × (x ≤ F.nodes) × (level x < level v)) (F.out v)
