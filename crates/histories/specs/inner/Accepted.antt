-- What the whole-network cost takes from the checks of a network and a gene tree (01, refusals 4 to 13).
-- Assumes nothing.
use Rattle.std.specs.Prelude.{◌≡◌, ℕ, ◌≤◌}
use Rattle.finite.specs.Range.{children}
use Rattle.topology.specs.Networks.{Node, Sound}
use Rattle.topology.specs.Lines.{NodeLines, GeneLines, network}
use Rattle.reconciliation.specs.GeneTrees.{GeneTree, Rooted}
use Rattle.reconciliation.specs.Costs.{Costs}
use Rattle.reconciliation.specs.Limits.{Limits}

-- 13: node v is a leaf of species s
pub record Seat (L : NodeLines) (v s : ℕ) : Type 0 where
  pub node : Node (network L) v
  pub childless : children L.size L.principal v ≡ 0
  pub bears : L.species v ≡ s

pub record Accepted (L : NodeLines) (K : GeneLines) (G : GeneTree) (C : Costs) : Type 0 where
  -- 4
  pub limits : Limits L.size G.count C
  -- 6, 7 and 8
  pub sound : Sound (network L)
  -- 8, in numbers of arcs out: a reticulation has "one child, by a principal arc", an inner node "two arcs out, at least one principal", a leaf none
  pub two_principal : (v : ℕ) → Node (network L) v → children L.size L.principal v ≤ 2
  pub one_principal : (v : ℕ) → Node (network L) v → 1 ≤ children L.size L.secondary v → children L.size L.principal v ≡ 1
  pub one_secondary : (v : ℕ) → Node (network L) v → children L.size L.secondary v ≤ 1
  -- 12
  pub rooted : Rooted G
  -- 13, with the nodes of leaf genes
  pub seated : (g : ℕ) → 1 ≤ g → g ≤ G.count → G.left g ≡ 0 → Seat L (G.leaf g) (K.species g)
