-- The arcs of a network: of each node the nodes that its arcs out lead to, and an order of the nodes.
-- Assumes nothing.
use Rattle.std.specs.Prelude.{◌≡◌, ℕ, ◌≤◌}
use Rattle.finite.specs.Tables.{at, zeros}
use Rattle.topology.specs.Networks.{Network, Node}
use Rattle.topology.specs.Lines.{NodeLines, network}
use Rattle.layout.specs.declared.lines.NodeColumns.{NodeColumns}
use Rattle.histories.specs.Histories.{Out as Leaving, leaf, one, two, mixed}
use Rattle.histories.specs.Families.{out_by, first_child, second_child, other_child}
use Rattle.histories.specs.inner.Grades.{Order}
use Rattle.arcs.specs.declared.Arcs.{Arcs}
use Rattle.arcs.specs.declared.Out.{Out}
use Rattle.arcs.specs.declared.Out.TheVariants.{Leaf, One, Two, Mixed}

abbrev pub order : Arcs → ℕ → ℕ
order a = at a.order

abbrev pub first : Arcs → ℕ → ℕ
first a = at a.first

abbrev pub second : Arcs → ℕ → ℕ
second a = at a.second

abbrev pub other : Arcs → ℕ → ℕ
other a = at a.other

-- a table without entries
abbrev pub blank : Arcs
blank = record { order = zeros; first = zeros; second = zeros; other = zeros }

-- the arcs out of a node as the definitions of histories have them
abbrev pub leaving : Out → Leaving
leaving (Leaf s) = leaf s
leaving (One x) = one x
leaving (Two x y) = two x y
leaving (Mixed x z) = mixed x z

-- those of node v, by its children and its line
abbrev pub leaving_in : NodeColumns → Arcs → ℕ → Leaving
leaving_in l a v = out_by (first a v) (second a v) (other a v) (at l.species v)

-- a node comes after its parents, and what is no node has place 0 (so that an order has its places in one way: Props)
pub record Ordered (N : Network) (order : ℕ → ℕ) : Type 0 where
  pub places : Order N order
  pub elsewhere : (v : ℕ) → (Node N v → ⊥) → places.place v ≡ 0

-- the columns have the children of each node, and the nodes in order
pub record Laid (L : NodeLines) (a : Arcs) : Type 0 where
  pub firsts : (v : ℕ) → 1 ≤ v → v ≤ L.size → first a v ≡ first_child L v
  pub seconds : (v : ℕ) → 1 ≤ v → v ≤ L.size → second a v ≡ second_child L v
  pub others : (v : ℕ) → 1 ≤ v → v ≤ L.size → other a v ≡ other_child L v
  pub ordered : Ordered (network L) (order a)
