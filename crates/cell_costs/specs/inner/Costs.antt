-- The least cost of a gene at a node from rows of words (01, "The network as a whole"; the clauses are in histories, specs/Histories).
-- Assumes nothing.
use Rattle.std.specs.Prelude.{cond, ℕ}
use Rattle.std.proofs.Math.Option.{none, some}
use Rattle.finite.specs.Tests.{under}
use Rattle.histories.specs.Histories.{Out, Cost, ◌lesser◌, both, resting, parting, moving}
use Rattle.histories.specs.Words.{no_history}
use Rattle.histories.specs.inner.Rows.{cost_at, Cell}
use Rattle.cell_costs.specs.declared.Children.{Children}

-- the cost that a sum of words stands for: from the word for no history on, none. So words may be added before it is told whether they stand for a history
unfoldable pub cost_in : ℕ → Cost
cost_in w = cond (under w no_history) (some w) none

-- the costs that the rows of a gene's two children hold, by node
abbrev pub left_cost : Children → ℕ → Cost
left_cost c = cost_at c.left.now

abbrev pub right_cost : Children → ℕ → Cost
right_cost c = cost_at c.right.now

-- both rows hold a small cost for node v
abbrev pub BothCells : Children → ℕ → Type 0
BothCells c v = Cell c.left.now v × Cell c.right.now v

-- the least cost of a leaf gene of species k with the row G, and of an inner gene whose children have the rows A and B, at a node v with the arcs out o
unfoldable pub tip_cost : (t l k : ℕ) (G : ℕ → Cost) → Out → Cost
tip_cost t l k G o = resting k o lesser moving t l G o

unfoldable pub inner_cost : (d t l : ℕ) (A B G : ℕ → Cost) → ℕ → Out → Cost
inner_cost d t l A B G v o = (both d (A v) (B v) lesser parting t A B v o) lesser moving t l G o

-- two children with the rows A and B part, for a cost t: one starts at x, the other at y
abbrev pub parted : ℕ → (A B : ℕ → Cost) → (x y : ℕ) → Cost
parted t A B x y = both t (A x) (B y) lesser both t (B x) (A y)

-- one of them goes along the secondary arc to z, while the other stays at v or takes the principal arc to x
unfoldable pub transferring : ℕ → (A B : ℕ → Cost) → (v x z : ℕ) → Cost
transferring t A B v x z = parted t A B z v lesser parted t A B z x
