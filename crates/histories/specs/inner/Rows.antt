-- The table while it is filled, gene by gene from the last, and in a gene's row node by node in an order in which arcs out come first: what a word is
-- computed from, and how far the words are those of the least costs.
-- Assumes nothing.
use Rattle.std.specs.Prelude.{◌≡◌, List, ℕ, ◌-◌, ◌*◌, ◌≤◌, ◌<◌, get_or, length}
use Rattle.std.proofs.Math.Option.{none, some}
use Rattle.histories.specs.Histories.{Family, Cost, least}
use Rattle.histories.specs.Words.{cost_of, cell}

-- the costs that the words s hold for gene g, by node
unfoldable pub row : (n : ℕ) → List ℕ → ℕ → ℕ → Cost
row n s g v = cost_of (get_or s (cell n g v) 0)

-- the costs that the words r of one row hold, by node
unfoldable pub cost_at : List ℕ → ℕ → Cost
cost_at r v = cost_of (get_or r (v - 1) 0)

-- a cost that may enter a sum: two of them, with what an event costs, stay below the word for no history
unfoldable pub Small : Cost → Type 0
Small none = Unit {0}
Small (some c) = c ≤ 1000000000

-- the row r holds a small cost for node v
pub record Cell (r : List ℕ) (v : ℕ) : Type 0 where
  pub node_low : 1 ≤ v
  pub inside : v - 1 < length r
  pub small : Small (cost_at r v)

-- the rows of the genes above k hold their least costs
pub record Rows (F : Family) (s : List ℕ) (k : ℕ) : Type 0 where
  pub holds : (g v : ℕ) → k < g → g ≤ F.genes → 1 ≤ v → v ≤ F.nodes → row F.nodes s g v ≡ least F g v

-- and the row of gene g does at the nodes that stand above place i of the order
pub record Partly (F : Family) (order : ℕ → ℕ) (s : List ℕ) (g i : ℕ) : Type 0 where
  pub above : Rows F s g
  pub done : (j : ℕ) → i < j → j ≤ F.nodes → row F.nodes s g (order j) ≡ least F g (order j)

-- the words t are the words s, but for the table: "other words .. keep what they held"
pub record Kept (F : Family) (s t : List ℕ) : Type 0 where
  pub long : length t ≡ length s
  pub rest : (i : ℕ) → F.genes * F.nodes ≤ i → get_or t i 0 ≡ get_or s i 0
