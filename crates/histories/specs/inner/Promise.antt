-- What a call that scores leaves in the scratch and returns (01, "The network as a whole"): an equation for the words and for the number, and beside
-- them what both mean for all histories.
-- Assumes nothing.
use Rattle.std.specs.Prelude.{◌≡◌, List, ◌++◌, ℕ, ◌*◌, ◌≤◌, ◌<◌, get_or, drop}
use Rattle.histories.specs.Histories.{Family, Least, LeastOverall, overall}
use Rattle.histories.specs.Words.{word, cost_of, cell, words}

-- the words were s and are t, and r is returned
pub record WholeNetwork (F : Family) (s t : List ℕ) (r : ℕ) : Type 0 where
  -- "scratch word (g − 1) × n + (v − 1) holds the least cost for gene g starting at node v, or 4,294,967,295 if no history exists. Other words .. keep
  -- what they held"
  pub table : t ≡ words F ++ drop (F.genes * F.nodes) s
  pub each_least : (g v : ℕ) → 1 ≤ g → g ≤ F.genes → 1 ≤ v → v ≤ F.nodes → Least F g v (cost_of (get_or t (cell F.nodes g v) 0))
  -- "The result is the least cost over histories starting gene 1 at any node"
  pub answer : r ≡ word (overall F)
  pub least_overall : LeastOverall F r
  -- it fits six columns
  pub six_columns : r < 1000000
