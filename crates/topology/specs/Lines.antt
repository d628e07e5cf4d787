-- The lines of a sheet as functions of their numbers (01, "The sheet"), and the species network that the network lines describe.
-- Assumes nothing.
use Rattle.std.specs.Prelude.{cond, not, ℕ, ◌+◌, ◌*◌, ◌≤◌}
use Rattle.finite.specs.Tests.{same, tally}
use Rattle.topology.specs.Networks.{Network}

-- "n network lines: node number (1 to n, in order), principal parent, secondary parent, stamp, species. 0 is no parent and no species"; a number that
-- is no node has 0 everywhere
pub record NodeLines : Type 0 where
  pub size : ℕ
  pub principal : ℕ → ℕ
  pub secondary : ℕ → ℕ
  pub stamp : ℕ → ℕ
  pub species : ℕ → ℕ

-- "m gene lines: gene number (1 to m, in order), parent, species, 0, 0"
pub record GeneLines : Type 0 where
  pub count : ℕ
  pub parent : ℕ → ℕ
  pub species : ℕ → ℕ

-- g is a gene
pub record Gene (K : GeneLines) (g : ℕ) : Type 0 where
  pub low : 1 ≤ g
  pub high : g ≤ K.count

-- one more than twice the stamp, and another for a reticulation: a secondary arc keeps the stamp and leads into a reticulation
unfoldable pub rank_of : (secondary stamp : ℕ) → ℕ
rank_of secondary stamp = 2 * stamp + 1 + tally (not (same secondary 0))

-- the network of the lines
unfoldable pub network : NodeLines → Network
network L = record {
  size = L.size;
  principal = L.principal;
  secondary = L.secondary;
  rank = λ v. cond (same v 0) 0 (rank_of (L.secondary v) (L.stamp v));
}
