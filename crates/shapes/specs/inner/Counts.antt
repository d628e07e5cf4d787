-- What is counted once for the refusals 8, 9 and 10: of each node the principal arcs out of it, the secondary ones, and those that lead to no
-- reticulation; of each number up to n the nodes whose species it is.
-- Assumes nothing.
use Rattle.std.specs.Prelude.{◌≡◌, ℕ, ◌≤◌}
use Rattle.finite.specs.Range.{children}
use Rattle.finite.specs.Tables.{at}
use Rattle.topology.specs.Lines.{NodeLines}
use Rattle.shapes.specs.declared.counts.Counts.{Counts}
use Rattle.shapes.specs.inner.ShortForms.{plain_parent_at}

-- these are the counts of the lines
pub record Counted (L : NodeLines) (c : Counts) : Type 0 where
  pub principal_arcs : (v : ℕ) → 1 ≤ v → v ≤ L.size → at c.principals v ≡ children L.size L.principal v
  pub secondary_arcs : (v : ℕ) → 1 ≤ v → v ≤ L.size → at c.secondaries v ≡ children L.size L.secondary v
  pub plain_arcs : (v : ℕ) → 1 ≤ v → v ≤ L.size → at c.plains v ≡ children L.size (plain_parent_at L) v
  pub same_species : (k : ℕ) → 1 ≤ k → k ≤ L.size → at c.bearers k ≡ children L.size L.species k
