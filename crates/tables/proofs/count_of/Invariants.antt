-- `tables::count_of` meets its contract. The invariant: the entries passed are those of 1 to p-index, and the count is that of these.
-- Assumes nothing.
use Rattle.std.proofs.Common.{◌≡◌, ◌≤◌}
use Rattle.finite.specs.Range.{children}
use Rattle.finite.specs.Tables.{at}
use Rattle.tables.proofs.count_of.Given as goal

abbrev pub invariant-loop-p : goal.invariant-loop-p
invariant-loop-p l = (l.count ≤ l.p-index) × (l.count ≡ children l.p-index (at l.parents) l.x)
