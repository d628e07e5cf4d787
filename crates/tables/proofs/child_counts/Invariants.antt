-- `tables::child_counts` meets its contract. The invariant: each entry of 1 to n counts the children passed.
-- Assumes nothing.
use Rattle.std.proofs.Common.{◌-◌}
use Rattle.finite.specs.Tables.{at}
use Rattle.tables.proofs.Passes.{Counted}
use Rattle.tables.proofs.child_counts.Given as goal

abbrev pub invariant-loop-v : goal.invariant-loop-v
invariant-loop-v l = Counted l.n (at l.parents) (l.v - 1) l.out
