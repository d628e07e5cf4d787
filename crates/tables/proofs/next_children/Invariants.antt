-- `tables::next_children` meets its contract. The invariant: each entry of 1 to n is the lowest child passed that is above what `after` has for it.
-- Assumes nothing.
use Rattle.finite.specs.Tables.{at}
use Rattle.tables.proofs.Passes.{Noted}
use Rattle.tables.proofs.next_children.Given as goal

abbrev pub invariant-loop-w : goal.invariant-loop-w
invariant-loop-w l = Noted l.n (at l.parents) (at l.after) l.w l.out
