-- Writing the columns from one on. The invariant: those before column i are pasted over, and the rest is as it was.
-- Assumes nothing.
use Rattle.std.proofs.Common.{◌≡◌, ◌-◌, drop}
use lib.Seq.{paste}
use Rattle.columns.specs.Fields.{columns}
use Rattle.columns.proofs.write_columns.Given as goal

abbrev pub invariant-loop-i : goal.invariant-loop-i
invariant-loop-i l = l.out ≡ paste l.initial.out l.first (drop l.first (columns l.n)) (l.i - l.first)
