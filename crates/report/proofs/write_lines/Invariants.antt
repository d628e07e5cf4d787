-- A line for each number that has one. The invariant: those of the numbers below v are written, and the rest is as it was.
-- Assumes nothing.
use Rattle.std.proofs.Common.{◌+◌, ◌-◌, ◌≤◌}
use Rattle.report.specs.Reports.{Extended}
use Rattle.report.specs.inner.Written.{Telling, Tells}
use Rattle.report.proofs.write_lines.Given as goal

abbrev pub invariant-loop-v : goal.invariant-loop-v
invariant-loop-v g l = (l.v ≤ l.n + 1) × ((t : Telling) → Tells (goal.F-post g l.line) l.n t → Extended l.initial.res l.res l.start l.next t.test t.fields (l.v - 1))
