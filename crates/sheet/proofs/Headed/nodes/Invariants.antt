-- Reading the node lines. The invariant: those below v are well formed and in number, and stand in the columns.
-- Assumes nothing.
use Rattle.std.proofs.Common.{◌≡◌, ◌+◌, ◌-◌, ◌≤◌, true}
use Rattle.finite.specs.Range.{every}
use Rattle.sheet.specs.Sheets.{node_line, node_columns}
use Rattle.sheet.proofs.Headed.nodes.Given as goal

abbrev pub invariant-loop-v : goal.invariant-loop-v
invariant-loop-v l = record {
  within : l.v ≤ l.self.header.nodes + 1;
  every_line : every (l.v - 1) (node_line l.self.text.now) ≡ true;
  columns : l.nodes ≡ node_columns l.self.text.now (l.v - 1);
}
