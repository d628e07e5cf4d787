-- Writing a line. The invariant: the first i fields are written over the front, and the rest is as it was.
-- Assumes nothing.
use Rattle.std.proofs.Common.{◌≡◌}
use Rattle.columns.specs.Writing.{written}
use Rattle.text_lines.specs.Lines.{fields_of}
use Rattle.text_lines.proofs.write_line.Given as goal

abbrev pub invariant-loop-i : goal.invariant-loop-i
invariant-loop-i l = l.out ≡ written l.initial.out (fields_of l.i l.line)
