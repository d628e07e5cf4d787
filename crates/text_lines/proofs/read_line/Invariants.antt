-- Reading a line. The invariant: the first i numbers of the line stand in front, and the rest of the line is at the cursor.
-- Assumes nothing.
use Rattle.text_lines.proofs.Lines.{Read}
use Rattle.text_lines.proofs.read_line.Given as goal

abbrev pub invariant-loop-number : goal.invariant-loop-number
invariant-loop-number l = Read l.s l.fn.start.at l.c.at l.number-index l.number-items
