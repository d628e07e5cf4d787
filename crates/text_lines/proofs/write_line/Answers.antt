-- The goals of `write_line` that are left: see Invariants.antt for the idea.
use Rattle.text_lines.specs.Lines.{fields_of}
use Rattle.columns.proofs.Writing.{written_nil}
use Rattle.text_lines.proofs.write_line.Goals as goal

pub loop-i-init : goal.loop-i-init
unfolding fields_of
loop-i-init c = written_nil _
