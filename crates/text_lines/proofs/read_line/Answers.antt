-- The goals of `read_line` that are left: see Invariants.antt for the idea.
use Rattle.std.proofs.Common.{refl, rules}
use Rattle.text_lines.proofs.Lines.{read_start, read_turn, read_stop, read_unended, read_done, line_told, no_line_told}
use Rattle.text_lines.proofs.read_line.Goals as goal

pub loop-number-init : goal.loop-number-init
loop-number-init c = read_start _ _ _ refl

pub returns-in_err-number : goal.returns-in_err-number
returns-in_err-number c = rw c.from_residual.ensures (no_line_told _ _ (read_stop c.loop-number.invariant _ (search rules) c.field.ensures.0 c.in_err-number.was))

pub loop-number-preserved : goal.loop-number-preserved
loop-number-preserved c = read_turn c.loop-number.invariant _ _ _ (search rules) c.field.ensures.0 c.in_ok-number.was

pub returns-in_err-end : goal.returns-in_err-end
returns-in_err-end c = rw c.from_residual-in_err-end.ensures (no_line_told _ _ (read_unended c.loop-number.invariant _ (search rules) (search rules) c.line_end.ensures c.in_err-end.was))

pub returns : goal.returns
returns c = line_told _ _ _ _ (read_done c.loop-number.invariant _ _ (search rules) (search rules) c.line_end.ensures c.in_ok-end.was)
