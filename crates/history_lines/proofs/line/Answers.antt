-- Each of the five numbers has a field.
-- Assumes nothing.
use Rattle.std.proofs.Common.{arith}
use Rattle.text_lines.proofs.Lines.{small_of_five}
use Rattle.tellings.proofs.StepNumbers.{code_low}
use Rattle.history_steps.specs.inner.StepChoices.{step_of}
use Rattle.history_lines.proofs.line.Goals as goal

pub returns : goal.returns
returns c = (
  rw (c.code.ensures, c.cost.ensures.0),
  small_of_five _ _ _ _ _ (omega (arith, c.requires.1)) (omega (arith, c.requires.2)) (omega (arith, c.requires.3)) (omega (arith, c.code.ensures, code_low (step_of c.args.step))) (omega (arith, c.cost.ensures.1)),
)
