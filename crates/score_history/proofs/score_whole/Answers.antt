-- The lines are read into columns of zeros; a refusal of them is the sheet's, and the outcome of the lines is the sheet's.
-- Assumes nothing.
use Rattle.std.proofs.Common.{refl}
use Rattle.finite.specs.Tables.{zeros}
use Rattle.score.proofs.Outcomes.{few_lines, not_read_into, ready_into, scored_into}
use Rattle.score_history.specs.Outcome.{bytes_in}
use Rattle.score_history.proofs.score_whole.Goals as goal

pub invariant_of-lines : goal.invariant_of-lines
invariant_of-lines c = record { within = few_lines _ _ _ _ _ c.requires }

pub read_into-requires : goal.read_into-requires
unfolding zeros
read_into-requires c = (c.requires.total, refl, refl)

pub returns-in_err-read_into : goal.returns-in_err-read_into
returns-in_err-read_into c = not_read_into _ bytes_in _ _ _ _ c.requires c.read_into.new.lines c.read_into.ensures _ c.in_err-read_into.was _ c.from_residual.ensures.1

pub score_lines-requires : goal.score_lines-requires
score_lines-requires c = ready_into _ bytes_in _ _ _ _ c.requires c.read_into.new.lines c.read_into.ensures _ c.in_ok-read_into.was

pub returns : goal.returns
returns c = scored_into _ bytes_in _ _ _ _ c.requires c.read_into.new.lines c.read_into.ensures _ c.in_ok-read_into.was _ _ _ c.score_lines.ensures
