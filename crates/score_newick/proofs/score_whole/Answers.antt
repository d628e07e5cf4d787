-- The lines are read into columns of zeros; a refusal of them is the sheet's, and the outcome of the lines is the sheet's.
-- Assumes nothing.
use Rattle.std.proofs.Common.{refl}
use Rattle.finite.specs.Tables.{zeros}
use Rattle.score.proofs.Outcomes.{refused_by}
use Rattle.score_newick.proofs.Outcomes.{few_lines, not_read_into, ready_into, five_passed_into}
use Rattle.score_newick.proofs.score_whole.Goals as goal

pub invariant_of-lines : goal.invariant_of-lines
invariant_of-lines c = record { within = few_lines _ _ _ _ c.requires }

pub read_into-requires : goal.read_into-requires
unfolding zeros
read_into-requires c = (c.requires.total, refl, refl)

pub returns-in_err-read_into : goal.returns-in_err-read_into
returns-in_err-read_into c = refused_by _ _ _ _ _ _ c.from_residual.ensures.1
    (not_read_into _ _ _ _ c.requires _ c.read_into.new.lines c.read_into.ensures _ c.in_err-read_into.was)

pub score_lines-requires : goal.score_lines-requires
score_lines-requires c = ready_into _ _ _ _ c.requires c.args.tree.now c.read_into.new.lines c.read_into.ensures _ c.in_ok-read_into.was

pub returns : goal.returns
returns c = five_passed_into _ _ _ _ c.requires _ c.read_into.new.lines c.read_into.ensures _ c.in_ok-read_into.was _ _ _ _ _ refl refl c.score_lines.ensures
