-- A gene that sends children has two, and their rows are set; else nothing is.
-- Assumes nothing.
use Rattle.std.proofs.Common.{sym, ◌∙◌, arith}
use Rattle.history_lines.proofs.Genes.{settle_stays, settle_sent, left_row, right_row, ends_low}
use Rattle.history_lines.proofs.HistoryWriter.settle.Goals as goal

pub returns-in_default : goal.returns-in_default
returns-in_default c = settle_stays _ _ _ (sym c.parted_to.ensures ∙ c.in_default.is)

pub overflow_cast-starts : goal.overflow_cast-starts
overflow_cast-starts c = omega (arith, ends_low _ _ _ c.requires.1 _ _ (sym c.parted_to.ensures ∙ c.in-Some.is))

pub bounds-starts-genes : goal.bounds-starts-genes
bounds-starts-genes c = omega (arith, left_row _ _ _ c.requires.1 _ _ (sym c.parted_to.ensures ∙ c.in-Some.is))

pub overflow_cast-starts-3 : goal.overflow_cast-starts-3
overflow_cast-starts-3 c = omega (arith, ends_low _ _ _ c.requires.1 _ _ (sym c.parted_to.ensures ∙ c.in-Some.is))

pub bounds-starts-genes-2 : goal.bounds-starts-genes-2
bounds-starts-genes-2 c = omega (arith, right_row _ _ _ c.requires.1 _ _ (sym c.parted_to.ensures ∙ c.in-Some.is))

pub returns : goal.returns
returns c = settle_sent _ _ _ c.requires.1 _ _ (sym c.parted_to.ensures ∙ c.in-Some.is) _
