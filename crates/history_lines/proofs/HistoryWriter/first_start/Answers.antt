-- The first of the least words of gene 1's row (proofs/Starts).
-- Assumes nothing.
use Rattle.history_lines.proofs.Starts.{row_long, start_found}
use Rattle.history_lines.proofs.HistoryWriter.first_start.Goals as goal

pub least_start-requires : goal.least_start-requires
least_start-requires c = row_long _ _ c.requires

pub first_at-requires : goal.first_at-requires
first_at-requires c = row_long _ _ c.requires

pub returns : goal.returns
returns c = start_found _ _ c.requires _ c.least_start.ensures _ c.first_at.ensures
