-- The promise is that of the call of crate score_history, which has that of crate answer.
-- Assumes nothing.
use Rattle.score_c.proofs.Exporting.{exported}
use Rattle.score_c.proofs.lgt_score_history.Goals as goal

pub returns : goal.returns
returns c = let p = c.score_history.ensures in exported _ p p.call c.number.ensures
