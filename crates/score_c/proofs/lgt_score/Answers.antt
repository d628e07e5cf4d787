-- The promise is that of the call of crate score.
-- Assumes nothing.
use Rattle.score_c.proofs.Exporting.{exported}
use Rattle.score_c.proofs.lgt_score.Goals as goal

pub returns : goal.returns
returns c = exported _ c.score.ensures c.score.ensures c.number.ensures
