-- The call: each way out has its outcome, and the promise follows from that.
-- Assumes nothing.
use Rattle.score.proofs.Outcomes.{not_headed, headed_by}
use Rattle.score_history.specs.Outcome.{bytes_in}
use Rattle.score_history.proofs.Promises.{promise}
use Rattle.score_history.proofs.score_history.Goals as goal

pub returns-in_err-header : goal.returns-in_err-header
returns-in_err-header c = promise _ _ _ _ _ _ (not_headed _ bytes_in _ _ _ c.read_header.ensures _ c.in_err-header.was _ c.from_residual.ensures.1)

pub score_whole-requires : goal.score_whole-requires
score_whole-requires c = headed_by _ _ _ _ c.read_header.ensures _ c.in_ok-header.was

pub returns : goal.returns
returns c = promise _ _ _ _ _ _ c.score_whole.ensures
