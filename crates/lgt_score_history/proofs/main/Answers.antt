-- The room for the sheet is longer than the longest, and the room for the reply is what the call asks for.
-- Assumes nothing.
use Rattle.std.proofs.Common.{arith, rules}
use Rattle.lgt_score_history.proofs.main.Goals as goal

pub reply_history-length-requires : goal.reply_history-length-requires
reply_history-length-requires c = (omega arith, search rules, search rules)
