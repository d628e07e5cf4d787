-- The room for the sheet is longer than the longest, and the room for the reply is what a report takes at most.
-- Assumes nothing.
use Rattle.std.proofs.Common.{arith, rules}
use Rattle.lgt_score.proofs.main.Goals as goal

pub reply-length-requires : goal.reply-length-requires
reply-length-requires c = (omega arith, search rules, search rules)
