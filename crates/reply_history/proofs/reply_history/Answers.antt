-- The answer to what was read is told as the reply to the whole text: crate reply, proofs/Replies.
-- Assumes nothing.
use Rattle.std.proofs.Common.{rules, sym, arith, length-take-le}
use Rattle.reply.proofs.Replying.{room_kept}
use Rattle.reply.proofs.Replies.{replied}
use Rattle.reply_history.proofs.reply_history.Goals as goal

pub slice_bounds-score_history-end : goal.slice_bounds-score_history-end
slice_bounds-score_history-end c = sym (length-take-le _ _ c.requires.1)

pub write_answer-requires : goal.write_answer-requires
write_answer-requires c = room_kept _ c.score_history-answer.ensures.call (omega (arith, c.requires.2))

pub returns : goal.returns
returns c = let a = c.requires in
    let w = c.write_answer.ensures in
    replied _ _ _ _ a.0 a.2 (search rules) (omega arith) c.score_history-answer.ensures.call w.0 w.1
