-- The answer to what was read is told as the reply to the whole sheet and the whole text: proofs/Replies. The last byte is looked at after a refusal by 14 alone.
-- Assumes nothing.
use Rattle.std.proofs.Common.{rules}
use Rattle.reply_newick.proofs.Replies.{replied}
use Rattle.reply_newick.proofs.reply_newick.Goals as goal

pub returns-then-outside : goal.returns-then-outside
returns-then-outside c =
    let w = c.write_answer.ensures in
    replied _ _ _ _ c.requires.sheet.0 c.requires.tree.0 c.requires.out (search rules) c.score_newick-answer.ensures w.0 w.1 (rw (← c.if-outside.ensures) c.ends_with.ensures.value)

pub returns-else-outside : goal.returns-else-outside
returns-else-outside c =
    let w = c.write_answer.ensures in
    replied _ _ _ _ c.requires.sheet.0 c.requires.tree.0 c.requires.out (search rules) c.score_newick-answer.ensures w.0 w.1 (rw (← c.if-outside.ensures) c.if-outside.false)
