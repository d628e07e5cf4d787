-- The line is copied to the front, and the rest is as it was.
-- Assumes nothing.
use Rattle.std.proofs.Common.{sym}
use Rattle.reply.proofs.Told.{copied, length_line}
use Rattle.reply.proofs.write_refusal.Goals as goal

pub returns : goal.returns
returns c = (copied _ _ _ _ c.refused_line-line.ensures c.copy_from_slice.ensures.after, sym (length_line _))
