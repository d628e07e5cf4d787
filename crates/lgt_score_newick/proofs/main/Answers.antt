-- The rooms for the sheet and for the tree are longer than the longest of each, and what was read fits them.
-- Assumes nothing.
use Rattle.std.proofs.Common.{arith, rules}
use Rattle.lgt_score_newick.proofs.main.Goals as goal

pub reply_newick-reply-requires-clause-sheet : goal.reply_newick-reply-requires-clause-sheet
reply_newick-reply-requires-clause-sheet c = (omega arith, search rules)

pub reply_newick-reply-requires-clause-tree : goal.reply_newick-reply-requires-clause-tree
reply_newick-reply-requires-clause-tree c = (omega arith, search rules)
