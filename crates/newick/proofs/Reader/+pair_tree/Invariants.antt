-- The measure of the cycle of the pair and the tree reader is twice the length of the text left, and one more for the pair reader: it calls the tree
-- reader at its own place, and the tree reader calls it one byte further on.
-- Assumes nothing.
use Rattle.std.proofs.Common.{◌+◌, ◌-◌, length}
use Rattle.newick.proofs.Reader.+pair_tree.Given as goal

abbrev pub decreases-pair : goal.decreases-pair
decreases-pair l = let left = length l.self.now.text.now - l.from.at in left + left + 1

abbrev pub decreases-tree : goal.decreases-tree
decreases-tree l = let left = length l.self.now.text.now - l.from.at in left + left
