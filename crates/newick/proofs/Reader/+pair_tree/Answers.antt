-- Each return of the pair and the tree reader is found alone by its law of proofs/Turns. What is left: after the comma the text goes on, and the genes
-- that the first member has are before the second's.
use Rattle.std.proofs.Common.{arith}
use Rattle.newick.proofs.Turns.{ended}
use Rattle.newick.proofs.Reader.+pair_tree.Goals as goal

pub pair-tree-requires-2 : goal.pair-tree-requires-2
pair-tree-requires-2 t c =
    let e = ended c.args.self.now.text.now _ _ _ _ _ _ c.in_ok-left.ensures in
    let p = c.in_ok-comma.ensures in
    (omega (arith, p.behind.0, p.within), (omega (arith, p.behind.0, p.behind.1), omega (arith, p.behind.1)))
