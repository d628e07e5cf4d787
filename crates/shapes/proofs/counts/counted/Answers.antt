-- The counts, column by column (proofs/AsRead).
-- Assumes nothing.
use Rattle.std.proofs.Common.{rules}
use Rattle.finite.specs.Tables.{at, zeros}
use Rattle.shapes.specs.inner.ShortForms.{plain_parent}
use Rattle.shapes.proofs.AsRead.{counts_are}
use Rattle.shapes.proofs.counts.counted.Goals as goal

pub returns : goal.returns
unfolding zeros
returns c = let l = c.args.lines.now in
    counts_are l.nodes l.header.nodes _ _ _ _ _ l.within.few_nodes c.child_counts.ensures c.child_counts-2.ensures
    (c.fill.ensures (λ v. plain_parent (at l.nodes.principal v) (at l.nodes.secondary v)) (λ v r low high k. search rules)) c.child_counts-4.ensures c.child_counts-3.ensures
