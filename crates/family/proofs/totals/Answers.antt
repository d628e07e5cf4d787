-- The numbers of the first two lines: those that were found, and the two counts.
-- Assumes nothing.
use Rattle.std.proofs.Common.{◌≡◌, ◌∙◌, ℕ, not}
use Rattle.finite.specs.Tests.{same}
use Rattle.finite.specs.Range.{count}
use Rattle.finite.specs.Tables.{at}
use Rattle.finite.proofs.Count.{count_same}
use Rattle.topology.specs.Lines.{network}
use Rattle.topology.specs.Networks.{is_reticulation}
use Rattle.layout.specs.Lines.{nodes_in}
use Rattle.layout.specs.declared.lines.NodeColumns.{NodeColumns}
use Rattle.layout.proofs.Numbered.{secondary_in}
use Rattle.family.specs.inner.Stages.{totals_by}
use Rattle.family.proofs.totals.Goals as goal

-- at a node the lines are read where they stand
reticulations_are : (n : ℕ) (l : NodeColumns) → count n (λ v. not (same (at l.secondary v) 0)) ≡ count n (is_reticulation (network (nodes_in n l)))
unfolding is_reticulation network
reticulations_are n l = count_same n _ _ (λ v low high. rw (secondary_in n l v low high))

pub returns : goal.returns
unfolding totals_by
returns c = let l = c.args.network.lines.now in rw (c.count_some.ensures ∙ reticulations_are l.header.nodes l.nodes, c.count_some-2.ensures)
