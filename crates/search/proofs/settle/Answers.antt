-- A setting that was found to cost this. Each way out is one case of `takes`.
-- Assumes nothing.
use Rattle.std.proofs.Common.{sym, ◌∙◌}
use Rattle.search.proofs.Settled.{settled_taken, settled_kept}
use Rattle.search.proofs.settle.Goals as goal

pub returns-then-takes : goal.returns-then-takes
returns-then-takes c = settled_taken _ _ _ (sym c.takes.ensures ∙ c.if-takes.true)

pub returns-else-takes : goal.returns-else-takes
returns-else-takes c = settled_kept _ _ _ (sym c.takes.ensures ∙ c.if-takes.false)
