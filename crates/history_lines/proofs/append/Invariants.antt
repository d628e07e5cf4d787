-- The genes come one after the other. The invariant (`Appending`): the lines of those passed are written, and the starts of their children known.
-- Assumes nothing.
use Rattle.std.proofs.Common.{◌-◌, ◌+◌, ◌≤◌}
use Rattle.whole_network.specs.inner.Stages.{header, family}
use Rattle.history_lines.proofs.Genes.{Appending}
use Rattle.history_lines.proofs.append.Given as goal

abbrev pub invariant-loop-g : goal.invariant-loop-g
invariant-loop-g l = (l.g ≤ (header l.writer.source.now).genes + 1) × Appending (family l.writer.source.now) l.fn.res l.at (l.g - 1) l.starts l.res l.next
