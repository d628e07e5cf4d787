-- The steps come one after the other (`Walking`): the lines written and those that the walk has still to say are its lines, and at each turn fewer are
-- left.
-- Assumes nothing.
use Rattle.std.proofs.Common.{length}
use Rattle.tellings.specs.Chosen.{onward}
use Rattle.history_steps.specs.inner.StepChoices.{step_of}
use Rattle.whole_network.specs.inner.Stages.{family}
use Rattle.history_lines.proofs.Walks.{on, Walking}
use Rattle.history_lines.proofs.HistoryWriter.write_walk.Given as goal

abbrev pub invariant-loop-w : goal.invariant-loop-w
invariant-loop-w l = Walking (family l.self.source.now) l.g l.v l.fn.res l.at l.k l.res l.last

abbrev pub decreases-loop-w : goal.decreases-loop-w
decreases-loop-w l = length (on (family l.self.source.now) l.g (onward (step_of l.last.step)))
