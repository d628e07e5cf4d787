-- `switching::switch` meets its contract. The invariant: the reticulations passed are as the settings say.
-- Assumes nothing.
use Rattle.std.proofs.Common.{◌-◌}
use Rattle.finite.specs.Tables.{at}
use Rattle.layout.specs.Lines.{network_of}
use Rattle.optimum.specs.Optimum.{assembled}
use Rattle.switching.specs.inner.Turning.{TurnedTo}
use Rattle.switching.proofs.switch.Given as goal

abbrev pub invariant-loop-r : goal.invariant-loop-r
invariant-loop-r l = let N = network_of l.network.lines.now in TurnedTo N (assembled N (at l.settings)) (l.r - 1) l.t
