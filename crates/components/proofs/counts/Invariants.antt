-- `components::counts` meets its contract. The invariant: the reticulations passed are counted.
-- Assumes nothing.
use Rattle.std.proofs.Common.{◌+◌, ◌-◌, ◌≤◌}
use Rattle.layout.specs.Lines.{network_of}
use Rattle.components.specs.inner.Filling.{PartedTo}
use Rattle.components.proofs.counts.Given as goal

abbrev pub invariant-loop-v : goal.invariant-loop-v
invariant-loop-v l = (l.v ≤ l.network.lines.now.header.nodes + 1) × PartedTo (network_of l.network.lines.now) (l.v - 1) l.parts
