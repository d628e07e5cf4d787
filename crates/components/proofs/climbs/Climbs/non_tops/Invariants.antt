-- `components::climbs::Climbs::non_tops` meets its contract. The invariant: the ways of the reticulations passed are marked.
-- Assumes nothing.
use Rattle.std.proofs.Common.{◌+◌, ◌-◌, ◌≤◌}
use Rattle.layout.specs.Lines.{network_of}
use Rattle.components.specs.inner.Ways.{MarkedWays}
use Rattle.components.proofs.climbs.Climbs.non_tops.Given as goal

abbrev pub invariant-loop-v : goal.invariant-loop-v
invariant-loop-v l = (l.v ≤ l.self.network.lines.now.header.nodes + 1) × MarkedWays (network_of l.self.network.lines.now) l.marks (l.v - 1)
