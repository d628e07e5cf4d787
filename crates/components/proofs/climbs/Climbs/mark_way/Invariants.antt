-- `components::climbs::Climbs::mark_way` meets its contract. What is marked, with the way still to climb, is what was to be marked (`OnWay`).
-- Assumes nothing.
use Rattle.std.proofs.Common.{◌+◌, ◌≤◌}
use Rattle.layout.specs.Lines.{network_of}
use Rattle.components.proofs.Ways.{OnWay}
use Rattle.components.proofs.climbs.Climbs.mark_way.Given as goal

abbrev pub invariant-loop-a : goal.invariant-loop-a
invariant-loop-a l = (l.a ≤ l.self.network.lines.now.header.nodes) × (l.b ≤ l.self.network.lines.now.header.nodes) × OnWay (network_of l.self.network.lines.now) l.initial.marks l.x l.y l.marks l.a l.b

abbrev pub decreases-loop-a : goal.decreases-loop-a
decreases-loop-a l = (network_of l.self.network.lines.now).rank l.a + (network_of l.self.network.lines.now).rank l.b
