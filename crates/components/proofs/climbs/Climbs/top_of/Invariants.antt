-- `components::climbs::Climbs::top_of` meets its contract. A marked node is no top, so its component is that of its principal parent, whose rank is less.
-- Assumes nothing.
use Rattle.std.proofs.Common.{◌≡◌, ◌≤◌}
use Rattle.topology.specs.Components.{component}
use Rattle.layout.specs.Lines.{network_of}
use Rattle.components.proofs.climbs.Climbs.top_of.Given as goal

abbrev pub invariant-loop-a : goal.invariant-loop-a
invariant-loop-a l = (1 ≤ l.a) × (l.a ≤ l.self.network.lines.now.header.nodes) × (component (network_of l.self.network.lines.now) l.a ≡ component (network_of l.self.network.lines.now) l.v)

abbrev pub decreases-loop-a : goal.decreases-loop-a
decreases-loop-a l = (network_of l.self.network.lines.now).rank l.a
