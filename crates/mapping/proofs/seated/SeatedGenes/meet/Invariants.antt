-- Two climbers, of which the lower climbs. The invariant (`Climbing`, proofs/Meeting): both still stand at or below the lowest common node, and
-- each way counts what was climbed.
-- Assumes nothing.
use Rattle.mapping.proofs.Meeting.{Climbing}
use Rattle.mapping.specs.inner.Seated.{displayed_in}
use Rattle.std.proofs.Common.{◌+◌}
use Rattle.mapping.proofs.seated.SeatedGenes.meet.Given as goal

abbrev pub invariant-loop-left : goal.invariant-loop-left
invariant-loop-left l = Climbing (displayed_in l.self) l.self.tree.now l.x l.y l.left l.right

abbrev pub decreases-loop-left : goal.decreases-loop-left
decreases-loop-left l = (displayed_in l.self).rank l.left.at + (displayed_in l.self).rank l.right.at
