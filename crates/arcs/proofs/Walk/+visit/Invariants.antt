-- The measure of a visit is the rank of the node, which the ranks of its parents are below.
-- Assumes nothing.
use Rattle.layout.specs.Lines.{network_of}
use Rattle.arcs.proofs.Walk.+visit.Given as goal

abbrev pub decreases-visit : goal.decreases-visit
decreases-visit l = (network_of l.network.lines.now).rank l.v
