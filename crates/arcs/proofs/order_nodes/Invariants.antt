-- `arcs::order_nodes` meets its contract. The loop's invariant: the walk has come to the nodes below v.
-- Assumes nothing.
use Rattle.layout.specs.Lines.{network_of}
use Rattle.arcs.proofs.Walks.{Come}
use Rattle.arcs.proofs.order_nodes.Given as goal

abbrev pub invariant-loop-v : goal.invariant-loop-v
invariant-loop-v l = Come (network_of l.network.lines.now) l.v l.walk
