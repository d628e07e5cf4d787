-- The goals of `order_nodes` that are left: see Invariants.antt for the idea.
use Rattle.std.proofs.Common.{◌+◌, refl, arith}
use Rattle.finite.specs.Tables.{zeros}
use Rattle.topology.specs.Lines.{network}
use Rattle.layout.specs.Lines.{nodes_in}
use Rattle.arcs.proofs.Walks.{come_none, come_next, come_all}
use Rattle.arcs.proofs.order_nodes.Goals.{else-loop-v-test, then-loop-v-test+else-v-v-end}
use Rattle.arcs.proofs.order_nodes.Goals as goal

pub loop-v-init : goal.loop-v-init
unfolding zeros
loop-v-init c = come_none refl refl refl

pub returns : goal.returns
unfolding network nodes_in
returns c = elim c.loop-v-test.branch [
  | else-loop-v-test w ↦ rw w.walk-is (come_all (omega arith) c.loop-v.invariant)
  | then-loop-v-test+else-v-v-end w ↦ rw w.walk-is (come_all {v = c.loop-v.v + 1} (omega arith) (come_next c.loop-v.invariant w.visit.ensures))
]
