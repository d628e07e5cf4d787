-- `components::count_node` meets its contract. What the top has counted is the index of the reticulation, and then one more.
-- Assumes nothing.
use Rattle.std.proofs.Common.{arith}
use Rattle.components.proofs.Filling.{node_skip, node_counting}
use Rattle.components.proofs.count_node.Goals as goal

pub returns-then-network-v-eq0 : goal.returns-then-network-v-eq0
returns-then-network-v-eq0 c = node_skip c.args.network _ c.requires.limits _ c.requires.parted c.if-network-v-eq0.true

pub bounds-parts-c : goal.bounds-parts-c
bounds-parts-c c = omega (arith, node_counting c.args.network _ c.requires.limits _ c.requires.parted c.if-network-v-eq0.false)

pub overflow_add-parts : goal.overflow_add-parts
overflow_add-parts c = omega (arith, node_counting c.args.network _ c.requires.limits _ c.requires.parted c.if-network-v-eq0.false)

pub bounds-parts-c-2 : goal.bounds-parts-c-2
bounds-parts-c-2 c = omega (arith, node_counting c.args.network _ c.requires.limits _ c.requires.parted c.if-network-v-eq0.false)

pub returns : goal.returns
returns c = (node_counting c.args.network _ c.requires.limits _ c.requires.parted c.if-network-v-eq0.false).next (omega arith) (omega arith)
