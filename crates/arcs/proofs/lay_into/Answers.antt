-- `arcs::lay_into` meets its contract. The next child above an entry of zeros is the first.
-- Assumes nothing.
use Rattle.std.proofs.Common.{ap}
use Rattle.finite.specs.Tables.{zeros}
use Rattle.arcs.specs.declared.Arcs.{Arcs}
use Rattle.arcs.proofs.Children.{laid}
use Rattle.arcs.proofs.lay_into.Goals as goal

pub next_children-requires : goal.next_children-requires
unfolding zeros
next_children-requires c = (c.args.network.lines.now.within.few_nodes, ap (λ (t : Arcs). t.first) c.requires)

pub next_children-requires-2 : goal.next_children-requires-2
unfolding zeros
next_children-requires-2 c = (c.args.network.lines.now.within.few_nodes, ap (λ (t : Arcs). t.second) c.requires)

pub next_children-requires-3 : goal.next_children-requires-3
unfolding zeros
next_children-requires-3 c = (c.args.network.lines.now.within.few_nodes, ap (λ (t : Arcs). t.other) c.requires)

pub returns : goal.returns
unfolding zeros
returns c = laid _ _ c.args.network.lines.now.within.few_nodes _ c.next_children.ensures c.next_children-2.ensures c.next_children-3.ensures c.order_nodes-arcs.ensures
