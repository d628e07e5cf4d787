-- `switching::start` meets its contract. The parents are filled with what the closure reads, and the ranks are those of the parts, however they are copied.
-- Assumes nothing.
use Rattle.std.proofs.Common.{ap, rules}
use Rattle.finite.specs.Tables.{at}
use Rattle.layout.specs.declared.tree.Tree.{Tree}
use Rattle.switching.proofs.Starting.{started}
use Rattle.switching.proofs.start.Goals as goal

pub child_counts-requires : goal.child_counts-requires
child_counts-requires c = (c.args.network.lines.now.within.few_nodes, ap (λ (t : Tree). t.arcs) c.requires)

pub returns : goal.returns
returns c = let w = c.args.network in
    started w c.requires
    (c.fill.ensures (at w.lines.now.nodes.principal) (λ v r low high k. search rules))
    (search rules)
    c.child_counts.ensures
