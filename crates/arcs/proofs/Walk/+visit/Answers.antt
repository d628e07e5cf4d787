-- What the visits of the parents placed stays, so the node is due after them, and there is a place left for it.
-- Assumes nothing.
use Rattle.std.proofs.Common.{arith}
use Rattle.topology.specs.Lines.{network}
use Rattle.layout.specs.Lines.{nodes_in}
use Rattle.arcs.proofs.Walks.{principal_high, secondary_high, principal_falls, secondary_falls, due, room, visited_then}
use Rattle.arcs.proofs.Walk.+visit.Goals as goal

pub visit-requires : goal.visit-requires
visit-requires t c =
    let s = c.requires in
    let d = c.if-v-eq0.false in
    (principal_falls c.args.network _ s.0 d _ c.decreases, (principal_high c.args.network _ s.0 d, s.1))

pub visit-requires-2 : goal.visit-requires-2
visit-requires-2 t c =
    let s = c.requires in
    let d = c.if-v-eq0.false in
    (secondary_falls c.args.network _ s.0 d _ c.decreases, (secondary_high c.args.network _ s.0 d, c.visit.ensures.walked))

pub append-requires : goal.append-requires
unfolding network nodes_in
append-requires t c =
    let few = c.args.network.lines.now.within.few_nodes in
    let is_due = due c.args.network _ c.requires.0 c.if-v-eq0.false c.visit.ensures c.visit-2.ensures in
    (omega (arith, few, c.requires.0), λ e. omega (arith, few, room c.visit-2.ensures.walked is_due e))

pub returns : goal.returns
returns t c =
    let is_due = due c.args.network _ c.requires.0 c.if-v-eq0.false c.visit.ensures c.visit-2.ensures in
    visited_then c.visit.ensures (visited_then c.visit-2.ensures (c.append.ensures _ c.visit-2.ensures.walked is_due))
