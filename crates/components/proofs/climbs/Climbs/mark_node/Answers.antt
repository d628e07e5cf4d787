-- `components::climbs::Climbs::mark_node` meets its contract. A node without a secondary parent has no way, any other the way from it to that parent.
-- Assumes nothing.
use Rattle.std.proofs.Common.{rules}
use Rattle.components.proofs.Ways.{ways_plain, ways_more, second_in}
use Rattle.components.proofs.climbs.Climbs.mark_node.Goals as goal

pub returns-then-s-eq0 : goal.returns-then-s-eq0
returns-then-s-eq0 c = let s = c.requires in ways_plain c.args.self.network _ s.limits _ s.marked_ways c.if-s-eq0.true

pub mark_way-requires : goal.mark_way-requires
mark_way-requires c = let s = c.requires in
    let u = second_in c.args.self.network _ s.limits in
    (search rules, search rules, s.marked_ways.long)

pub returns : goal.returns
returns c = let s = c.requires in ways_more c.args.self.network _ s.limits _ s.marked_ways _ c.if-s-eq0.false c.mark_way.ensures
