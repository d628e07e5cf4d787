-- Place, ways, event and steps of a pair, one after the other; together they are what the mapping says of it (proofs/Pairing).
-- Assumes nothing.
use Rattle.std.proofs.Common.{rules}
use Rattle.mapping.proofs.Pairing.{lasts_few, passable_left, passable_right, paired}
use Rattle.mapping.proofs.seated.SeatedGenes.pair_of.Goals as goal

pub sends-requires : goal.sends-requires
sends-requires c = let f = lasts_few c.args.self.family.tree c.requires c.meet-node.ensures in search (rules, f)

pub steps_of-requires : goal.steps_of-requires
steps_of-requires c = passable_left c.args.self.family.tree c.requires c.meet-node.ensures _ _ c.event-event.ensures

pub steps_of-requires-2 : goal.steps_of-requires-2
steps_of-requires-2 c = passable_right c.args.self.family.tree c.requires c.meet-node.ensures _ _ c.event-event.ensures

pub returns : goal.returns
returns c = paired c.args.self.family.tree c.requires c.meet-node.ensures _ _ c.event-event.ensures c.sends.ensures c.steps_of.ensures c.steps_of-2.ensures
