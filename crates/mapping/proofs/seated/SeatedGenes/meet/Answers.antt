-- The goals of `meet` that are left: see Invariants.antt for the idea.
use Rattle.mapping.proofs.Meeting.{climbing_start, climbs_left, climbs_right, climbing_left, climbing_right, falls_left, falls_right, climbing_done}
use Rattle.mapping.proofs.seated.SeatedGenes.meet.Goals as goal

pub loop-left-init : goal.loop-left-init
loop-left-init c = climbing_start c.args.self.family.tree c.requires c.starting-left.ensures c.starting-right.ensures

pub climb-left-requires : goal.climb-left-requires
climb-left-requires c = climbs_left c.args.self.family.tree c.requires c.loop-left.invariant

pub loop-left-smaller-then-right-left : goal.loop-left-smaller-then-right-left
loop-left-smaller-then-right-left c = falls_left c.args.self.family.tree c.requires c.loop-left.invariant c.if-right-left.true c.loop-left-test.true c.climb-left.ensures

pub loop-left-preserved-then-right-left : goal.loop-left-preserved-then-right-left
loop-left-preserved-then-right-left c = climbing_left c.args.self.family.tree c.requires c.loop-left.invariant c.if-right-left.true c.loop-left-test.true c.climb-left.ensures

pub climb-right-requires : goal.climb-right-requires
climb-right-requires c = climbs_right c.args.self.family.tree c.requires c.loop-left.invariant

pub loop-left-smaller : goal.loop-left-smaller
loop-left-smaller c = falls_right c.args.self.family.tree c.requires c.loop-left.invariant c.if-right-left.false c.climb-right.ensures

pub loop-left-preserved : goal.loop-left-preserved
loop-left-preserved c = climbing_right c.args.self.family.tree c.requires c.loop-left.invariant c.if-right-left.false c.climb-right.ensures

pub returns : goal.returns
returns c = climbing_done c.args.self.family.tree c.requires c.loop-left.invariant c.loop-left-test.false
