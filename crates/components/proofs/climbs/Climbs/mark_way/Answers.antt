-- The goals of `mark_way` that are left: see Invariants.antt for the idea.
use Rattle.std.proofs.Common.{rules}
use Rattle.components.proofs.Ways.{way_end, kept_left, kept_right, less_left, less_right}
use Rattle.components.proofs.climbs.Climbs.mark_way.Goals as goal

pub loop-a-preserved-then-self-a : goal.loop-a-preserved-then-self-a
loop-a-preserved-then-self-a c = kept_right c.args.self _ _ _ _ _ _ c.loop-a.invariant c.loop-a-test.true c.if-self-a.true (search rules)

pub loop-a-smaller-then-self-a : goal.loop-a-smaller-then-self-a
loop-a-smaller-then-self-a c = less_right c.args.self _ _ _ _ _ _ c.loop-a.invariant c.loop-a-test.true c.if-self-a.true

pub loop-a-preserved : goal.loop-a-preserved
loop-a-preserved c = kept_left c.args.self _ _ _ _ _ _ c.loop-a.invariant c.loop-a-test.true c.if-self-a.false (search rules)

pub loop-a-smaller : goal.loop-a-smaller
loop-a-smaller c = less_left c.args.self _ _ _ _ _ _ c.loop-a.invariant c.loop-a-test.true c.if-self-a.false

pub returns : goal.returns
returns c = way_end c.args.self _ _ _ _ _ _ c.loop-a.invariant.2 (search rules)
