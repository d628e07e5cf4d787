-- The goals of `top_of` that are left: see Invariants.antt for the idea.
use Rattle.components.proofs.Ways.{top_end, up_less, up_kept}
use Rattle.components.proofs.climbs.Climbs.top_of.Goals as goal

pub loop-a-smaller : goal.loop-a-smaller
loop-a-smaller c = up_less c.args.self.network _ c.requires.marked _ _ c.loop-a.invariant

pub loop-a-preserved : goal.loop-a-preserved
loop-a-preserved c = up_kept c.args.self.network _ c.requires.marked _ _ c.loop-a.invariant c.loop-a-test.true

pub returns : goal.returns
returns c = top_end c.args.self.network _ c.requires.marked _ _ c.loop-a.invariant c.loop-a-test.false
