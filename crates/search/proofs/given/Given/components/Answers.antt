-- The goals of `components` that are left: see Invariants.antt for the idea.
use Rattle.std.proofs.Common.{arith}
use Rattle.search.proofs.Turns.{begins, ends}
use Rattle.search.proofs.given.Given.components.Goals as goal

pub loop-init : goal.loop-init
loop-init c = let z = c.default-stage.ensures in (z.0, z.1.0, begins c.args.self.now c.requires.1 z, c.requires.0)

pub returns-clause-last : goal.returns-clause-last
returns-clause-last c = let i = c.loop.invariant in
    ends c.args.self.now i.2 i.1 (omega (arith, i.0)) (omega (arith, i.0))
