-- The goals of `component` that are left: see Invariants.antt for the idea.
use Rattle.std.proofs.Common.{arith}
use Rattle.search.proofs.Turns.{tried_is, awaits, fresh_awaits, finishes}
use Rattle.search.proofs.given.Given.component.Goals as goal

pub step-stage-requires-clause-awaiting : goal.step-stage-requires-clause-awaiting
step-stage-requires-clause-awaiting c = let g = c.args.self.now in let s = c.requires in let i = c.loop.invariant in
    fresh_awaits g (awaits g i.2 (omega (arith, i.0, s.reached.1)) (tried_is g s.reached.1 i.0 c.settings_of-tried.ensures) (omega (arith, i.1)))

pub returns-clause-reached_after : goal.returns-clause-reached_after
returns-clause-reached_after c = let g = c.args.self.now in let s = c.requires in let i = c.loop.invariant in
    let f = finishes g i.2 (omega (arith, i.0, s.reached.1)) (tried_is g s.reached.1 i.0 c.settings_of-tried.ensures) (omega (arith, i.1)) (omega (arith, i.1)) c.finish.ensures in
    (f.0, omega (arith, f.1, i.0), f.2)
