-- One step of the machine: only the component being scored has a setting other than 0, so what is evaluated is the trial of 01 (proofs/Turns,
-- proofs/Settled).
-- Assumes nothing.
use Rattle.std.proofs.Common.{arith, rules}
use Rattle.search.proofs.Turns.{taken_awaits, taken_at, step_settles, step_reaches}
use Rattle.search.proofs.given.Given.step.Goals as goal

pub settle-requires : goal.settle-requires
settle-requires c = let g = c.args.self.now in step_settles g (taken_awaits g _ c.fresh-s.ensures c.requires.awaiting)

pub returns-clause-reached : goal.returns-clause-reached
returns-clause-reached c = let g = c.args.self.now in
    let r = step_reaches g (taken_awaits g _ c.fresh-s.ensures c.requires.awaiting) (search rules) (search rules) c.evaluated-score.ensures c.settle.ensures in
    let f = taken_at g _ c.fresh-s.ensures in (r.0, omega (arith, r.1, f.0), omega (arith, r.2, f.1))
