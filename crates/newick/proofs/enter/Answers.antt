-- `newick::enter` meets its contract: `entered` writes for genes below 128 and for no other.
-- Assumes nothing.
use Rattle.std.proofs.Common.{◌≤◌, ◌<◌, sym, arith}
use Rattle.finite.proofs.Tests.{is_under, not_under}
use Rattle.newick.specs.inner.Steps.{entered}
use Rattle.newick.proofs.enter.Goals as goal

pub returns-then-own-le-MOST-clause-written : goal.returns-then-own-le-MOST-clause-written
unfolding entered
returns-then-own-le-MOST-clause-written c = let l : c.args.own < 128 = omega arith in sym (rw (is_under l))

pub returns-else-own-le-MOST-clause-written : goal.returns-else-own-le-MOST-clause-written
unfolding entered
returns-else-own-le-MOST-clause-written c = let l : 128 ≤ c.args.own = omega arith in sym (rw (not_under l))
