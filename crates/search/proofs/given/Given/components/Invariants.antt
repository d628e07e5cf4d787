-- The components by rising top. The invariant: the state is the machine's after all settings of as many components as `counter` says, so at the end
-- it is the last one.
-- Assumes nothing.
use Rattle.std.proofs.Common.{◌≡◌}
use Rattle.search.specs.inner.Works.{ReachedIn, WorkingIn}
use Rattle.search.proofs.given.Given.components.Given as goal

abbrev pub invariant-loop : goal.invariant-loop
invariant-loop l = (l.stage.done ≡ l.counter) × (l.stage.setting ≡ 0) × ReachedIn l.self l.work l.stage × WorkingIn l.self l.work.tree l.work.results
