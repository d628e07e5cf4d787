-- The settings of one component. The invariant: the state is the machine's after the settings below `counter`; with none left the component is
-- finished.
-- Assumes nothing.
use Rattle.std.proofs.Common.{◌≡◌}
use Rattle.search.specs.inner.Works.{ReachedIn, WorkingIn}
use Rattle.search.proofs.given.Given.component.Given as goal

abbrev pub invariant-loop : goal.invariant-loop
invariant-loop l = (l.stage.done ≡ l.initial.stage.done) × (l.stage.setting ≡ l.counter) × ReachedIn l.self l.work l.stage × WorkingIn l.self l.work.tree l.work.results
