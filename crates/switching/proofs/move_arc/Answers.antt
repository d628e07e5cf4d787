-- `switching::move_arc` meets its contract. Both counts change as the definition says.
-- Assumes nothing.
use Rattle.std.proofs.Common.{refl}
use Rattle.switching.specs.inner.Turning.{arc_moved}
use Rattle.switching.proofs.move_arc.Goals as goal

pub returns : goal.returns
unfolding arc_moved
returns c = refl
