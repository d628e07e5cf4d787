-- `tables::count_at` meets its contract. The entry raised is that of the parent, or entry 0.
-- Assumes nothing.
use Rattle.tables.specs.Children.{one_more}
use Rattle.tables.proofs.count_at.Goals as goal

pub returns : goal.returns
unfolding one_more
returns c = rw c.slot.ensures.0
