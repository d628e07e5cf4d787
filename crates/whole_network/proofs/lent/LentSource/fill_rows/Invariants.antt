-- `whole_network::lent::LentSource::fill_rows` meets its contract. The loop's invariant: the rows of the genes above g are filled, and no word outside the
-- table is written.
-- Assumes nothing.
use Rattle.whole_network.specs.inner.Stages.{RowsIn, KeptIn}
use Rattle.whole_network.proofs.lent.LentSource.fill_rows.Given as goal

abbrev pub invariant-loop-g : goal.invariant-loop-g
invariant-loop-g l = RowsIn l.self l.scratch l.g × KeptIn l.self l.initial.scratch l.scratch
