-- `whole_network::lent::LentSource::fill_row` meets its contract. The loop's invariant: the row is filled at the nodes above place i, and no word outside the
-- table is written.
-- Assumes nothing.
use Rattle.whole_network.specs.inner.Stages.{PartlyIn, KeptIn}
use Rattle.whole_network.proofs.lent.LentSource.fill_row.Given as goal

abbrev pub invariant-loop-i : goal.invariant-loop-i
invariant-loop-i l = PartlyIn l.self l.scratch l.g l.i × KeptIn l.self l.initial.scratch l.scratch
