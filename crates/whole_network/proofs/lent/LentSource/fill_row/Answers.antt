-- The goals of `fill_row` that are left: see Invariants.antt for the idea.
use Rattle.std.proofs.Common.{arith}
use Rattle.histories.proofs.Filling.{kept_none}
use Rattle.whole_network.proofs.Turns.{row_begun, row_done}
use Rattle.whole_network.proofs.lent.LentSource.fill_row.Goals as goal

pub loop-i-init : goal.loop-i-init
loop-i-init c = (row_begun c.args.self.now c.requires.3, kept_none _ _)

pub returns-clause-rows_in : goal.returns-clause-rows_in
returns-clause-rows_in c = row_done c.args.self.now (omega arith) c.loop-i.invariant.0
