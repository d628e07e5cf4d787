-- The goals of `fill_rows` that are left: see Invariants.antt for the idea.
use Rattle.histories.proofs.Filling.{kept_none}
use Rattle.whole_network.proofs.Turns.{rows_begun}
use Rattle.whole_network.proofs.lent.LentSource.fill_rows.Goals as goal

pub loop-g-init : goal.loop-g-init
loop-g-init c = (rows_begun c.args.self.now _, kept_none _ _)
