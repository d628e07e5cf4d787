-- The goals of `switch` that are left: see Invariants.antt for the idea.
use Rattle.std.proofs.Common.{arith}
use Rattle.topology.specs.Lines.{network}
use Rattle.layout.specs.Lines.{nodes_in}
use Rattle.switching.proofs.Settings.{turned_end}
use Rattle.switching.proofs.switch.Goals as goal

pub returns : goal.returns
unfolding network nodes_in
returns c = turned_end c.args.network.sound _ (omega arith) c.loop-r.invariant

pub returns-2 : goal.returns-2
unfolding network nodes_in
returns-2 c = turned_end c.args.network.sound _ (omega arith) c.turn_by_setting.ensures
