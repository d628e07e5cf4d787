-- The goals of `counts` that are left: see Invariants.antt for the idea.
use Rattle.std.proofs.Common.{◌-◌, arith}
use Rattle.components.proofs.Filling.{parted_done}
use Rattle.components.proofs.counts.Goals as goal

pub returns : goal.returns
returns c = parted_done c.args.network _ (c.loop-v.v - 1) (omega arith) (omega arith) c.loop-v.invariant.1

pub returns-2 : goal.returns-2
returns-2 c = parted_done c.args.network _ c.loop-v.v (omega arith) (omega arith) c.count_node.ensures
