-- The goals of `non_tops` that are left: see Invariants.antt for the idea.
use Rattle.std.proofs.Common.{arith}
use Rattle.components.proofs.Ways.{ways_none}
use Rattle.components.proofs.climbs.Climbs.non_tops.Goals as goal

pub loop-v-init : goal.loop-v-init
loop-v-init c = (omega arith, ways_none _)
