-- The goals of `seat_leaves` that are left: see Invariants.antt for the idea.
use Rattle.std.proofs.Common.{arith}
use Rattle.mapping.proofs.Evaluating.{leaves_start, leaves_done, leaves_after}
use Rattle.mapping.proofs.seat_leaves.Goals as goal

pub loop-k-init : goal.loop-k-init
loop-k-init c = leaves_start _ c.requires.2

pub seat_leaf-requires : goal.seat_leaf-requires
seat_leaf-requires c = let s = c.requires in (c.loop-k.auto.k, omega (arith, s.0), s.1 _ c.loop-k.auto.k c.loop-k-test.true, c.loop-k.invariant)

pub loop-k-preserved : goal.loop-k-preserved
loop-k-preserved c = leaves_after _ c.seat_leaf.ensures

pub returns : goal.returns
returns c = leaves_done (omega arith) c.loop-k.invariant

pub returns-2 : goal.returns-2
returns-2 c = leaves_done (omega arith) c.seat_leaf.ensures
