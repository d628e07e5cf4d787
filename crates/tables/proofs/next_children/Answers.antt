-- The goals of `next_children` that are left: see Invariants.antt for the idea.
use Rattle.std.proofs.Common.{arith}
use Rattle.finite.specs.Tables.{zeros}
use Rattle.tables.proofs.Passes.{noted_start, noted_turn, noted_done}
use Rattle.tables.proofs.next_children.Goals as goal

pub loop-w-init : goal.loop-w-init
unfolding zeros
loop-w-init c = noted_start _ _ _ c.requires.0 _ c.requires.1

pub loop-w-preserved : goal.loop-w-preserved
loop-w-preserved c = let q = c.slot_after-q.ensures in noted_turn _ _ _ c.requires.0 c.loop-w.w _ _ _ _ _ (omega arith) c.loop-w.auto.w q.0 (omega arith) (omega arith) (omega arith) q.1 c.loop-w.invariant

pub returns : goal.returns
returns c = noted_done _ _ _ c.requires.0 _ _ (omega arith) c.loop-w.invariant
