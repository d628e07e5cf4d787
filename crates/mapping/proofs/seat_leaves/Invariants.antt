-- Every gene once. The invariant: the leaf genes below k are seated (`LeavesUpto`).
-- Assumes nothing.
use Rattle.std.proofs.Common.{◌-◌}
use Rattle.mapping.specs.inner.Evaluation.{LeavesUpto}
use Rattle.mapping.proofs.seat_leaves.Given as goal

abbrev pub invariant-loop-k : goal.invariant-loop-k
invariant-loop-k l = LeavesUpto l.g (l.k - 1) l.r
