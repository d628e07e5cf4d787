-- The goals of `child_counts` that are left: see Invariants.antt for the idea.
use Rattle.std.proofs.Common.{◌-◌, refl, arith}
use Rattle.finite.specs.Tables.{zeros}
use Rattle.tables.proofs.Passes.{counted_start, counted_turn, counted_few, counted_done}
use Rattle.tables.proofs.child_counts.Goals.{else-loop-v-test, then-loop-v-test+else-v-n}
use Rattle.tables.proofs.child_counts.Goals as goal

pub loop-v-init : goal.loop-v-init
unfolding zeros
loop-v-init c = counted_start _ _ c.requires.0 _ c.requires.1

pub count_at-requires : goal.count_at-requires
count_at-requires c = (omega (arith, c.requires.0), counted_few _ _ c.requires.0 (c.loop-v.v - 1) _ _ (omega arith) c.loop-v.invariant)

pub loop-v-preserved : goal.loop-v-preserved
loop-v-preserved c = counted_turn _ _ c.requires.0 c.loop-v.v _ _ _ _ _ c.loop-v.auto.v (omega arith) c.count_at.ensures (omega arith) (omega arith) c.loop-v.invariant

pub returns : goal.returns
returns c = elim c.loop-v-test.branch [
  | else-loop-v-test w ↦ rw w.out-is (counted_done _ _ c.requires.0 (c.loop-v.v - 1) _ (λ l. absurd (omega (arith, c.loop-v.auto.v-end l))) c.loop-v.invariant)
  | then-loop-v-test+else-v-n w ↦ rw w.out-is (counted_done _ _ c.requires.0 c.loop-v.v _ (λ _. omega arith)
      (counted_turn _ _ c.requires.0 c.loop-v.v _ _ _ _ _ c.loop-v.auto.v refl w.count_at.ensures (omega arith) (omega arith) c.loop-v.invariant))
]
