-- The goals of `fill` that are left: see Invariants.antt for the idea.
use Rattle.std.proofs.Common.{refl, arith}
use Rattle.tables.proofs.Passes.{filled_start, filled_turn, filled_end}
use Rattle.tables.proofs.fill.Goals.{else-loop-v-test, then-loop-v-test+else-v-n}
use Rattle.tables.proofs.fill.Goals as goal

pub loop-v-init : goal.loop-v-init
loop-v-init g c = (omega arith, λ f h. filled_start _ f)

pub loop-v-preserved : goal.loop-v-preserved
loop-v-preserved g c = let l = c.loop-v in
    (omega arith, λ f h. filled_turn l.v _ _ _ l.out _ f l.auto.v (omega arith) (h _ _ l.auto.v c.loop-v-test.true c.f.ensures) refl (l.invariant.1 f h))

pub returns : goal.returns
returns g c f h = let l = c.loop-v in
    elim c.loop-v-test.branch [
      | else-loop-v-test w ↦ rw w.out-is (filled_end _ _ _ _ f (omega arith) (omega arith) (l.invariant.1 f h))
      | then-loop-v-test+else-v-n w ↦ let u = w.loop-v-test.true in
          rw w.out-is (filled_end _ l.v _ _ f (omega arith) u (filled_turn l.v _ _ _ l.out _ f l.auto.v refl (h _ _ l.auto.v u w.f.ensures) refl (l.invariant.1 f h)))
    ]
