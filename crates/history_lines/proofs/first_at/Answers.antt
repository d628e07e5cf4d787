-- The goals of `first_at` that are left: see Invariants.antt for the idea.
-- Assumes nothing.
use Rattle.std.proofs.Common.{sym, arith}
use Rattle.finite.proofs.Cases.{by_eq}
use Rattle.finite.proofs.Tests.{is_same, not_same}
use Rattle.finite.proofs.Every.{first_only, first_nothing}
use Rattle.history_lines.proofs.first_at.Goals as goal

pub returns-then-words-v : goal.returns-then-words-v
returns-then-words-v c = sym (first_only _ _ _ c.loop-v.auto.v c.loop-v-test.true (is_same c.if-words-v.true) c.loop-v.invariant.1)

pub loop-v-preserved : goal.loop-v-preserved
loop-v-preserved c = (omega (arith, c.loop-v-test.true), λ w l u. by_eq w c.loop-v.v (λ e. rw e (not_same c.if-words-v.false)) (λ d. c.loop-v.invariant.1 w l (omega arith)))

pub returns : goal.returns
returns c = sym (first_nothing _ _ (λ v l u. c.loop-v.invariant.1 v l (omega arith)))

pub returns-else-words-v : goal.returns-else-words-v
returns-else-words-v c = sym (first_nothing _ _ (λ v l u. by_eq v c.loop-v.v (λ e. rw e (not_same c.if-words-v.false)) (λ d. c.loop-v.invariant.1 v l (omega arith))))
