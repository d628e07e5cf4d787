-- The goals of `read_numeral` that are left: see Invariants.antt for the idea.
use Rattle.std.proofs.Common.{◌≡◌, ◌+◌, ◌-◌, ◌∙◌, suc, arith}
use Rattle.newick.proofs.Digits.{leaf_none, leaf_zero, leaf_first, more_none, more_end, more_turn, next_digit}
use Rattle.newick.proofs.Reader.read_numeral.Goals as goal

pub returns-in_err-species-clause-value : goal.returns-in_err-species-clause-value
returns-in_err-species-clause-value c = let a = c.args in c.from_residual.ensures ∙ leaf_none a.self.now.text.now a.at c.in_err-species.ensures.value

pub returns-then-species-eq0-clause-value : goal.returns-then-species-eq0-clause-value
returns-then-species-eq0-clause-value c = let a = c.args in leaf_zero a.self.now.text.now a.at (rw c.if-species-eq0.true at c.in_ok-species.ensures.value)

pub loop-next-init : goal.loop-next-init
loop-next-init c =
    let a = c.args in
    let one : a.at + 1 - a.at ≡ 1 = omega arith in
    record {
      small = rw one (omega (arith, c.in_ok-species.ensures.few));
      rest = leaf_first a.self.now.text.now a.at _ (a.at + 6 - (a.at + 1)) c.in_ok-species.ensures.value c.if-species-eq0.false (omega arith);
    }

pub returns-in_default-clause-value : goal.returns-in_default-clause-value
returns-in_default-clause-value c = more_none _ _ _ _ _ c.loop-next.invariant.rest c.in_default.ensures.value

pub loop-next-preserved : goal.loop-next-preserved
loop-next-preserved c =
    let at = c.args.at in
    let l = c.loop-next in
    let more : l.next + 1 - at ≡ suc (l.next - at) = omega arith in
    record {
      small = rw more (next_digit (l.next - at) l.species _ l.invariant.small c.in-Some.ensures.few);
      rest = more_turn c.args.self.now.text.now (at + 6 - l.next) l.species l.next _ l.invariant.rest (at + 6 - (l.next + 1)) _ (omega arith) c.in-Some.ensures.value;
    }

pub returns-clause-value : goal.returns-clause-value
returns-clause-value c =
    let l = c.loop-next in
    more_end c.args.self.now.text.now (c.args.at + 6 - l.next) l.species l.next _ l.invariant.rest _ (omega arith) (omega arith)
