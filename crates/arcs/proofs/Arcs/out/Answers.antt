-- `arcs::Arcs::out` meets its contract. Each return is one case of what leaves the node.
-- Assumes nothing.
use Rattle.std.proofs.Common.{sym}
use Rattle.histories.proofs.Outs.{out_leaf, out_two, out_mixed, out_one}
use Rattle.arcs.proofs.Arcs.out.Goals as goal

pub returns-then-x-eq0 : goal.returns-then-x-eq0
returns-then-x-eq0 c = sym (out_leaf _ _ _ _ c.if-x-eq0.true)

pub returns-then-y-ne0 : goal.returns-then-y-ne0
returns-then-y-ne0 c = sym (out_two _ _ _ _ c.if-x-eq0.false c.if-y-ne0.true)

pub returns-then-z-ne0 : goal.returns-then-z-ne0
returns-then-z-ne0 c = sym (out_mixed _ _ _ _ c.if-x-eq0.false c.if-y-ne0.false c.if-z-ne0.true)

pub returns : goal.returns
returns c = sym (out_one _ _ _ _ c.if-x-eq0.false c.if-y-ne0.false c.if-z-ne0.false)
