-- One node after the other. (Not by `using`, which does not show what the law asks of the closure.)
-- Assumes nothing.
use Rattle.std.proofs.Common.{refl, rules}
use Rattle.finite.proofs.Upto.{any_upto}
use Rattle.layout.specs.Lines.{nodes_in}
use Rattle.network.specs.Refusals.{refusal7}
use Rattle.network.proofs.parents.seven.Goals as goal

pub returns : goal.returns
unfolding refusal7 nodes_in
returns c = any_upto _ _ c.any.ensures.ran refl (λ x b q k. search rules)
