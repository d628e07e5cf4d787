-- One node after the other.
-- Assumes nothing.
use Rattle.std.proofs.Common.{refl, ◌∙◌, rules}
use Rattle.finite.proofs.Upto.{any_upto}
use Rattle.network.proofs.AsRead.{parents_read}
use Rattle.network.proofs.parents.some_bad_parents.Goals as goal

pub returns : goal.returns
returns c = any_upto _ _ c.any.ensures.ran refl (λ x b q k. search rules) ∙ parents_read _ _
