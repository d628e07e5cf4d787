-- `components::crowded` meets its contract. One node after the other, by the counts at the tops.
-- Assumes nothing.
use Rattle.std.proofs.Common.{refl, ◌∙◌, rules}
use Rattle.finite.specs.Tests.{under}
use Rattle.finite.proofs.Upto.{any_upto}
use Rattle.components.proofs.Filling.{crowded_read}
use Rattle.components.proofs.crowded.Goals as goal

pub returns : goal.returns
unfolding under
returns c = any_upto _ _ c.any.ensures.ran refl (λ x b q k. search rules)
    ∙ crowded_read c.args.lines.now _ c.requires
