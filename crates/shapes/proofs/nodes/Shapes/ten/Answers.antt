-- One node after the other, by its counts.
-- Assumes nothing.
use Rattle.std.proofs.Common.{refl, ◌∙◌, rules}
use Rattle.finite.proofs.Upto.{any_upto}
use Rattle.shapes.proofs.AsRead.{only_read}
use Rattle.shapes.proofs.nodes.Shapes.ten.Goals as goal

pub returns : goal.returns
returns c = any_upto _ _ c.any.ensures.ran refl (λ x b q k. search rules) ∙ only_read _ _ _ c.args.self.now.counted
