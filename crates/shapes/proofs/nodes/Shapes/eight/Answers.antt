-- One node after the other, by its counts.
-- Assumes nothing.
use Rattle.std.proofs.Common.{refl, ◌∙◌, rules}
use Rattle.finite.proofs.Upto.{any_upto}
use Rattle.shapes.proofs.AsRead.{shapes_read}
use Rattle.shapes.proofs.nodes.Shapes.eight.Goals as goal

pub returns : goal.returns
returns c = any_upto _ _ c.any.ensures.ran refl (λ x b q k. search rules) ∙ shapes_read _ _ _ c.args.self.now.counted
