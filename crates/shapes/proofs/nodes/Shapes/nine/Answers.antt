-- One node after the other.
-- Assumes nothing.
use Rattle.std.proofs.Common.{refl, ◌∙◌, rules}
use Rattle.finite.proofs.Upto.{any_upto}
use Rattle.layout.specs.Lines.{nodes_in, nodes_of}
use Rattle.shapes.specs.inner.ShortForms.{wrong_species_at}
use Rattle.shapes.proofs.ShortForms.{wrong_iff}
use Rattle.shapes.proofs.nodes.Shapes.nine.Goals as goal

pub returns : goal.returns
unfolding nodes_in
returns c = any_upto _ (wrong_species_at (nodes_of c.args.self.now.lines.now)) c.any.ensures.ran refl (λ x b q k. search rules) ∙ wrong_iff _
