-- One gene after the other, by its parent and its number of children.
-- Assumes nothing.
use Rattle.std.proofs.Common.{refl, ◌∙◌, rules}
use Rattle.finite.proofs.Upto.{any_upto}
use Rattle.gene_tree.proofs.Reading.{twelve_read}
use Rattle.gene_tree.proofs.gene_lines.GeneLines.twelve.Goals as goal

pub returns : goal.returns
returns c = any_upto _ _ c.any.ensures.ran refl (λ x b q k. search rules) ∙ twelve_read _ _ _ c.args.self.now.counted
