-- The first of the nodes that bears the species.
-- Assumes nothing.
use Rattle.std.proofs.Common.{refl, ◌∙◌, rules}
use Rattle.finite.specs.Tests.{same}
use Rattle.finite.proofs.Upto.{first_upto}
use Rattle.gene_tree.proofs.Reading.{sought_read}
use Rattle.gene_tree.proofs.species.sought.Goals as goal

pub returns : goal.returns
unfolding same
returns c = c.unwrap_or.ensures ∙ sought_read _ _ _ _ (first_upto _ _ _ c.find.ensures.ran refl (λ x b q k. search rules))
