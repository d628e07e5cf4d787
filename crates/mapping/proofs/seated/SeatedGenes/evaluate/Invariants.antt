-- Every gene, by falling number. The invariant (`Upto`): the genes above k have their place, event, transfers and losses, and the score counts
-- their events.
-- Assumes nothing.
use Rattle.mapping.specs.inner.Evaluation.{Upto}
use Rattle.mapping.specs.inner.Seated.{displayed_in, genes_in}
use Rattle.layout.specs.Headers.{costs}
use Rattle.mapping.proofs.seated.SeatedGenes.evaluate.Given as goal

abbrev pub invariant-loop-k : goal.invariant-loop-k
invariant-loop-k l = Upto (displayed_in l.self) (genes_in l.self) (costs l.self.header) l.k l.r l.s
