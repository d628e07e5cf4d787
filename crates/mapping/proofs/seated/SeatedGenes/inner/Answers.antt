-- The pair of children is mapped, and noted at the gene and its children.
-- Assumes nothing.
use Rattle.mapping.specs.inner.Evaluation.{noted_by}
use Rattle.mapping.proofs.Pairing.{paired_few}
use Rattle.mapping.proofs.seated.SeatedGenes.inner.Goals as goal

pub seat-requires : goal.seat-requires
seat-requires c = let s = c.requires in (s.1, paired_few c.args.self.family.tree (s.0.left, s.0.right) c.pair_of-p.ensures)

pub returns : goal.returns
unfolding noted_by
returns c = record { paired = c.pair_of-p.ensures; results = rw (c.send-2.ensures, c.send.ensures, c.seat.ensures) }
