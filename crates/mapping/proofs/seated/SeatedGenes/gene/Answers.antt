-- A leaf gene sits at its leaf, an inner gene where its children's climbs meet; either way one gene more is done (proofs/Evaluating).
-- Assumes nothing.
use Rattle.mapping.proofs.Evaluating.{leaf_turn, inner_fits, inner_room, inner_turn}
use Rattle.mapping.proofs.seated.SeatedGenes.gene.Goals as goal

pub returns-then-a-eq0 : goal.returns-then-a-eq0
returns-then-a-eq0 c = leaf_turn c.args.self.family c.requires.gene c.requires.upto c.if-a-eq0.true

pub inner-p-requires : goal.inner-p-requires
inner-p-requires c = inner_fits c.args.self.family c.requires.gene c.requires.upto c.if-a-eq0.false

pub raise-requires : goal.raise-requires
raise-requires c = inner_room c.args.self.family c.requires.gene c.requires.upto c.if-a-eq0.false c.inner-p.ensures.paired

pub returns : goal.returns
returns c = inner_turn c.args.self.family c.requires.gene c.requires.upto c.if-a-eq0.false c.inner-p.ensures.paired c.inner-p.ensures.results c.raise.ensures
