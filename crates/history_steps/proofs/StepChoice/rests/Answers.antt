-- A leaf gene rests at a leaf of its species, and there alone.
-- Assumes nothing.
use Rattle.finite.proofs.Tests.{is_same, not_same}
use Rattle.tellings.specs.Chosen.{restings}
use Rattle.tellings.specs.inner.Walks.{Each, offers}
use Rattle.history_steps.proofs.StepChoice.rests.Goals as goal

pub offer-requires : goal.offer-requires
unfolding Each restings
offer-requires c = (c.requires.0, (rw (c.in-Leaf.is, is_same c.if-species-node_species.true) at c.requires.1).0)

pub returns-in-Leaf : goal.returns-in-Leaf
unfolding restings
returns-in-Leaf c = rw (c.in-Leaf.is, is_same c.if-species-node_species.true) c.offer.ensures

pub returns-in_default : goal.returns-in_default
unfolding restings offers
returns-in_default c = rw (c.in-Leaf.is, not_same c.if-species-node_species.false)
