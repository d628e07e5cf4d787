-- The numbers of the events of a gene (01, "Settings and placement"): "Its event is 0, 1, 2 or 3".
-- Assumes nothing.
use Rattle.std.specs.Prelude.{ℕ}
use Rattle.layout.specs.declared.events.Event.{Event}
use Rattle.layout.specs.declared.events.Event.TheVariants.{LeafGene, Speciation, Duplication, Transfer}

-- the paper's number for each case
abbrev pub number : Event → ℕ
number LeafGene = 0
number Speciation = 1
number Duplication = 2
number Transfer = 3
