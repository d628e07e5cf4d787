-- A sheet is accepted in one way at most, as a ghost field asks.
-- Assumes nothing.
use Rattle.layout.specs.declared.lines.Lines.{Lines}
use Rattle.layout.specs.declared.genes.Genes.{Genes}
use Rattle.layout.specs.inner.Props.{sound_prop, rooted_prop}
use Rattle.whole_network.specs.inner.Families.{AcceptedIn}
use denote.Struct.Props.{props}

pub accepted_prop : (lines : Lines) (genes : Genes) → IsProp (AcceptedIn lines genes)
accepted_prop lines genes = hlevel (sound_prop, rooted_prop, props)
