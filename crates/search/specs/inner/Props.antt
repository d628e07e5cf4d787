-- What holds of what is lent to the search has one proof at most, as a ghost field asks.
-- Assumes nothing.
use Rattle.layout.specs.declared.lines.Lines.{Lines}
use Rattle.layout.specs.declared.genes.Genes.{Genes}
use Rattle.layout.specs.inner.Props.{rooted_prop}
use Rattle.search.specs.inner.Prepared.{Prepared}
use denote.Struct.Props.{props}

pub prepared_prop : (lines : Lines) (genes : Genes) → IsProp (Prepared lines genes)
prepared_prop lines genes = hlevel (rooted_prop, props)
