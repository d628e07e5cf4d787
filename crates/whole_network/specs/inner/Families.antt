-- The gene family of a sheet, over its lines and the table of its genes.
-- Assumes nothing.
use Rattle.layout.specs.declared.lines.Lines.{Lines}
use Rattle.layout.specs.declared.genes.Genes.{Genes}
use Rattle.layout.specs.Headers.{costs}
use Rattle.layout.specs.Lines.{nodes_of, genes_of}
use Rattle.layout.specs.inner.Genes.{gene_tree}
use Rattle.histories.specs.Histories.{Family}
use Rattle.histories.specs.Families.{family_of}
use Rattle.histories.specs.inner.Accepted.{Accepted}

abbrev pub family_in : Lines → Genes → Family
family_in l t = family_of (nodes_of l) (genes_of l) (gene_tree l.header.genes t) (costs l.header)

-- no refusal applies to it
abbrev pub AcceptedIn : Lines → Genes → Type 0
AcceptedIn l t = Accepted (nodes_of l) (genes_of l) (gene_tree l.header.genes t) (costs l.header)
