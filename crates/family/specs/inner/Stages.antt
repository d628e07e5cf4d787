-- What is lent and left where a family that no refusal applies to is written.
-- Assumes nothing.
use Rattle.std.specs.Prelude.{◌≡◌, not, List, ◌++◌, ℕ, ◌*◌, ◌≤◌, length, drop}
use Rattle.finite.specs.Tests.{same}
use Rattle.finite.specs.Range.{count}
use Rattle.finite.specs.Refusals.{verdict}
use Rattle.columns.specs.Writing.{written}
use Rattle.topology.specs.Networks.{is_reticulation}
use Rattle.layout.specs.Lines.{nodes_of, genes_of, network_of}
use Rattle.layout.specs.inner.Parts.{reticulation_count}
use Rattle.layout.specs.Headers.{costs, WithinLimits}
use Rattle.layout.specs.declared.Header.{Header}
use Rattle.layout.specs.declared.lines.Lines.{Lines}
use Rattle.layout.specs.declared.parts.Parts.{Parts}
use Rattle.layout.specs.inner.Genes.{gene_tree}
use Rattle.gene_tree.specs.Genes.{gene_tree_of}
use Rattle.whole_network.specs.declared.source.Source.{Source}
use Rattle.whole_network.specs.declared.lent.LentSource.{LentSource}
use Rattle.network.specs.Refusals.{network_refusals}
use Rattle.components.specs.Refusals.{component_refusals}
use Rattle.gene_tree.specs.Refusals.{gene_refusals}
use Rattle.histories.specs.Words.{words}
use Rattle.report.specs.declared.Totals.{Totals}
use Rattle.search.specs.declared.Found.{Found}
use Rattle.family.specs.Buffers.{least_words, least_bytes}
use Rattle.family.specs.Families.{Contents, family_in}
use Rattle.family.specs.Reports.{report_in}

-- what the numbers of the lines say
abbrev pub contents_by : Lines → Contents
contents_by l = record { nodes = nodes_of l; genes = genes_of l; costs = costs l.header }

-- a header within the limits, and buffers that hold what is written
pub record Sized (h : Header) (bytes words : ℕ) : Type 0 where
  pub limits : WithinLimits h
  pub room : least_bytes ≤ bytes
  pub space : least_words ≤ words

-- none of 6 to 13 applies
pub record Passed (X : Contents) : Type 0 where
  pub network : verdict (network_refusals X.nodes) ≡ 0
  pub component : verdict (component_refusals X.nodes) ≡ 0
  pub genes : verdict (gene_refusals X.nodes X.genes) ≡ 0

-- the genes and the arcs from which the whole network is filled are those of the lines
pub record SourceOf (lines : Lines) (source : Source) : Type 0 where
  pub same_lines : source.lines.now ≡ lines
  pub tree : gene_tree lines.header.genes source.genes.now ≡ gene_tree_of (nodes_of lines) (genes_of lines)

-- the same of a source that is lent
pub record LentOf (lines : Lines) (source : LentSource) : Type 0 where
  pub same_lines : source.lines.now ≡ lines
  pub tree : gene_tree lines.header.genes source.genes.now ≡ gene_tree_of (nodes_of lines) (genes_of lines)

-- the numbers of the report's first two lines, by what was found and by the tables
unfoldable pub totals_by : Lines → Parts → Found → ℕ → Totals
totals_by lines parts found whole = record {
  cost = found.score.cost;
  duplications = found.score.duplications;
  transfers = found.score.transfers;
  losses = found.score.losses;
  trials = found.trials;
  whole = whole;
  nodes = lines.header.nodes;
  genes = lines.header.genes;
  reticulations = count lines.header.nodes (is_reticulation (network_of lines));
  components = count lines.header.nodes (λ c. not (same (reticulation_count parts c) 0));
}

-- these bytes are written over the front of the result, which was d and is e, and the table over that of the scratch, which was u and is t
pub record Overwritten (X : Contents) (piece d e u t : List ℕ) (r : ℕ) : Type 0 where
  pub result : e ≡ written d piece
  pub scratch : t ≡ words (family_in X) ++ drop (X.genes.count * X.nodes.size) u
  pub bytes : r ≡ length piece

-- the report is
abbrev pub Written : Contents → (d e u t : List ℕ) → ℕ → Type 0
Written X d e u t r = Overwritten X (report_in X) d e u t r
