-- A sheet whose gene part comes as "a second input" (02, (i): "The sheet then has no gene lines"), with the gene lines written out behind its network
-- lines, as they stand in other sheets (01, "The sheet").
-- Assumes nothing.
use Rattle.std.specs.Prelude.{ℕ, zero, suc, List, [], ◌++◌, drop}
use Rattle.text_lines.specs.Lines.{line_length, line_of}
use Rattle.report.specs.Reports.{five_of}
use Rattle.topology.specs.Lines.{GeneLines}
use Rattle.layout.specs.Headers.{costs}
use Rattle.layout.specs.declared.Header.{Header}
use Rattle.sheet.specs.Sheets.{header_in}
use Rattle.family.specs.Families.{Contents}
use Rattle.score.specs.Contents.{node_lines}

-- "Header: network nodes n, gene nodes m, costs of a duplication (D), a transfer (T) and a loss (L)", with m genes
abbrev pub header_fields : Header → (m : ℕ) → List ℕ
header_fields h m = five_of h.nodes m h.duplication h.transfer h.loss

-- "gene number (1 to m, in order), parent, species, 0, 0"
abbrev pub gene_fields : GeneLines → (g : ℕ) → List ℕ
gene_fields K g = five_of g (K.parent g) (K.species g) 0 0

-- the gene lines 1 to k
unfoldable pub gene_text : GeneLines → (k : ℕ) → List ℕ
gene_text K zero = []
gene_text K (suc k) = gene_text K k ++ line_of (gene_fields K (suc k))

-- the header of s with the number of genes as m, the network lines of s as they stand, the gene lines
unfoldable pub written_out : List ℕ → GeneLines → List ℕ
written_out s K = line_of (header_fields (header_in s) K.count) ++ (drop line_length s ++ gene_text K K.count)

-- what s says of the network and the costs, and K of the genes: the contents of the sheet written out (proofs/Contents)
abbrev pub contents_with : List ℕ → GeneLines → Contents
contents_with s K = record { nodes = node_lines s; genes = K; costs = costs (header_in s) }
