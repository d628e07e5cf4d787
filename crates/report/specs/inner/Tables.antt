-- The report's lines as the tables of a scored family have their numbers (01, "The report").
-- Assumes nothing.
use Rattle.std.specs.Prelude.{ℕ, ◌≤◌, ◌<◌, Bool, not, cond, List, Option, Some, None}
use Rattle.finite.specs.Tests.{same, tally}
use Rattle.finite.specs.Tables.{at}
use Rattle.topology.specs.Networks.{is_reticulation}
use Rattle.layout.specs.Lines.{network_of}
use Rattle.layout.specs.inner.Tree.{up, lateral}
use Rattle.layout.specs.inner.Parts.{top, reticulation_count}
use Rattle.layout.specs.inner.Results.{place, event, transfers, losses}
use Rattle.layout.specs.declared.lines.Lines.{Lines}
use Rattle.layout.specs.declared.tree.Tree.{Tree}
use Rattle.layout.specs.declared.parts.Parts.{Parts}
use Rattle.layout.specs.declared.results.Placed.{Placed}
use Rattle.report.specs.declared.Totals.{Totals}
use Rattle.report.specs.Reports.{reticulation_fields, gene_fields, report_of}

-- a node with a secondary parent, and the reticulations of the network
unfoldable pub has_secondary : Lines → ℕ → Bool
has_secondary lines v = not (same (at lines.nodes.secondary v) 0)

abbrev pub reticulation_in : Lines → ℕ → Bool
reticulation_in lines = is_reticulation (network_of lines)

-- "1 if secondary else 0"
abbrev pub second : Tree → ℕ → ℕ
second tree v = tally (lateral tree v)

-- the numbers of a reticulation's line and of a gene's
abbrev pub reticulation_numbers : Tree → Parts → ℕ → List ℕ
reticulation_numbers tree parts = reticulation_fields (up tree) (second tree) (top parts) (reticulation_count parts)

-- of a node that is none there is no line
unfoldable pub node_line : Lines → Tree → Parts → ℕ → Option (List ℕ)
node_line lines tree parts v = cond (has_secondary lines v) (Some (reticulation_numbers tree parts v)) None

abbrev pub gene_numbers : (results : List Placed) → ℕ → List ℕ
gene_numbers results = gene_fields (place results) (event results) (transfers results) (losses results)

-- the whole report
abbrev pub tabled_report : Totals → Lines → Tree → Parts → List Placed → List ℕ
tabled_report totals lines tree parts results = report_of totals lines.header.nodes lines.header.genes (reticulation_in lines)
    (up tree) (second tree) (top parts) (reticulation_count parts)
    (place results) (event results) (transfers results) (losses results)

-- the numbers of a node have fields, and its top has a row; the numbers of a gene have fields
pub record SmallNode (tree : Tree) (parts : Parts) (v : ℕ) : Type 0 where
  pub taken : up tree v < 1000000
  pub top_row : top parts v ≤ 127
  pub count : reticulation_count parts (top parts v) < 1000000

pub record SmallGene (results : List Placed) (g : ℕ) : Type 0 where
  pub place : place results g < 1000000
  pub event : event results g < 1000000
  pub transfers : transfers results g < 1000000
  pub losses : losses results g < 1000000

-- those of the nodes 1..n, and of the genes 1..m
pub record SmallNodes (n : ℕ) (tree : Tree) (parts : Parts) : Type 0 where
  pub each : (v : ℕ) → 1 ≤ v → v ≤ n → SmallNode tree parts v

pub record SmallGenes (m : ℕ) (results : List Placed) : Type 0 where
  pub each : (g : ℕ) → 1 ≤ g → g ≤ m → SmallGene results g
