-- What is asked of a sheet and of gene lines, so that 3, 4 and 5 do not apply to the sheet with these lines written out.
-- Assumes nothing.
use Rattle.std.specs.Prelude.{ℕ, ◌≤◌, ◌<◌, ◌≡◌, true, false, List}
use Rattle.finite.specs.Range.{every}
use Rattle.finite.specs.Tables.{within}
use Rattle.topology.specs.Lines.{GeneLines, Gene}
use Rattle.sheet.specs.Sheets.{nodes, refusal4, whole, node_line}

-- a header within its limits (a malformed one reads as zeros, and is not), then n network lines and nothing more
pub record WithoutGenes (s : List ℕ) : Type 0 where
  pub limits : refusal4 s ≡ false
  pub total : whole s (nodes s) 0 ≡ true
  pub lines : every (nodes s) (node_line s) ≡ true

-- gene lines that a sheet can hold: so many that m is within its limits, each number with a field, and 0 for what is no gene
pub record Writable (K : GeneLines) : Type 0 where
  pub some_gene : 1 ≤ K.count
  pub few_genes : K.count ≤ 127
  pub parent_small : (g : ℕ) → Gene K g → K.parent g < 1000000
  pub species_small : (g : ℕ) → Gene K g → K.species g < 1000000
  pub parent_within : within K.count K.parent ≡ K.parent
  pub species_within : within K.count K.species ≡ K.species
