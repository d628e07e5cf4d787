-- The theorem about all known sheets: the checker computes the test of every row.
-- Assumes nothing.
use Rattle.std.proofs.Common.{◌≡◌, refl, true}
use mathlib.Core.List.{Memᴰ}
use Rattle.histories.specs.Histories.{open_Histories}
use Rattle.histories.specs.Words.{open_Words}
use Rattle.histories.specs.Families.{open_Families}
use Rattle.sheet_rows.specs.Rows.{Row, Known}
use Rattle.known_sheets.specs.Sheets.{known_sheets}
use Rattle.sheet_rows.proofs.Opened.{open_Finite, open_Sheet, open_Topology, open_Curators, open_Mapping, open_Score}
use Rattle.sheet_rows.proofs.Frozen.{open_Frozen}
use Rattle.sheet_rows.proofs.Rows.{all_pass, all_known, open_Rows}

all_pass_lem : all_pass known_sheets ≡ true
unfolding open_Finite open_Sheet open_Topology open_Curators open_Mapping open_Score open_Histories open_Words open_Families open_Frozen open_Rows
all_pass_lem = refl

-- whatever a call that keeps the promise of `score` does with the sheet and the buffers of a row of the table, it does what the row says
pub known_sheets_lem : (r : Row) → Memᴰ r known_sheets → Known r
known_sheets_lem = all_known known_sheets all_pass_lem
