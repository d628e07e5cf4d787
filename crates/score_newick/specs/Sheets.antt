-- Refusals 4 and 5 of a sheet whose gene part comes as text (02, (i)): "The sheet then has no gene lines, which 5 allows for, and its header's m is 1, else 4".
-- Assumes nothing.
use Rattle.std.specs.Prelude.{ℕ, ◌≡◌, Bool, ◌&&◌, not, List}
use Rattle.finite.specs.Tests.{same}
use Rattle.finite.specs.Tables.{at}
use Rattle.layout.specs.Headers.{WithinLimits}
use Rattle.sheet.specs.Sheets.{line_no, header_by, nodes, genes, limits, formed, Line, WellFormed}

-- 4: "n, m or a cost beyond its limits", and m may be 1 alone
unfoldable pub refusal4 : List ℕ → Bool
refusal4 s = not (limits (line_no s 0).line && same (genes s) 1)

-- 5: the sheet is not formed as 01 asks of n nodes and no gene lines
unfoldable pub refusal5 : List ℕ → Bool
refusal5 s = not (formed s (nodes s) 0)

-- 4 as a reader of 01 and 02 would state it: a header line is there, and its numbers are not within their limits with 1 for m
pub record Refusal4 (s : List ℕ) : Type 0 where
  pub numbers : List ℕ
  pub line : Line s 0 numbers
  pub beyond : ¬ (WithinLimits (header_by numbers) × (at numbers 1 ≡ 1))

-- 5: a header line is there, and the sheet is not formed as its n says, with no gene lines
pub record Refusal5 (s : List ℕ) : Type 0 where
  pub numbers : List ℕ
  pub line : Line s 0 numbers
  pub amiss : ¬ (WellFormed s (at numbers 0) 0)
