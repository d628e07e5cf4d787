-- Reading a field column by column from the left: which byte may stand in a column, by what the columns before it are worth.
-- Assumes nothing.
use Rattle.std.specs.Prelude.{ℕ, ◌+◌, ◌<◌, ◌≡◌, Bool, true, false, cond, List, get_or, ltb, eqb}

-- the columns in front of the last two, which are spaces in the field of a number below 100
abbrev pub front_count : ℕ
front_count = 4

-- the first k columns at a place of the text are spaces
pub record Blank (s : List ℕ) (at k : ℕ) : Type 0 where
  pub spaces : (j : ℕ) → j < k → get_or s (at + j) 0 ≡ 32

-- whether a byte is a digit
unfoldable pub digit : ℕ → Bool
digit b = cond (ltb b 48) false (cond (ltb 57 b) false true)

-- whether it may stand where the number has not begun: a space, or a first digit, which is not 0 ("without leading zeros, .. after spaces")
unfoldable pub opening : ℕ → Bool
opening b = cond (eqb b 32) true (cond (ltb b 49) false (cond (ltb 57 b) false true))

-- whether it may stand in the column of place k, after columns that are worth w: they are worth nothing just where the number has not begun,
-- and in the last column stands a digit in any case ("zero is `0`")
unfoldable pub fitting : ℕ → ℕ → ℕ → Bool
fitting b w k = cond (eqb w 0) (cond (eqb k 0) (digit b) (opening b)) (digit b)
