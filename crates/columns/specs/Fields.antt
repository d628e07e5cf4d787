-- A field (01, "The sheet"): "a decimal number without leading zeros, right-justified after spaces; zero is `0`", in six columns.
-- Assumes nothing.
use Rattle.std.specs.Prelude.{ℕ, zero, suc, ◌+◌, ◌-◌, ◌*◌, ◌/◌, ◌%◌, ◌<◌, ◌≡◌, Bool, true, false, cond, ◌&&◌, List, [], ◌∷◌, ◌++◌, length, get_or, take, drop, replicate, ltb, eqb, Option, Some, None}
use Rattle.columns.specs.declared.Cursor.{Cursor}

-- the decimal numeral of n without leading zeros; k bounds its length
unfoldable pub numeral_in : ℕ → ℕ → List ℕ
numeral_in zero n = []
numeral_in (suc k) n = cond (ltb n 10) ((48 + n) ∷ []) (numeral_in k (n / 10) ++ ((48 + n % 10) ∷ []))

unfoldable pub numeral : ℕ → List ℕ
numeral n = numeral_in 6 n

-- right-justified after spaces: the six bytes of a number below 1,000,000
unfoldable pub columns : ℕ → List ℕ
columns n = replicate (6 - length (numeral n)) 32 ++ numeral n

-- whether two lists of bytes are equal
unfoldable pub same_bytes : List ℕ → List ℕ → Bool
same_bytes [] [] = true
same_bytes [] (y ∷ ys) = false
same_bytes (x ∷ xs) [] = false
same_bytes (x ∷ xs) (y ∷ ys) = eqb x y && same_bytes xs ys

-- what spells a number: the bytes are its columns (the one place that says so)
unfoldable pub spells : List ℕ → ℕ → Bool
spells bs n = same_bytes bs (columns n)

-- "The place values 1, 10, 100, 1,000, 10,000 and 100,000 serve reading and writing", the last column's first
abbrev pub place_values : List ℕ
place_values = 1 ∷ 10 ∷ 100 ∷ 1000 ∷ 10000 ∷ 100000 ∷ []

abbrev pub place_value : ℕ → ℕ
place_value k = get_or place_values k 0

-- the byte in the column that is worth place_value k: a space where the number is smaller than that, but never in the last column; else the digit
abbrev pub column_of : ℕ → ℕ → ℕ
column_of n k = cond (eqb k 0) (48 + n / place_value k % 10) (cond (ltb n (place_value k)) 32 (48 + n / place_value k % 10))

-- what a byte counts for: nothing, unless it is a digit
abbrev pub digit_of : ℕ → ℕ
digit_of b = cond (ltb b 48) 0 (cond (ltb 57 b) 0 (b - 48))

-- what the first k of six columns are worth
abbrev pub worth_of : List ℕ → ℕ → ℕ
worth_of bs zero = 0
worth_of bs (suc k) = worth_of bs k + digit_of (get_or bs k 0) * place_value (5 - k)

-- the six bytes at a place of the text, fewer where it ends
abbrev pub six : List ℕ → ℕ → List ℕ
six s at = take 6 (drop at s)

-- reading a field: the only number that six bytes can spell is what they are worth; either they spell it, or they are malformed
unfoldable pub field_at : List ℕ → ℕ → Option (ℕ × Cursor)
field_at s at = cond (spells (six s at) (worth_of (six s at) 6)) (Some (worth_of (six s at) 6, record { at = at + 6 })) None

-- the same, as 01 would say it: a number below 1,000,000 that the six bytes spell, with the place after them; or no number is spelled there
abbrev pub FieldIs : List ℕ → ℕ → Option (ℕ × Cursor) → Type 0
FieldIs s at (Some (n, c)) = (n < 1000000) × (spells (six s at) n ≡ true) × (c.at ≡ at + 6)
FieldIs s at None = (n : ℕ) → n < 1000000 → spells (six s at) n ≡ true → ⊥
