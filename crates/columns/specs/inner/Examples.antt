-- Worked examples, by computation: the columns of some numbers, and fields that are malformed (32 is a space, 48 to 57 the digits).
-- Assumes nothing.
use Rattle.std.specs.Prelude.{◌≡◌, refl, [], ◌∷◌, Some, None}
use Rattle.columns.specs.Fields.{numeral_in, numeral, columns, same_bytes, spells, field_at}

unfoldable pub open_Fields : Unit {0}
unfolding numeral_in numeral columns same_bytes spells field_at
open_Fields = tt

columns_of_0 : columns 0 ≡ 32 ∷ 32 ∷ 32 ∷ 32 ∷ 32 ∷ 48 ∷ []
unfolding open_Fields
columns_of_0 = refl

columns_of_7 : columns 7 ≡ 32 ∷ 32 ∷ 32 ∷ 32 ∷ 32 ∷ 55 ∷ []
unfolding open_Fields
columns_of_7 = refl

columns_of_120 : columns 120 ≡ 32 ∷ 32 ∷ 32 ∷ 49 ∷ 50 ∷ 48 ∷ []
unfolding open_Fields
columns_of_120 = refl

columns_of_999999 : columns 999999 ≡ 57 ∷ 57 ∷ 57 ∷ 57 ∷ 57 ∷ 57 ∷ []
unfolding open_Fields
columns_of_999999 = refl

-- 42 between two other bytes
read_42 : field_at (88 ∷ 32 ∷ 32 ∷ 32 ∷ 32 ∷ 52 ∷ 50 ∷ 88 ∷ []) 1 ≡ Some (42, record { at = 7 })
unfolding open_Fields
read_42 = refl

read_0 : field_at (32 ∷ 32 ∷ 32 ∷ 32 ∷ 32 ∷ 48 ∷ []) 0 ≡ Some (0, record { at = 6 })
unfolding open_Fields
read_0 = refl

leading_zero : field_at (32 ∷ 32 ∷ 32 ∷ 48 ∷ 52 ∷ 50 ∷ []) 0 ≡ None
unfolding open_Fields
leading_zero = refl

zero_padded : field_at (48 ∷ 48 ∷ 48 ∷ 48 ∷ 48 ∷ 51 ∷ []) 0 ≡ None
unfolding open_Fields
zero_padded = refl

six_spaces : field_at (32 ∷ 32 ∷ 32 ∷ 32 ∷ 32 ∷ 32 ∷ []) 0 ≡ None
unfolding open_Fields
six_spaces = refl

space_after : field_at (32 ∷ 32 ∷ 32 ∷ 32 ∷ 51 ∷ 32 ∷ []) 0 ≡ None
unfolding open_Fields
space_after = refl

space_within : field_at (32 ∷ 32 ∷ 51 ∷ 32 ∷ 32 ∷ 52 ∷ []) 0 ≡ None
unfolding open_Fields
space_within = refl

-- a minus sign, a tab
sign : field_at (32 ∷ 32 ∷ 32 ∷ 32 ∷ 45 ∷ 51 ∷ []) 0 ≡ None
unfolding open_Fields
sign = refl

tabulator : field_at (9 ∷ 32 ∷ 32 ∷ 32 ∷ 32 ∷ 51 ∷ []) 0 ≡ None
unfolding open_Fields
tabulator = refl

five_bytes : field_at (32 ∷ 32 ∷ 32 ∷ 52 ∷ 50 ∷ []) 0 ≡ None
unfolding open_Fields
five_bytes = refl
