-- A line (01, "The sheet"): "five fields of six columns and a line feed: 31 bytes", and what reading and writing one comes to.
-- Assumes nothing.
use Rattle.std.specs.Prelude.{ℕ, zero, suc, ◌+◌, ◌*◌, ◌<◌, ◌≡◌, cond, List, [], ◌∷◌, ◌++◌, get_or, take, drop, replicate, eqb, Option, Some, None}
use Rattle.columns.specs.Fields.{columns, field_at}
use Rattle.columns.specs.declared.Cursor.{Cursor}

-- how many fields a line has: the one place of the specification that says so
abbrev pub field_count : ℕ
field_count = 5

-- the bytes of a line
abbrev pub line_length : ℕ
line_length = 6 * field_count + 1

-- the fields of the first k of the numbers ns, one after the other
unfoldable pub fields_of : ℕ → List ℕ → List ℕ
fields_of zero ns = []
fields_of (suc k) ns = fields_of k ns ++ columns (get_or ns k 0)

-- a line of the numbers ns: their fields and a line feed
unfoldable pub line_of : List ℕ → List ℕ
line_of ns = fields_of field_count ns ++ (10 ∷ [])

-- the text of lines, one after the other
unfoldable pub lines_text : List (List ℕ) → List ℕ
lines_text [] = []
lines_text (ns ∷ l) = line_of ns ++ lines_text l

-- each number has a field
pub record Small (ns : List ℕ) : Type 0 where
  pub small : (i : ℕ) → get_or ns i 0 < 1000000

-- what reading a line comes to: its numbers, all 0 where it is malformed, and where it ends
pub record Reading : Type 0 where
  pub line : List ℕ
  pub end : Option Cursor

-- the answer where there is no line
unfoldable pub malformed : Reading
malformed = record { line = replicate field_count 0; end = None }

-- the answer after the last field, of a line with the numbers ns: a line feed has to follow
unfoldable pub end_at : List ℕ → ℕ → List ℕ → Reading
end_at s at ns = cond (eqb (get_or s at 0) 10) (record { line = ns; end = Some (record { at = at + 1 }) }) malformed

abbrev pub and_then : Option (ℕ × Cursor) → (ℕ → Cursor → Reading) → Reading
and_then (Some (n, c)) k = k n c
and_then None k = malformed

-- "A line is read field by field from the left": k fields more, after the numbers ns
unfoldable pub rest_at : ℕ → List ℕ → ℕ → List ℕ → Reading
rest_at zero s at ns = end_at s at ns
rest_at (suc k) s at ns = and_then (field_at s at) (λ n c. rest_at k s c.at (ns ++ (n ∷ [])))

-- the line at a place of the text
unfoldable pub line_at : List ℕ → ℕ → Reading
line_at s at = rest_at field_count s at []

-- the same, as 01 would say it: the bytes there are a line of numbers below 1,000,000, or they are no such line
abbrev pub LineIs : List ℕ → ℕ → List ℕ → Option Cursor → Type 0
LineIs s at ns (Some c) = Small ns × (take line_length (drop at s) ≡ line_of ns) × (c.at ≡ at + line_length)
LineIs s at ns None = (ms : List ℕ) → Small ms → take line_length (drop at s) ≡ line_of ms → ⊥

-- what is told of it: its numbers and where it ends, or that it is none
abbrev pub told_at : List ℕ → Option Cursor → Option (List ℕ × Cursor)
told_at ns (Some c) = Some (ns, c)
told_at ns None = None

abbrev pub SaysLine : List ℕ → ℕ → Option (List ℕ × Cursor) → Type 0
SaysLine s at (Some (ns, c)) = LineIs s at ns (Some c)
SaysLine s at None = LineIs s at [] None

-- the line at a place is read
pub record LineRead (s : List ℕ) (at : ℕ) (r : Option (List ℕ × Cursor)) : Type 0 where
  pub is : r ≡ told_at (line_at s at).line (line_at s at).end
  pub says : SaysLine s at r
