-- What a closure tells of the lines of 1 to n.
-- Assumes nothing.
use Rattle.std.specs.Prelude.{◌≡◌, ℕ, ◌≤◌, Bool, cond, List, [], Option, Some, None, IfSome}
use Rattle.text_lines.specs.Lines.{line_of, Small}

-- the bytes of a line, where there is one
abbrev pub line_bytes : Option (List ℕ) → List ℕ
line_bytes None = []
line_bytes (Some fields) = line_of fields

-- which numbers have a line, and what stands in it
pub record Telling : Type 0 where
  pub test : ℕ → Bool
  pub fields : ℕ → List ℕ

-- what is told of v: its line, each number of which has a field, or none
pub record Told (t : Telling) (v : ℕ) (line : Option (List ℕ)) : Type 0 where
  pub is : line ≡ cond (t.test v) (Some (t.fields v)) None
  pub small : IfSome line Small

-- what comes of the calls at 1 to n is told
abbrev pub Tells : (ℕ → Option (List ℕ) → Type 0) → ℕ → Telling → Type 0
Tells gives n t = (v : ℕ) (line : Option (List ℕ)) → 1 ≤ v → v ≤ n → gives v line → Told t v line
