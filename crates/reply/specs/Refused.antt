-- The line of a refusal (01, first paragraph): "the word `refused`, the refusal number in six columns and a line feed".
-- Assumes nothing.
use Rattle.std.specs.Prelude.{ℕ, List, [], ◌∷◌, ◌++◌}
use Rattle.columns.specs.Fields.{columns}

-- the bytes of `refused`
abbrev pub refused_word : List ℕ
refused_word = 114 ∷ 101 ∷ 102 ∷ 117 ∷ 115 ∷ 101 ∷ 100 ∷ []

unfoldable pub refused_line : ℕ → List ℕ
refused_line k = refused_word ++ (columns k ++ (10 ∷ []))
