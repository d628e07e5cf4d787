-- Writing into what is lent: a piece stands at the front or at a place of it, and every other element is as it was.
-- Assumes nothing.
use Rattle.std.specs.Prelude.{ℕ, List, ◌++◌, length, take, drop}

-- bs at the front of d, every other byte as it was
unfoldable pub written : List ℕ → List ℕ → List ℕ
written d bs = bs ++ drop (length bs) d

-- bs at the place `at` of d, every other byte as it was
unfoldable pub put : List ℕ → ℕ → List ℕ → List ℕ
put d at bs = take at d ++ written (drop at d) bs
