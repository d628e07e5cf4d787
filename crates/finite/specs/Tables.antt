-- Tables: lists whose entry v is about the number v. Entry 0 is about no number.
-- Assumes nothing.
use Rattle.std.specs.Prelude.{ℕ, zero, suc, Bool, false, ◌&&◌, cond, List, get_or, set, replicate}
use Rattle.finite.specs.Tests.{under}

-- what a table holds for a number: 0 past its end
abbrev pub at : List ℕ → ℕ → ℕ
at l v = get_or l v 0

-- what a table of flags holds for a number: false past its end
abbrev pub holds : List Bool → ℕ → Bool
holds l v = get_or l v false

-- a table without entries
unfoldable pub zeros : List ℕ
zeros = replicate 128 0

-- the table l with f 1 .. f k at the places 1 .. k
unfoldable pub filled : ℕ → List ℕ → (ℕ → ℕ) → List ℕ
filled zero l f = l
filled (suc k) l f = set (filled k l f) (suc k) (f (suc k))

-- f at 1..n, 0 at every other number
unfoldable pub within : ℕ → (ℕ → ℕ) → ℕ → ℕ
within n f v = cond (under 0 v && under v (suc n)) (f v) 0
