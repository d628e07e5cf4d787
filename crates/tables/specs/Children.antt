-- The children of the numbers 1 to n by their parents: f x is the parent of x.
-- Assumes nothing.
use Rattle.std.specs.Prelude.{Bool, cond, ◌&&◌, List, ℕ, ◌+◌, set}
use Rattle.finite.specs.Tests.{same, under}
use Rattle.finite.specs.Range.{first}
use Rattle.finite.specs.Tables.{at}

-- v is above a and its parent is x
unfoldable pub is_next : (ℕ → ℕ) → ℕ → ℕ → ℕ → Bool
is_next f a x v = under a v && same (f v) x

-- the lowest child of x above a, 0 where there is none
unfoldable pub next : ℕ → (ℕ → ℕ) → ℕ → ℕ → ℕ
next n f a x = first n (is_next f a x)

-- p where it is none above n, else 0; and where w is above what `after` says of p, else 0
unfoldable pub inside : ℕ → ℕ → ℕ
inside n p = cond (under n p) 0 p

unfoldable pub inside_after : ℕ → (after : ℕ → ℕ) → ℕ → ℕ → ℕ
inside_after n after p w = cond (under (after (inside n p)) w) (inside n p) 0

-- the column l with one child more counted at the parent p
unfoldable pub one_more : ℕ → List ℕ → (p : ℕ) → List ℕ
one_more n l p = set l (inside n p) (at l (inside n p) + 1)
