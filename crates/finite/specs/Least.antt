-- The least index of a least value.
-- Assumes nothing.
use Rattle.std.specs.Prelude.{ℕ, zero, suc, cond}
use Rattle.finite.specs.Tests.{under}

-- the lowest number below k at which f is least; 0 where k is 0
unfoldable pub first_least : (ℕ → ℕ) → ℕ → ℕ
first_least f zero = 0
first_least f (suc k) = let b = first_least f k in cond (under (f k) (f b)) k b
