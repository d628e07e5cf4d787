-- Sums, counts and tests over the numbers 1 to n.
-- Assumes nothing.
use Rattle.std.specs.Prelude.{ℕ, zero, suc, ◌+◌, Bool, true, false, cond}
use Rattle.finite.specs.Tests.{same, tally}

-- f 1 + .. + f n
unfoldable pub sum : ℕ → (ℕ → ℕ) → ℕ
sum zero f = 0
sum (suc k) f = sum k f + f (suc k)

-- how many of 1..n pass the test
unfoldable pub count : ℕ → (ℕ → Bool) → ℕ
count n f = sum n (λ v. tally (f v))

-- each of 1..n passes the test
unfoldable pub every : ℕ → (ℕ → Bool) → Bool
every zero f = true
every (suc k) f = let r = every k f in cond (f (suc k)) r false

-- one of 1..n passes the test
unfoldable pub any : ℕ → (ℕ → Bool) → Bool
any zero f = false
any (suc k) f = let r = any k f in cond (f (suc k)) true r

-- the lowest of 1..n that passes the test, 0 where none does
unfoldable pub first : ℕ → (ℕ → Bool) → ℕ
first zero f = 0
first (suc k) f = let r = first k f in cond (same r 0) (cond (f (suc k)) (suc k) 0) r

-- how many of 1..n have the parent v
unfoldable pub children : ℕ → (ℕ → ℕ) → ℕ → ℕ
children n parent v = count n (λ x. same (parent x) v)
