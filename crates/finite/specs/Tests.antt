-- Tests on two numbers, and the count of one test. They are shut: proofs use their laws (proofs/Tests), so that a test stays in sight by its name.
-- Assumes nothing.
use Rattle.std.specs.Prelude.{ℕ, Bool, cond, eqb, ltb}

-- whether two numbers are equal
unfoldable pub same : ℕ → ℕ → Bool
same m n = eqb m n

-- whether m is below n
unfoldable pub under : ℕ → ℕ → Bool
under m n = ltb m n

-- 1 for a test that holds, 0 for one that does not
abbrev pub tally : Bool → ℕ
tally b = cond b 1 0
