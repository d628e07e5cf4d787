-- Climbing a parent function until a test passes. Everything that goes upwards in a network under a switching, or in its principal tree, is an
-- instance. A climb is bounded by a rank that falls at each step, so that the definitions compute.
-- Assumes nothing.
use Rattle.std.specs.Prelude.{◌≡◌, ◌≢◌, Bool, cond, ℕ, zero, suc, ◌+◌, ◌<◌}
use Rattle.finite.specs.Tests.{same}

-- from x upwards, at most k steps, until the test passes
unfoldable pub seek_in : ℕ → (ℕ → Bool) → (ℕ → ℕ) → ℕ → ℕ
seek_in zero stop up x = x
seek_in (suc k) stop up x = let r = seek_in k stop up (up x) in cond (stop x) x r

-- from x upwards until the test passes; h x bounds the steps
unfoldable pub seek : (h : ℕ → ℕ) → (ℕ → Bool) → (ℕ → ℕ) → ℕ → ℕ
seek h stop up x = seek_in (h x) stop up x

-- h bounds the climb along up: it falls at each step, and 0 (no node) is above all
pub record Falls (h up : ℕ → ℕ) : Type 0 where
  pub stay : up 0 ≡ 0
  pub fall : (x : ℕ) → x ≢ 0 → h (up x) < h x

-- v is x or above x
unfoldable pub over : (h : ℕ → ℕ) → (ℕ → ℕ) → ℕ → ℕ → Bool
over h up v x = same v (seek h (same v) up x)

-- the first of x and what is above it that is over y
unfoldable pub meet : (h : ℕ → ℕ) → (ℕ → ℕ) → ℕ → ℕ → ℕ
meet h up x y = seek h (λ a. over h up a y) up x

-- the sum of f at each number from a upwards to b, b left out; k bounds the steps
unfoldable pub along_in : ℕ → (ℕ → ℕ) → (ℕ → ℕ) → ℕ → ℕ → ℕ
along_in zero up f b a = 0
along_in (suc k) up f b a = let r = f a + along_in k up f b (up a) in cond (same a b) 0 r

unfoldable pub along : (h : ℕ → ℕ) → (ℕ → ℕ) → (ℕ → ℕ) → ℕ → ℕ → ℕ
along h up f b a = along_in (h a) up f b a
