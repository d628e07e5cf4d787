-- The costs of the header line (01, "The sheet").
-- Assumes nothing.
use Rattle.std.specs.Prelude.{ℕ}

-- the costs of a duplication (D), a transfer (T) and a loss (L)
pub record Costs : Type 0 where
  pub duplication : ℕ
  pub transfer : ℕ
  pub loss : ℕ
