-- A displayed tree as columns of a table hold it: number v of each column is about node v, and what stands outside 1..n is not read.
-- Assumes nothing.
use Rattle.std.specs.Prelude.{◌≡◌, cond, ℕ, suc, ◌-◌}
use Rattle.finite.specs.Tests.{same, tally}
use Rattle.finite.specs.Tables.{within}
use Rattle.displayed.specs.Displayed.{Displayed, NodeOf}

-- a rank that falls from a number that is no node to 0 too
unfoldable pub rank_in : (ℕ → ℕ) → ℕ → ℕ
rank_in rank v = cond (same v 0) 0 (suc (rank v - 1))

unfoldable pub tree_in : ℕ → (up rank lateral forks : ℕ → ℕ) → Displayed
tree_in n up rank lateral forks = record {
  size = n;
  up = within n up;
  rank = rank_in rank;
  lateral = λ v. same (lateral v) 1;
  forks = λ v. same (forks v) 1;
}

-- the columns hold the displayed tree T
pub record Holds (T : Displayed) (n : ℕ) (up rank lateral forks : ℕ → ℕ) : Type 0 where
  pub size : n ≡ T.size
  pub ups : (v : ℕ) → NodeOf T v → up v ≡ T.up v
  pub ranks : (v : ℕ) → NodeOf T v → rank v ≡ T.rank v
  pub laterals : (v : ℕ) → NodeOf T v → lateral v ≡ tally (T.lateral v)
  pub forked : (v : ℕ) → NodeOf T v → forks v ≡ tally (T.forks v)
