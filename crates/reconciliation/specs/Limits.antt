-- The limits of a sheet (01, "The sheet").
-- Assumes nothing.
use Rattle.std.specs.Prelude.{ℕ, ◌≤◌}
use Rattle.reconciliation.specs.Costs.{Costs}

-- "n and m are 1 to 127, each cost 0 to 99"
pub record Limits (n m : ℕ) (C : Costs) : Type 0 where
  pub some_node : 1 ≤ n
  pub few_nodes : n ≤ 127
  pub some_gene : 1 ≤ m
  pub few_genes : m ≤ 127
  pub duplication : C.duplication ≤ 99
  pub transfer : C.transfer ≤ 99
  pub loss : C.loss ≤ 99
