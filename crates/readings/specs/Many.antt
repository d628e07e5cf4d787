-- How many nodes are as a statement says, by a test that tells it.
-- Assumes nothing.
use Rattle.std.specs.Prelude.{◌≡◌, ◌↔◌, Bool, true, ℕ}
use Rattle.finite.specs.Range.{count}
use Rattle.topology.specs.Networks.{Network, Node}

-- k of the nodes are as P says
pub record Many (N : Network) (P : ℕ → Type 0) (k : ℕ) : Type 0 where
  pub test : ℕ → Bool
  pub told : (v : ℕ) → Node N v → (test v ≡ true) ↔ P v
  pub number : k ≡ count N.size test
