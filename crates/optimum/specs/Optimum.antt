-- The switching that the search reports, and what it means that no other is cheaper (01, "Settings and placement", the search). `cost` is the cost of
-- a whole-network switching, any cost; the last-common-ancestor cost is put in below.
-- Assumes nothing.
use Rattle.std.specs.Prelude.{◌≡◌, cond, ℕ, ◌^◌, ◌≤◌}
use Rattle.finite.specs.Tests.{same}
use Rattle.finite.specs.Range.{sum}
use Rattle.finite.specs.Least.{first_least}
use Rattle.topology.specs.Networks.{Network, Node, Reticulation}
use Rattle.topology.specs.Switchings.{Switching, NotAfter}
use Rattle.topology.specs.Components.{component, reticulation_count, setting_of, Agree}
use Rattle.reconciliation.specs.GeneTrees.{GeneTree}
use Rattle.reconciliation.specs.Costs.{Costs}
use Rattle.displayed.specs.Model.{lca_cost}

-- τ costs no more than any switching of the whole network, and where another costs as little, τ comes first in 01's order
pub record Least (N : Network) (cost : Switching → ℕ) (τ : Switching) : Type 0 where
  pub least : (σ : Switching) → cost τ ≤ cost σ
  pub first : (σ : Switching) → cost τ ≡ cost σ → NotAfter (Reticulation N) τ σ

-- a cost is local when it is a sum over the nodes of charges, each depending on the switching of the node's own component alone
pub record Local (N : Network) (cost : Switching → ℕ) (charge : Switching → ℕ → ℕ) : Type 0 where
  pub sums : (σ : Switching) → cost σ ≡ sum N.size (charge σ)
  pub near : (σ τ : Switching) (v : ℕ) → Node N v → Agree N σ τ (component N v) → charge σ v ≡ charge τ v

module _ (N : Network) (cost : Switching → ℕ) where
  -- the cost of setting x of component c "with all other components on principal"
  unfoldable pub trial : ℕ → ℕ → ℕ
  trial c x = cost (setting_of N c x)

  -- the first of c's settings for which it is least
  unfoldable pub best_setting : ℕ → ℕ
  best_setting c = first_least (trial c) (2 ^ reticulation_count N c)

-- the switching that has setting `bests c` at each component c
unfoldable pub assembled : Network → (ℕ → ℕ) → Switching
assembled N bests r = setting_of N (component N r) (bests (component N r)) r

-- how many settings are tried of a component with k reticulations, of component c, and of all components: "the sum of 2^k over components with k at
-- least 1"
unfoldable pub trials_of : (k : ℕ) → ℕ
trials_of k = cond (same k 0) 0 (2 ^ k)

unfoldable pub settings : Network → ℕ → ℕ
settings N c = trials_of (reticulation_count N c)

unfoldable pub trials : Network → ℕ
trials N = sum N.size (settings N)

-- the same for the last-common-ancestor cost
module _ (N : Network) (G : GeneTree) (C : Costs) where
  abbrev pub trial_cost : ℕ → ℕ → ℕ
  trial_cost = trial N (lca_cost N G C)

  abbrev pub best : ℕ → ℕ
  best = best_setting N (lca_cost N G C)

  -- "the bests of its last state are the setting reported"
  abbrev pub chosen : Switching
  chosen = assembled N best

  abbrev pub Optimal : Switching → Type 0
  Optimal = Least N (lca_cost N G C)
