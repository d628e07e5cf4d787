-- The search: "a plain machine whose state is a value" (01, "Settings and placement"). Components go by their tops 1..n;
-- component c has `settings c` settings to be tried (none where it has no reticulation), and setting x of it costs `trial c x`.
-- Assumes nothing.
use Rattle.std.specs.Prelude.{◌≡◌, cond, ℕ, zero, suc, ◌-◌, min, ◌≤◌}
use Rattle.finite.specs.Tests.{same, under}
use Rattle.finite.specs.Range.{sum, first}
use Rattle.finite.specs.Least.{first_least}
use Rattle.topology.specs.Networks.{Network}
use Rattle.reconciliation.specs.GeneTrees.{GeneTree}
use Rattle.reconciliation.specs.Costs.{Costs}
use Rattle.optimum.specs.Optimum.{settings, trial_cost}

-- "the best setting so far of each component .. and the count of trials"
pub record State : Type 0 where
  pub bests : ℕ → ℕ
  pub count : ℕ

-- f with x at c
unfoldable pub put : (ℕ → ℕ) → ℕ → ℕ → ℕ → ℕ
put f c x d = cond (same d c) x (f d)

-- the one with the lesser value, b where they have the same
unfoldable pub lesser : (ℕ → ℕ) → ℕ → ℕ → ℕ
lesser f b x = cond (under (f x) (f b)) x b

-- "all principal at the start, and the count of trials, 0 at the start"
unfoldable pub start : State
start = record { bests = λ c. 0; count = 0 }

-- the state after setting x of component c is scored
unfoldable pub scored : (ℕ → ℕ → ℕ) → ℕ → ℕ → State → State
scored trial c x s = record { bests = put s.bests c (lesser (trial c) (s.bests c) x); count = suc s.count }

module _ (n : ℕ) (settings : ℕ → ℕ) where
  -- the next setting after t trials: "components .. by rising top, the settings of each by rising number"; component 0 where no setting is left
  unfoldable pub next_component : ℕ → ℕ
  next_component t = first n (λ c. under t (sum c settings))

  unfoldable pub next_setting : ℕ → ℕ
  next_setting t = t - sum (next_component t - 1) settings

  -- "One step scores the next setting of a single component .. and raises the count by one". "With no setting left the search stops"
  unfoldable pub step : (ℕ → ℕ → ℕ) → State → State
  step trial s = cond (same (next_component s.count) 0) s (scored trial (next_component s.count) (next_setting s.count) s)

  -- the state after t steps
  unfoldable pub after : (ℕ → ℕ → ℕ) → ℕ → State
  after trial zero = start
  after trial (suc t) = step trial (after trial t)

-- how many of component c's settings are among the first t scored
unfoldable pub scored_of : (ℕ → ℕ) → ℕ → ℕ → ℕ
scored_of settings c t = min (settings c) (t - sum (c - 1) settings)

-- the search of a network's components by the last-common-ancestor cost, after t steps
abbrev pub search_after : Network → GeneTree → Costs → ℕ → State
search_after N G C = after N.size (settings N) (trial_cost N G C)

-- "After t steps the count is t, and a component's best is the first, among those of its settings that are among the t scored, for which the
-- last-common-ancestor cost is least with all other components on principal; where none of its settings is among them, it is all principal still"
pub record AsScored (N : Network) (G : GeneTree) (C : Costs) (t : ℕ) (s : State) : Type 0 where
  pub count : s.count ≡ t
  pub bests : (c : ℕ) → 1 ≤ c → c ≤ N.size → s.bests c ≡ first_least (trial_cost N G C c) (scored_of (settings N) c t)

-- the state of these bests, by top, and this count
unfoldable pub state_of : (ℕ → ℕ) → ℕ → State
state_of bests count = record { bests = bests; count = count }
