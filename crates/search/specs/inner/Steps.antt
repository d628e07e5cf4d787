-- One step of the search, and where the search stands between two steps. The table of choices and the stage hold the state of crate optimum's machine, and
-- beside it what the best of the component being scored costs, so that a step evaluates one setting only.
-- Assumes nothing.
use Rattle.std.specs.Prelude.{◌≡◌, ◌≢◌, Bool, true, cond, List, ℕ, ◌+◌, ◌≤◌, ◌<◌, set, Option, Some, None}
use Rattle.finite.specs.Tests.{same, under}
use Rattle.finite.specs.Range.{sum}
use Rattle.layout.specs.inner.Choices.{setting, best}
use Rattle.layout.specs.declared.choices.Choices.{Choices}
use Rattle.topology.specs.Networks.{Network}
use Rattle.reconciliation.specs.GeneTrees.{GeneTree}
use Rattle.reconciliation.specs.Costs.{Costs}
use Rattle.optimum.specs.Optimum.{settings, trials, trial_cost}
use Rattle.optimum.specs.Machine.{state_of, search_after}
use Rattle.search.specs.declared.Stage.{Stage}

-- a setting becomes the best: it is the component's first, or it costs less than the least so far
unfoldable pub takes : (least : Option ℕ) (cost : ℕ) → Bool
takes None _ = true
takes (Some so_far) cost = under cost so_far

-- the stage of a step: of a component's first setting nothing is cached, whatever the stage has there
unfoldable pub fresh : Stage → Stage
fresh s = record { done = s.done; setting = s.setting; least = cond (same s.setting 0) None s.least; count = s.count }

-- numbers that a step can raise
pub record Settling (s : Stage) : Type 0 where
  pub done : s.done < 127
  pub setting : s.setting ≤ 100000
  pub count : s.count ≤ 100000

-- the stage and the bests once the next setting was found to cost this
unfoldable pub settled_stage : Stage → ℕ → Stage
settled_stage s cost = record { done = s.done; setting = s.setting + 1; least = cond (takes s.least cost) (Some cost) s.least; count = s.count + 1 }

unfoldable pub settled_bests : Stage → ℕ → List ℕ → List ℕ
settled_bests s cost bests = cond (takes s.least cost) (set bests (s.done + 1) s.setting) bests

pub record SettledBy (s : Stage) (cost : ℕ) (before after : List ℕ) (r : Stage) : Type 0 where
  pub stage : r ≡ settled_stage s cost
  pub bests : after ≡ settled_bests s cost before

-- and the stage and the settings tried once all of the next component are scored
pub record Finished (s : Stage) (before after : List ℕ) (r : Stage) : Type 0 where
  pub stage : r ≡ record { done = s.done + 1; setting = 0; least = None; count = s.count }
  pub settings : after ≡ set before (s.done + 1) 0

module _ (N : Network) (G : GeneTree) (C : Costs) where
  -- the settings of the components up to `done` are scored, and those below `setting` of the next one: the state is 01's after so many steps. Only the
  -- component being scored may have a setting other than 0
  pub record Reached (choices : Choices) (s : Stage) : Type 0 where
    pub state : state_of (best choices) s.count ≡ search_after N G C (sum s.done (settings N) + s.setting)
    pub cached : s.least ≡ cond (same s.setting 0) None (Some (trial_cost N G C (s.done + 1) (best choices (s.done + 1))))
    pub clear : (c : ℕ) → c ≢ s.done + 1 → setting choices c ≡ 0

  -- and a setting of the next component is left
  pub record Awaiting (choices : Choices) (s : Stage) : Type 0 where
    pub reached : Reached choices s
    pub inside : s.done < N.size
    pub left : s.setting < settings N (s.done + 1)

  -- the last state: "With no setting left the search stops"
  abbrev pub Last : (bests : ℕ → ℕ) (count : ℕ) → Type 0
  Last bests count = state_of bests count ≡ search_after N G C (trials N)
