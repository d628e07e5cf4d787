-- What a scored setting leaves: both branches are the definition's, by whether the setting becomes the best.
-- Assumes nothing.
use Rattle.std.proofs.Common.{◌≡◌, ℕ, ◌+◌, true, false, List, set, Some}
use Rattle.search.specs.inner.Steps.{takes, settled_stage, settled_bests, SettledBy}
use Rattle.search.specs.declared.Stage.{Stage}

module _ (s : Stage) (cost : ℕ) (before : List ℕ) where
  pub settled_taken : takes s.least cost ≡ true
      → SettledBy s cost before (set before (s.done + 1) s.setting) (record { done = s.done; setting = s.setting + 1; least = Some cost; count = s.count + 1 })
  unfolding settled_stage settled_bests
  settled_taken t = record { stage = rw t; bests = rw t }

  pub settled_kept : takes s.least cost ≡ false
      → SettledBy s cost before before (record { done = s.done; setting = s.setting + 1; least = s.least; count = s.count + 1 })
  unfolding settled_stage settled_bests
  settled_kept t = record { stage = rw t; bests = rw t }
