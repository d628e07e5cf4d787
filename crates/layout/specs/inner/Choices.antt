-- The table of the settings of the components, by top: the setting that is tried, and the best so far (01, "Settings and placement": "the best setting so
-- far of each component").
-- Assumes nothing.
use Rattle.std.specs.Prelude.{ℕ}
use Rattle.finite.specs.Tables.{at, zeros}
use Rattle.layout.specs.declared.choices.Choices.{Choices}

abbrev pub setting : Choices → ℕ → ℕ
setting t = at t.setting

abbrev pub best : Choices → ℕ → ℕ
best t = at t.best

-- no setting tried
abbrev pub blank : Choices
blank = record { setting = zeros; best = zeros }
