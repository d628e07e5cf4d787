-- The numbers of the refusals (01, "Refusals, by who can cause them"): "A refusal returns its number". In which order they are checked, a call's list says.
-- Assumes nothing.
use Rattle.std.specs.Prelude.{ℕ, Result, Ok, Err}
use Rattle.refusals.specs.declared.Refusal.{Refusal}
use Rattle.refusals.specs.declared.Refusal.TheVariants.{ShortScratch, ShortResult, NoHeader, BeyondLimits, BadLines, BadParents, BadStamps, BadShape, BadSpecies, OnlyReticulations, CrowdedComponent, BadGeneTree, BadGeneSpecies, OutsideGrammar, LargeGeneTree}

-- the paper's number for each case
abbrev pub number : Refusal → ℕ
number ShortScratch = 1
number ShortResult = 2
number NoHeader = 3
number BeyondLimits = 4
number BadLines = 5
number BadParents = 6
number BadStamps = 7
number BadShape = 8
number BadSpecies = 9
number OnlyReticulations = 10
number CrowdedComponent = 11
number BadGeneTree = 12
number BadGeneSpecies = 13
-- 02, (i): "14 when a text of at most 574 bytes is outside the grammar and 15 when the text is longer or has more than 127 genes"
number OutsideGrammar = 14
number LargeGeneTree = 15

-- the number that a check comes to: that of its refusal, 0 where it refuses nothing
abbrev pub refused : {A : Type 0} → Result A Refusal → ℕ
refused (Ok a) = 0
refused (Err r) = number r
