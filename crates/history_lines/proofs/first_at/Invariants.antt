-- The words are tested from the first on. The invariant: none of those passed is the one sought.
-- Assumes nothing.
use Rattle.std.proofs.Common.{◌≡◌, ◌≤◌, ◌<◌, ◌+◌, ◌-◌, ℕ, false, get_or}
use Rattle.finite.specs.Tests.{same}
use Rattle.history_lines.proofs.first_at.Given as goal

abbrev pub invariant-loop-v : goal.invariant-loop-v
invariant-loop-v l = (l.v ≤ l.n + 1) × ((w : ℕ) → 1 ≤ w → w < l.v → same (get_or l.words (w - 1) 0) l.word ≡ false)
