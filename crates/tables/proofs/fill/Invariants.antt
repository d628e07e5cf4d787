-- `tables::fill` meets its contract. The invariant: the entries below v hold what the closure gives, and the others what they held.
-- Assumes nothing.
use Rattle.std.proofs.Common.{◌≡◌, ℕ, ◌+◌, ◌-◌, ◌≤◌}
use Rattle.finite.specs.Tables.{filled}
use Rattle.tables.proofs.Passes.{Gives}
use Rattle.tables.proofs.fill.Given as goal

abbrev pub invariant-loop-v : goal.invariant-loop-v
invariant-loop-v g l = (l.v ≤ l.n + 1) × ((f : ℕ → ℕ) → Gives (goal.F-post g l.f) l.n f → l.out ≡ filled (l.v - 1) l.initial.out f)
