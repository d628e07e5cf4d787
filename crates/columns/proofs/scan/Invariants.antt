-- Reading the columns from the left. The invariant: n is what the first i columns are worth, and each of them fits after those before it.
-- Assumes nothing.
use Rattle.std.proofs.Common.{◌≡◌, ℕ, ◌+◌, ◌-◌, ◌*◌, ◌≤◌, ◌<◌, true, get_or}
use Rattle.columns.specs.Fields.{worth_of, six}
use Rattle.columns.specs.inner.Scans.{fitting}
use Rattle.columns.proofs.scan.Given as goal

abbrev pub invariant-loop-i : goal.invariant-loop-i
invariant-loop-i l = record {
  small : l.n ≤ 900000 * l.i;
  worth : l.n ≡ worth_of (six l.s l.at) l.i;
  fit : (j : ℕ) → j < l.i → fitting (get_or l.s (l.at + j) 0) (worth_of (six l.s l.at) j) (5 - j) ≡ true;
}
