-- A shift by at most 8 places is a power that fits, so nothing is cut off.
-- Assumes nothing.
use Rattle.std.proofs.Common.{◌^◌, ◌≤◌, arith}
use native.Mathlib.Nat.{pow-le-pow_right}
use Rattle.finite.proofs.Tests.{is_same, not_same}
use Rattle.optimum.specs.Optimum.{trials_of}
use Rattle.search.proofs.settings_of.Goals as goal

pub returns-then-k-eq0 : goal.returns-then-k-eq0
unfolding trials_of
returns-then-k-eq0 c = rw (is_same c.if-k-eq0.true)

pub returns-else-k-eq0 : goal.returns-else-k-eq0
unfolding trials_of
returns-else-k-eq0 c = let p : 2 ^ c.args.k ≤ 256 = pow-le-pow_right {n = 2} (omega arith) c.requires in rw (not_same c.if-k-eq0.false) (omega (arith, p))
