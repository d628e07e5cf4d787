-- `switching::bit` meets its contract. A mask by 1 is the remainder by 2.
-- Assumes nothing.
use Rattle.std.proofs.Common.{◌-◌, ◌/◌, ◌^◌}
use Rattle.std.proofs.lemmas.Nat.{and_mask}
use Rattle.switching.specs.inner.Settings.{bit_of}
use Rattle.switching.proofs.bit.Goals as goal

pub returns : goal.returns
unfolding bit_of
returns c = let a = c.args in and_mask (a.x / 2 ^ (a.k - 1 - a.j)) 1
