-- A report is no refusal, and a refusal is this one where its number is.
-- Assumes nothing.
use Rattle.std.proofs.Common.{refl}
use Rattle.finite.specs.Tests.{same}
use Rattle.reply_newick.proofs.is_outside.Goals as goal

pub returns-in-Ok : goal.returns-in-Ok
unfolding same
returns-in-Ok c = rw c.in-Ok.is refl

pub returns-in-Err : goal.returns-in-Err
unfolding same
returns-in-Err c = rw (c.number.ensures, c.number-in-Err.ensures, c.in-Err.is) refl
