-- The lines are read into columns of zeros, after the length that the header tells.
-- Assumes nothing.
use Rattle.std.proofs.Common.{rules, refl}
use Rattle.finite.specs.Tables.{zeros}
use Rattle.sheet.proofs.read_lines.Goals as goal

pub read_into-requires : goal.read_into-requires
unfolding zeros
read_into-requires c = (search rules, refl, refl)
