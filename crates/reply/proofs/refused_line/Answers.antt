-- The six columns replace the spaces and the 0 after the word, and the line feed stays.
-- Assumes nothing.
use Rattle.std.proofs.Common.{arith}
use Rattle.refusals.proofs.Numbers.{few}
use Rattle.reply.proofs.Told.{told}
use Rattle.reply.proofs.refused_line.Goals as goal

pub write_field-requires : goal.write_field-requires
write_field-requires c = (omega arith, omega (arith, few c.args.refusal, c.number.ensures))

pub returns : goal.returns
returns c = rw (← c.number.ensures) (told _ _ c.write_field.ensures)
