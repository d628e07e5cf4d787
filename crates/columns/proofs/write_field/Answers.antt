-- Writing a field: a number below 100 is written in two parts, the spaces of the front columns and the last two; any other column by column.
-- Assumes nothing.
use Rattle.std.proofs.Common.{◌∙◌, rules}
use Rattle.columns.specs.Writing.{written}
use Rattle.columns.proofs.Writing.{field_parts, put_front}
use Rattle.columns.proofs.write_field.Goals as goal

pub returns-then-n-worth : goal.returns-then-n-worth
unfolding written
returns-then-n-worth c = let a = c.args in
    field_parts a.out.now _ _ a.n (search rules) (search rules) c.write_columns.ensures

pub returns-else-n-worth : goal.returns-else-n-worth
returns-else-n-worth c = c.write_columns-else-n-worth.ensures ∙ put_front _ _
