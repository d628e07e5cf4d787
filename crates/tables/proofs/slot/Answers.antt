-- `tables::slot` meets its contract. Each return is one case of the definition.
-- Assumes nothing.
use Rattle.std.proofs.Common.{rules}
use Rattle.tables.proofs.Nexts.{slots}
use Rattle.tables.proofs.slot.Goals as goal

pub returns-then-n-p : goal.returns-then-n-p
returns-then-n-p c = (search (rules, slots), search rules)

pub returns : goal.returns
returns c = (search (rules, slots), search rules)
