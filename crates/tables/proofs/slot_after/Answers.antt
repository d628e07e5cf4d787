-- `tables::slot_after` meets its contract. Each return is one case of the definition.
-- Assumes nothing.
use Rattle.std.proofs.Common.{refl, arith, rules}
use Rattle.tables.proofs.Nexts.{after_no, after_yes}
use Rattle.tables.proofs.slot_after.Goals as goal

pub returns-then-w-after : goal.returns-then-w-after
returns-then-w-after c = (after_no _ _ _ _ _ _ c.slot-q.ensures.0 refl (omega arith), search rules)

pub returns : goal.returns
returns c = (after_yes _ _ _ _ _ _ c.slot-q.ensures.0 refl (omega arith), search rules)
