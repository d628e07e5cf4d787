-- Reading a field: fewer than six bytes spell nothing; else the scan begins behind the front columns where those are spaces.
-- Assumes nothing.
use Rattle.std.proofs.Common.{rules}
use Rattle.columns.proofs.Fields.{short, field_told}
use Rattle.columns.proofs.Cursor.field.Goals as goal

pub returns-then-s-lt-WIDTH : goal.returns-then-s-lt-WIDTH
returns-then-s-lt-WIDTH c = let a = c.args in field_told _ _ (short a.s.now a.self.at (search rules))
