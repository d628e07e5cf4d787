-- The result that refusal 2 asks for, which holds the report and the lines of every history (02, (ii)).
-- Assumes nothing.
use Rattle.std.specs.Prelude.{ℕ}

abbrev pub least_bytes : ℕ
least_bytes = 600000
