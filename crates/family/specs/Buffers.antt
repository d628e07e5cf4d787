-- The buffers that refusals 1 and 2 ask for: the words of the table of 127 genes and nodes, and the bytes of the longest report.
-- Assumes nothing.
use Rattle.std.specs.Prelude.{ℕ}

abbrev pub least_words : ℕ
least_words = 16129

abbrev pub least_bytes : ℕ
least_bytes = 5952
