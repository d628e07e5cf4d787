-- What a gene pays on one on arc, by the arc's lower end: the transfer by which it comes down, and the loss where it passes the arc's upper end.
-- Assumes nothing.
use Rattle.std.specs.Prelude.{ℕ}
use Rattle.finite.specs.Tests.{tally}
use Rattle.displayed.specs.Displayed.{Displayed}

abbrev pub move : Displayed → ℕ → ℕ
move T c = tally (T.lateral c)

abbrev pub mark : Displayed → ℕ → ℕ
mark T c = tally (T.forks (T.up c))
