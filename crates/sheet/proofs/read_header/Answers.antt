-- The header: each way out is a case of `header_of`, told by the reader of lines and the test of the limits.
-- Assumes nothing.
use Rattle.std.proofs.Common.{◌≡◌, rules, Err}
use Rattle.refusals.specs.declared.Refusal.TheVariants.{NoHeader}
use Rattle.sheet.proofs.Reading.{no_header, header_beyond, header_within}
use Rattle.sheet.proofs.Refusals.{headed_told}
use Rattle.sheet.proofs.read_header.Goals as goal

pub returns-in_err-line : goal.returns-in_err-line
returns-in_err-line c = let r : c.from_residual.result ≡ Err NoHeader = search rules in rw r (headed_told _ (no_header _ (search rules)))

pub returns-then-not-within_limits : goal.returns-then-not-within_limits
returns-then-not-within_limits c = headed_told _ (header_beyond _ c.in_ok-line.line (search rules) (search rules))

pub returns : goal.returns
returns c = headed_told _ (header_within _ c.in_ok-line.line (search rules) (search rules))
