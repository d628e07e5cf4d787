-- The first two lines, one after the other.
-- Assumes nothing.
use Rattle.std.proofs.Common.{arith}
use Rattle.report.proofs.Writing.{first_small, second_small, totals_written}
use Rattle.report.proofs.write_totals.Goals as goal

pub append_line-next-requires : goal.append_line-next-requires
append_line-next-requires c = (omega (arith, c.requires.0), first_small _ c.requires.1)

pub append_line-requires : goal.append_line-requires
append_line-requires c = (omega (arith, c.requires.0, c.append_line-next.ensures.1, c.append_line-next.auto.res), second_small _ c.requires.1)

pub returns : goal.returns
returns c = totals_written _ _ _ _ _ c.args.t c.append_line-next.ensures c.append_line.ensures
