-- The header and the lines one after the other: what is refused first is the first refusal that applies, since those before it have passed.
-- Assumes nothing.
use Rattle.std.proofs.Common.{sym}
use Rattle.refusals.proofs.Numbers.{handed_on}
use Rattle.score.proofs.Outcomes.{unread, header_is, few_lines, lines_outcome, headed_by, not_headed_by}
use Rattle.score.proofs.read.Goals as goal

pub returns-in_err-header : goal.returns-in_err-header
returns-in_err-header c = rw (handed_on _ _ c.from_residual.ensures.1) (unread _ (sym (not_headed_by _ _ _ _ c.read_header.ensures _ c.in_err-header.was)))

pub read_lines-requires : goal.read_lines-requires
read_lines-requires c = few_lines _ _ _ _ _ (headed_by _ _ _ _ c.read_header.ensures _ c.in_ok-header.was)

pub returns : goal.returns
returns c = let h = headed_by _ _ _ _ c.read_header.ensures _ c.in_ok-header.was in
    lines_outcome _ _ (header_is _ _ h.header) _ _ _ h.room h.space _ c.read_lines.ensures
