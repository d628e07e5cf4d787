-- The curators' checks one after the other: each way out has its outcome by those before it (crate score, proofs/Outcomes). A network that passes 6 to 10 is
-- sound, so it has components.
-- Assumes nothing.
use Rattle.family.specs.Reports.{report_in}
use Rattle.score.proofs.Outcomes.{sound_in, by_network, by_components, by_genes, by_none}
use Rattle.score.proofs.score_lines.Goals as goal

pub returns-in_err-verdict : goal.returns-in_err-verdict
returns-in_err-verdict c = by_network report_in c.args.lines.now _ _ _ _ c.from_residual.ensures.1 c.in_err-verdict.ensures

pub invariant_of-part_into : goal.invariant_of-part_into
invariant_of-part_into c = record { sound = sound_in _ _ c.in_ok-verdict.ensures }

pub returns-in_err-verdict-2 : goal.returns-in_err-verdict-2
returns-in_err-verdict-2 c = by_components report_in c.args.lines.now _ _ c.in_ok-verdict.ensures _ _ c.from_residual-in_err-verdict-2.ensures.1 c.in_err-verdict-2.ensures

pub returns-in_err-verdict-3 : goal.returns-in_err-verdict-3
returns-in_err-verdict-3 c = by_genes report_in c.args.lines.now _ _ c.in_ok-verdict.ensures c.in_ok-verdict-2.ensures _ _ c.from_residual-in_err-verdict-3.ensures.1 c.in_err-verdict-3.ensures

pub returns : goal.returns
returns c = by_none report_in c.args.lines.now _ _ c.in_ok-verdict.ensures c.in_ok-verdict-2.ensures c.in_ok-verdict-3.ensures _ _ _ c.write.ensures
