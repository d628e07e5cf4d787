-- The report: its three parts one after the other, each with the room that the part before left it.
-- Assumes nothing.
use Rattle.std.proofs.Common.{◌∙◌}
use Rattle.report.specs.Reports.{report_of, report_length}
use Rattle.report.proofs.Writing.{totals_room, nodes_room, genes_room, report_bytes, report_end}
use Rattle.report.proofs.write_report.Goals as goal

pub write_totals-next-requires : goal.write_totals-next-requires
write_totals-next-requires c = let p = c.requires in (totals_room _ _ _ _ p.room, p.small)

pub write_reticulations-last-requires : goal.write_reticulations-last-requires
write_reticulations-last-requires c = let p = c.requires in
    let w = c.write_totals-next in
    nodes_room _ _ _ _ _ _ p.room w.ensures.1 w.auto.res

pub write_genes-requires : goal.write_genes-requires
write_genes-requires c = let p = c.requires in
    let w = c.write_totals-next in
    let v = c.write_reticulations-last in
    genes_room _ _ _ _ _ _ _ p.room w.ensures.1 v.ensures.after (v.auto.res ∙ w.auto.res)

pub returns : goal.returns
unfolding report_of report_length
returns c = let w = c.write_totals-next in
    let v = c.write_reticulations-last in
    let u = c.write_genes in
    record { bytes = report_bytes _ _ _ _ _ _ _ _ _ _ _ _ _ w.ensures v.ensures u.ensures; end = report_end _ _ _ _ _ _ _ _ _ _ _ _ _ w.ensures v.ensures u.ensures }
