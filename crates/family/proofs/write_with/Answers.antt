-- The search, the whole network and the report ask what the verdicts and the tables give, and what they leave is the outcome (proofs/Reports).
-- Assumes nothing.
use Rattle.std.proofs.Common.{refl}
use Rattle.finite.specs.Tables.{zeros}
use Rattle.layout.specs.inner.Results.{blank}
use Rattle.family.proofs.Reports.{prepares, filled_from, nodes_small, genes_small, report_room, totals_fit, written_family}
use Rattle.family.proofs.write_with.Goals as goal

pub invariant_of-given : goal.invariant_of-given
invariant_of-given c = let S = c.requires.0 in let P = c.requires.1 in record { prepared = prepares c.args.network _ _ S P _ c.requires.2.tree }

pub run-found-requires : goal.run-found-requires
unfolding zeros blank
run-found-requires c = (refl, refl, refl)

pub invariant_of-tabled : goal.invariant_of-tabled
invariant_of-tabled c = let S = c.requires.0 in let P = c.requires.1 in let E = c.requires.2.tree in
    let T = filled_from _ _ c.requires.2 c.fill-whole.ensures in
    let F = c.run-found.ensures in
    record { small_nodes = nodes_small c.args.network _ _ S P _ E _ _ _ T _ _ _ _ F; small_genes = genes_small c.args.network _ _ S P _ E _ _ _ T _ _ _ _ F }

pub write_report-requires-clause-small : goal.write_report-requires-clause-small
write_report-requires-clause-small c = let S = c.requires.0 in let P = c.requires.1 in let E = c.requires.2.tree in
    let T = filled_from _ _ c.requires.2 c.fill-whole.ensures in
    totals_fit c.args.network _ _ S P _ E _ _ _ T _ _ _ _ c.run-found.ensures _ c.totals-t.ensures

pub write_report-requires-clause-room : goal.write_report-requires-clause-room
write_report-requires-clause-room c = let S = c.requires.0 in let P = c.requires.1 in let E = c.requires.2.tree in
    let T = filled_from _ _ c.requires.2 c.fill-whole.ensures in
    report_room c.args.network _ _ S P _ E _ _ _ T _ _ _ _ c.run-found.ensures

pub returns : goal.returns
returns c = let S = c.requires.0 in let P = c.requires.1 in let E = c.requires.2.tree in
    let T = filled_from _ _ c.requires.2 c.fill-whole.ensures in
    let w = c.write_report.ensures in
    written_family c.args.network _ _ S P _ E _ _ _ T _ _ _ _ c.run-found.ensures _ c.totals-t.ensures _ _ _ w.bytes w.end
