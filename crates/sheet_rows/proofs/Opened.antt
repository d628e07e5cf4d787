-- Bundles: whoever unfolds one of these unfolds the definitions of a layer, so that the checker computes them.
-- Assumes nothing.
use Rattle.finite.specs.Tests.{same, under}
use Rattle.finite.specs.Range.{sum, count, every, any, first, children}
use Rattle.finite.specs.Least.{first_least}
use Rattle.finite.specs.Tables.{filled}
use Rattle.finite.specs.Refusals.{verdict}
use Rattle.columns.specs.Fields.{numeral_in, numeral, columns, same_bytes, spells, field_at}
use Rattle.text_lines.specs.Lines.{fields_of, line_of, malformed, end_at, rest_at, line_at}
use Rattle.sheet.specs.Sheets.{line_no, is_line, cell, limits, refusal3, refusal4, whole, node_line, gene_line, refusal5}
use Rattle.topology.specs.Climbing.{seek_in, seek, over, meet, along_in, along}
use Rattle.topology.specs.Networks.{is_reticulation, reticulations}
use Rattle.topology.specs.Switchings.{on_secondary, parent, on_arcs, above, lca}
use Rattle.topology.specs.Components.{is_top, component, member_of, reticulation_count, reticulations_after, setting_of}
use Rattle.topology.specs.Lines.{rank_of, network}
use Rattle.network.specs.Refusals.{bad_parents, bad_parents_at, refusal6, bad_stamps, bad_stamps_at, refusal7, after_six, network_refusals}
use Rattle.shapes.specs.Refusals.{reticulation_with, inner_with, leaf_with, shapeless, shapeless_at, refusal8, leaf_at, refusal9, child_with, child_at, reticulation_if_child, only_reticulations_at, refusal10, after_eight, shape_refusals}
use Rattle.components.specs.Refusals.{crowded_at, refusal11, component_refusals}
use Rattle.tables.specs.Children.{is_next, next}
use Rattle.gene_tree.specs.Refusals.{child_count, bad_parent, bad_count, bad_gene_at, refusal12, bearer, bad_species, bad_species_at, refusal13, species_refusals, gene_refusals}
use Rattle.gene_tree.specs.Genes.{left_of, right_of, leaf_of}
use Rattle.displayed.specs.Mapping as T
use Rattle.displayed.specs.Displays.{switched, display, two_arcs, base}
use Rattle.displayed.specs.Model.{place, event, transfers, losses, duplication_count, transfer_count, loss_count, lca_cost}
use Rattle.optimum.specs.Optimum.{trial, best_setting, assembled, trials_of, settings, trials}
use Rattle.report.specs.Reports.{totals_lines, lines_where, report_of}
use Rattle.family.specs.Families.{network_in}
use Rattle.score.specs.Refusals.{buffer_refusals, text_refusals, first_refusals, curator_refusals}

unfoldable pub open_Finite : Unit {0}
unfolding same under sum count every any first children first_least filled verdict
open_Finite = tt

unfoldable pub open_Sheet : Unit {0}
unfolding numeral_in numeral columns same_bytes spells field_at fields_of line_of malformed end_at rest_at line_at line_no is_line cell limits refusal3 refusal4 whole node_line gene_line refusal5
open_Sheet = tt

unfoldable pub open_Topology : Unit {0}
unfolding seek_in seek over meet along_in along is_reticulation reticulations on_secondary parent on_arcs above lca is_top component member_of reticulation_count reticulations_after setting_of rank_of network
open_Topology = tt

unfoldable pub open_Curators : Unit {0}
unfolding bad_parents bad_parents_at refusal6 bad_stamps bad_stamps_at refusal7 after_six network_refusals reticulation_with inner_with leaf_with shapeless shapeless_at refusal8 leaf_at refusal9 child_with child_at reticulation_if_child only_reticulations_at refusal10 after_eight shape_refusals crowded_at refusal11 component_refusals is_next next child_count bad_parent bad_count bad_gene_at refusal12 bearer bad_species bad_species_at refusal13 species_refusals gene_refusals
open_Curators = tt

unfoldable pub open_Mapping : Unit {0}
unfolding left_of right_of leaf_of T.place_in T.place T.sends T.sits T.duplicates_at T.is_duplication T.event T.on_the_way T.transfers T.lost T.losses T.duplication_count T.transfer_count T.loss_count T.lca_cost switched display two_arcs base place event transfers losses duplication_count transfer_count loss_count lca_cost trial best_setting assembled settings trials_of trials
open_Mapping = tt

unfoldable pub open_Score : Unit {0}
unfolding totals_lines lines_where report_of network_in buffer_refusals text_refusals first_refusals curator_refusals
open_Score = tt
