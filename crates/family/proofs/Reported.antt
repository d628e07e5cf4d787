-- What the report of a family says beyond its bytes holds of every family that is admitted: the theorems on the optimum, on the search and on histories
-- speak of it.
-- Assumes nothing.
use Rattle.std.proofs.Common.{ℕ, ◌≤◌, ◌≡◌, sym, not, List, ◌++◌, length, get_or, arith}
use Rattle.finite.specs.Tests.{same}
use Rattle.finite.proofs.Tests.{tally_le}
use Rattle.finite.proofs.Count.{count_le}
use Rattle.topology.specs.Networks.{Network, Node, is_reticulation, reticulations}
use Rattle.topology.specs.Switchings.{on_secondary}
use Rattle.topology.specs.Components.{component, reticulation_count, component_count}
use Rattle.topology.specs.Lines.{NodeLines, GeneLines, network}
use Rattle.topology.proofs.Components.{component_node}
use Rattle.reconciliation.specs.GeneTrees.{GeneTree}
use Rattle.reconciliation.specs.Costs.{Costs}
use Rattle.displayed.specs.Model.{lca_cost}
use Rattle.gene_tree.specs.Genes.{gene_tree_of}
use Rattle.gene_tree.proofs.Genes.{count_at}
use Rattle.optimum.specs.Optimum.{chosen}
use Rattle.optimum.proofs.Search.{search_state, search_stops, search_agree}
use Rattle.histories.specs.Histories.{Least}
use Rattle.histories.specs.Words.{cost_of, cell, words}
use Rattle.histories.specs.Families.{family_of}
use Rattle.histories.proofs.Promise.{overall_least, each_word, overall_small}
use Rattle.histories.proofs.Describes.{describes}
use Rattle.readings.proofs.Mapped.{mapped, added}
use Rattle.readings.proofs.Pieces.{pieces, trials_summed, with_any}
use Rattle.report.specs.Reports.{SmallTotals, report_length}
use Rattle.report.proofs.Writing.{length_report}
use Rattle.acceptance.specs.inner.Admitted.{Admitted}
use Rattle.acceptance.proofs.Mapped.{sound, rooted, seated, optimal, component_few, cost_small, duplications_small, transfers_small, losses_small, trials_small, reticulations_small, parent_small, place_small, event_few, gene_transfers_small, gene_losses_small}
use Rattle.acceptance.proofs.Genes.{genes_of_lem}
use Rattle.acceptance.proofs.Whole.{whole_accepted}
use Rattle.family.specs.Buffers.{least_bytes}
use Rattle.family.specs.Families.{Contents, network_in, gene_tree_in, family_in, reported}
use Rattle.family.specs.Reports.{totals_in, report_in, SixColumns, Reported}

module _ (X : Contents) (admitted : Admitted X.nodes X.genes X.costs) where
  each_least : (g v : ℕ) → 1 ≤ g → g ≤ X.genes.count → 1 ≤ v → v ≤ X.nodes.size → (rest : List ℕ) → Least (family_in X) g v (cost_of (get_or (words (family_in X) ++ rest) (cell X.nodes.size g v) 0))
  unfolding family_in family_of
  each_least g v lg ug lv uv rest =
      each_word X.nodes X.genes (gene_tree_of X.nodes X.genes) X.costs (whole_accepted X.nodes X.genes X.costs admitted) g v lg (omega (arith, count_at X.nodes X.genes)) lv uv rest

  abbrev L : NodeLines
  L = X.nodes

  abbrev K : GeneLines
  K = X.genes

  abbrev C : Costs
  C = X.costs

  abbrev N : Network
  N = network L

  abbrev G : GeneTree
  G = gene_tree_of L K

  -- no number is cut: each is bounded by the limits of the header (crate acceptance)
  totals_small : SmallTotals (totals_in X)
  unfolding totals_in network_in gene_tree_in family_in reported reticulations component_count network
  totals_small = record {
    cost = cost_small L K C admitted;
    duplications = duplications_small L K C admitted;
    transfers = transfers_small L K C admitted;
    losses = losses_small L K C admitted;
    trials = trials_small L K C admitted;
    whole = overall_small L K G C (whole_accepted L K C admitted);
    nodes = omega (arith, admitted.limits.few_nodes);
    genes = omega (arith, admitted.limits.few_genes);
    reticulations = omega (arith, admitted.limits.few_nodes, count_le L.size (is_reticulation N));
    components = omega (arith, admitted.limits.few_nodes, count_le L.size (λ c. not (same (reticulation_count N c) 0)));
  }

  node_few : (v : ℕ) → Node N v → v ≤ 127
  unfolding network
  node_few v k = omega (arith, k.high, admitted.limits.few_nodes)

  six_columns : SixColumns X
  unfolding network_in gene_tree_in reported
  six_columns = record {
    totals = totals_small;
    reticulation_lines = λ v k. record {
      one = omega (arith, node_few v k);
      two = omega (arith, parent_small L K C admitted (chosen N G C) v);
      three = omega (arith, tally_le (on_secondary N (chosen N G C) v));
      four = omega (arith, node_few (component N v) (component_node N (sound L K C admitted) v k));
      five = omega (arith, component_few L K C admitted (component N v));
    };
    gene_lines_lem = λ g k. record {
      one = omega (arith, k.high, admitted.limits.few_genes);
      two = omega (arith, place_small L K C admitted (chosen N G C) g k.low k.high);
      three = omega (arith, event_few L K C admitted (chosen N G C) g k.low k.high);
      four = gene_transfers_small L K C admitted (chosen N G C) g k.low k.high;
      five = gene_losses_small L K C admitted (chosen N G C) g k.low k.high;
    };
  }

  pub is_reported : Reported X
  unfolding network_in gene_tree_in family_in reported totals_in
  is_reported = record {
    genes = genes_of_lem L K C admitted;
    mapped = mapped (sound L K C admitted) (rooted L K C admitted) (seated L K C admitted);
    added = added N G C;
    pieces = pieces N (sound L K C admitted);
    tried = trials_summed N (sound L K C admitted);
    with_any = with_any N (sound L K C admitted);
    six_columns = six_columns;
    described = describes L K G C (whole_accepted L K C admitted);
    optimal = optimal X.nodes X.genes X.costs admitted;
    steps = λ t l. search_state (network_in X) (gene_tree_in X) X.costs t (omega arith);
    stops = search_stops (network_in X) (gene_tree_in X) X.costs;
    last = λ r d. sym (search_agree (network_in X) (sound X.nodes X.genes X.costs admitted) (lca_cost (network_in X) (gene_tree_in X) X.costs) r d);
    each = each_least;
    whole = overall_least X.nodes X.genes (gene_tree_in X) X.costs (whole_accepted X.nodes X.genes X.costs admitted);
  }

  -- a report has two lines and one for each gene at least; the least result has room for it
  bytes_are : length (report_in X) ≡ report_length L.size K.count (is_reticulation N)
  unfolding report_in network_in
  bytes_are = length_report _ _ _ _ _ _ _ _ _ _ _ _

  pub report_least : 93 ≤ length (report_in X)
  unfolding report_length
  report_least = omega (arith, admitted.limits.some_gene, bytes_are)

  pub report_most : length (report_in X) ≤ least_bytes
  unfolding report_length
  report_most = omega (arith, bytes_are, reticulations_small L K C admitted, admitted.limits.few_genes)
