-- The report of a family that no refusal applies to (01, "The report"), and what it says beyond its bytes.
-- Assumes nothing.
use Rattle.std.specs.Prelude.{◌≡◌, List, ◌++◌, ℕ, ◌+◌, ◌≤◌, ◌<◌, get_or}
use Rattle.finite.specs.Tests.{tally}
use Rattle.topology.specs.Networks.{Node, Reticulation, is_reticulation, reticulations}
use Rattle.topology.specs.Switchings.{Switching, on_secondary, parent}
use Rattle.topology.specs.Lines.{Gene}
use Rattle.topology.specs.Components.{component, reticulation_count, component_count}
use Rattle.displayed.specs.Model.{place, event, transfers, losses, duplication_count, transfer_count, loss_count, lca_cost}
use Rattle.optimum.specs.Optimum.{assembled, trials, Optimal}
use Rattle.optimum.specs.Machine.{search_after, AsScored}
use Rattle.histories.specs.Histories.{Least, LeastOverall, overall}
use Rattle.histories.specs.Families.{Describes}
use Rattle.histories.specs.Words.{word, cost_of, cell, words}
use Rattle.readings.specs.Genes.{GenesOf}
use Rattle.readings.specs.Mapped.{Mapped, Added}
use Rattle.readings.specs.Pieces.{Pieces, SumOfTrials, WithAny}
use Rattle.report.specs.Reports.{SmallFive, SmallTotals, report_of}
use Rattle.report.specs.declared.Totals.{Totals}
use Rattle.family.specs.Families.{Contents, network_in, gene_tree_in, family_in, reported}

module _ (X : Contents) where
  -- the numbers of the report's first two lines
  unfoldable pub totals_in : Totals
  totals_in = record {
    cost = lca_cost (network_in X) (gene_tree_in X) X.costs (reported X);
    duplications = duplication_count (network_in X) (gene_tree_in X) (reported X);
    transfers = transfer_count (network_in X) (gene_tree_in X) (reported X);
    losses = loss_count (network_in X) (gene_tree_in X) (reported X);
    trials = trials (network_in X);
    whole = word (overall (family_in X));
    nodes = X.nodes.size;
    genes = X.genes.count;
    reticulations = reticulations (network_in X);
    components = component_count (network_in X);
  }

  -- the bytes of the report: the setting reported, and each gene under it
  unfoldable pub report_in : List ℕ
  report_in = report_of totals_in X.nodes.size X.genes.count (is_reticulation (network_in X))
      (parent (network_in X) (reported X)) (λ v. tally (on_secondary (network_in X) (reported X) v)) (component (network_in X)) (reticulation_count (network_in X))
      (place (network_in X) (gene_tree_in X) (reported X)) (event (network_in X) (gene_tree_in X) (reported X))
      (transfers (network_in X) (gene_tree_in X) (reported X)) (losses (network_in X) (gene_tree_in X) (reported X))

-- every number of the report has its six columns, so that its line says it in full
pub record SixColumns (X : Contents) : Type 0 where
  pub totals : SmallTotals (totals_in X)
  pub reticulation_lines : (v : ℕ) → Node (network_in X) v
      → SmallFive v (parent (network_in X) (reported X) v) (tally (on_secondary (network_in X) (reported X) v)) (component (network_in X) v) (reticulation_count (network_in X) (component (network_in X) v))
  pub gene_lines_lem : (g : ℕ) → Gene X.genes g
      → SmallFive g (place (network_in X) (gene_tree_in X) (reported X) g) (event (network_in X) (gene_tree_in X) (reported X) g)
      (transfers (network_in X) (gene_tree_in X) (reported X) g) (losses (network_in X) (gene_tree_in X) (reported X) g)

-- what a report says, beyond its bytes
pub record Reported (X : Contents) : Type 0 where
  -- the gene tree is that of the gene lines
  pub genes : GenesOf X.nodes X.genes (gene_tree_in X)
  -- demand 2: under the setting reported, and under every other that it is compared with, the numbers of the genes' lines are the place, event, transfers
  -- and losses that 01 words ("Settings and placement"); the first line's are sums over the genes, and the cost is theirs
  pub mapped : (σ : Switching) → Mapped (network_in X) σ (gene_tree_in X) (place (network_in X) (gene_tree_in X) σ) (event (network_in X) (gene_tree_in X) σ)
      (transfers (network_in X) (gene_tree_in X) σ) (losses (network_in X) (gene_tree_in X) σ)
  pub added : (σ : Switching) → Added (gene_tree_in X) X.costs (event (network_in X) (gene_tree_in X) σ) (transfers (network_in X) (gene_tree_in X) σ) (losses (network_in X) (gene_tree_in X) σ)
      (duplication_count (network_in X) (gene_tree_in X) σ) (transfer_count (network_in X) (gene_tree_in X) σ) (loss_count (network_in X) (gene_tree_in X) σ) (lca_cost (network_in X) (gene_tree_in X) X.costs σ)
  -- the reticulations' lines name the pieces left when all cut arcs are taken away, and the trials and the count of components go over these
  pub pieces : Pieces (network_in X) (component (network_in X)) (reticulation_count (network_in X))
  pub tried : SumOfTrials (network_in X) (totals_in X).trials
  pub with_any : WithAny (network_in X) (totals_in X).components
  pub six_columns : SixColumns X
  -- histories go over the same network and gene tree
  pub described : Describes X.nodes X.genes (gene_tree_in X) X.costs (family_in X)
  -- demand 3: every other setting of the whole network, across all components, costs at least as much, and at equal cost comes after it
  pub optimal : Optimal (network_in X) (gene_tree_in X) X.costs (reported X)
  -- the search: after t steps the machine's state is what 01 says, for every t up to the trials reported
  pub steps : (t : ℕ) → t < 1 + trials (network_in X) → AsScored (network_in X) (gene_tree_in X) X.costs t (search_after (network_in X) (gene_tree_in X) X.costs t)
  -- "With no setting left the search stops": no further step changes its state
  pub stops : (k : ℕ) → search_after (network_in X) (gene_tree_in X) X.costs (trials (network_in X) + k) ≡ search_after (network_in X) (gene_tree_in X) X.costs (trials (network_in X))
  -- "the bests of its last state are the setting reported"
  pub last : (r : ℕ) → Reticulation (network_in X) r → reported X r ≡ assembled (network_in X) (search_after (network_in X) (gene_tree_in X) X.costs (trials (network_in X))).bests r
  -- demand 2: "scratch word (g − 1) × n + (v − 1) holds the least cost for gene g starting at node v, or 4,294,967,295 if no history exists", whatever
  -- follows the table
  pub each : (g v : ℕ) → 1 ≤ g → g ≤ X.genes.count → 1 ≤ v → v ≤ X.nodes.size → (rest : List ℕ) → Least (family_in X) g v (cost_of (get_or (words (family_in X) ++ rest) (cell X.nodes.size g v) 0))
  -- and the whole-network cost is the least over all histories
  pub whole : LeastOverall (family_in X) (word (overall (family_in X)))
