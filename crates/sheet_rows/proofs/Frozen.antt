-- What a sheet says, its gene tree and the reported switching as lists: a function is computed anew at each call, and a list once. The lists say the
-- same at every number that is read, so the report is the same.
-- Assumes nothing.
use Rattle.std.proofs.Common.{◌≡◌, refl, sym, ap, ◌∙◌, Bool, true, false, List, ◌++◌, ℕ, suc, ◌+◌, ◌≤◌, arith, replicate}
use lib.ListN.{length-replicate}
use Rattle.finite.specs.Tests.{same, tally}
use Rattle.finite.specs.Tables.{at, filled, within}
use Rattle.finite.specs.Refusals.{verdict}
use Rattle.finite.proofs.Tables.{replicate_at, filled_in, filled_within}
use Rattle.finite.proofs.Cases.{by_eq, by_less}
use Rattle.topology.specs.Networks.{Reticulation, is_reticulation, reticulations}
use Rattle.topology.specs.Switchings.{Switching, on_secondary, parent}
use Rattle.topology.specs.Components.{component, reticulation_count}
use Rattle.topology.specs.Lines.{NodeLines, GeneLines, network}
use Rattle.layout.specs.Headers.{costs}
use Rattle.sheet.specs.Sheets.{header_in, nodes, genes, cell}
use Rattle.network.specs.inner.Accepted.{NoOthers}
use Rattle.reconciliation.specs.GeneTrees.{GeneTree}
use Rattle.reconciliation.proofs.Agreement.{parent_same, secondary_same}
use Rattle.displayed.specs.Model.{place, event, transfers, losses, duplication_count, transfer_count, loss_count, lca_cost}
use Rattle.displayed.proofs.Model.{place_same, event_same, transfers_same, losses_same, duplication_count_same, transfer_count_same, loss_count_same, lca_cost_same}
use Rattle.gene_tree.specs.Genes.{left_of, right_of, leaf_of, gene_tree_of}
use Rattle.optimum.specs.Optimum.{trials, chosen}
use Rattle.histories.specs.Histories.{Family, overall}
use Rattle.histories.specs.Words.{word}
use Rattle.histories.specs.Families.{family_of}
use Rattle.report.specs.Reports.{report_of}
use Rattle.report.specs.declared.Totals.{Totals}
use Rattle.family.specs.Families.{Contents, network_in, gene_tree_in, family_in, reported}
use Rattle.family.specs.Buffers.{least_bytes}
use Rattle.family.specs.Reports.{totals_in, report_in}
use Rattle.topology.specs.Components.{component_count}
use Rattle.score.specs.Contents.{node_lines, gene_lines, contents_of}
use Rattle.score.specs.Refusals.{first_refusals, curator_refusals, refusals_of, refusal}

-- f at 1..n as a list
unfoldable pub listed : ℕ → (ℕ → ℕ) → List ℕ
listed n f = filled n (replicate (suc n) 0) f

listed_is : (n : ℕ) (f : ℕ → ℕ) → at (listed n f) ≡ within n f
unfolding listed
listed_is n f = filled_within n (replicate (suc n) 0) f (omega (arith, length-replicate {A = ℕ} (suc n) 0)) (replicate_at (suc n))

-- the lines of a sheet
unfoldable pub frozen_contents : List ℕ → Contents
frozen_contents s =
    let n = nodes s in
    let m = genes s in
    let principal = listed n (λ v. cell s v 1) in
    let secondary = listed n (λ v. cell s v 2) in
    let stamp = listed n (λ v. cell s v 3) in
    let species = listed n (λ v. cell s v 4) in
    let above = listed m (λ g. cell s (n + g) 1) in
    let borne = listed m (λ g. cell s (n + g) 2) in
    record {
      nodes = record { size = n; principal = at principal; secondary = at secondary; stamp = at stamp; species = at species };
      genes = record { count = m; parent = at above; species = at borne };
      costs = costs (header_in s);
    }

pub contents_frozen : (s : List ℕ) → frozen_contents s ≡ contents_of s
unfolding frozen_contents contents_of node_lines gene_lines
contents_frozen s = rw (
  listed_is (nodes s) (λ v. cell s v 1),
  listed_is (nodes s) (λ v. cell s v 2),
  listed_is (nodes s) (λ v. cell s v 3),
  listed_is (nodes s) (λ v. cell s v 4),
  listed_is (genes s) (λ g. cell s (nodes s + g) 1),
  listed_is (genes s) (λ g. cell s (nodes s + g) 2),
)

-- the refusal of a sheet with these contents
unfoldable pub refusal_with : List ℕ → (bytes words : ℕ) → Contents → ℕ
refusal_with s bytes words X = verdict (first_refusals least_bytes s bytes words ++ curator_refusals X)

pub refusal_is : (s : List ℕ) (bytes words : ℕ) → refusal_with s bytes words (contents_of s) ≡ refusal s bytes words
unfolding refusal_with refusals_of
refusal_is s bytes words = refl

-- the gene tree, and the family of the whole network
unfoldable pub frozen_tree : NodeLines → GeneLines → GeneTree
frozen_tree L K =
    let left = listed K.count (left_of K) in
    let right = listed K.count (right_of K) in
    let leaf = listed K.count (leaf_of L K) in
    let above = listed K.count K.parent in
    record { count = K.count; left = at left; right = at right; leaf = at leaf; parent = at above }

tree_frozen : (L : NodeLines) (K : GeneLines) → frozen_tree L K ≡ gene_tree_of L K
unfolding frozen_tree gene_tree_of
tree_frozen L K = rw (listed_is K.count (left_of K), listed_is K.count (right_of K), listed_is K.count (leaf_of L K), listed_is K.count K.parent)

unfoldable pub frozen_family : Contents → Family
frozen_family X = family_of X.nodes X.genes (frozen_tree X.nodes X.genes) X.costs

pub family_frozen : (X : Contents) → frozen_family X ≡ family_in X
unfolding frozen_family family_in
family_frozen X = ap (λ (G : GeneTree). family_of X.nodes X.genes G X.costs) (tree_frozen X.nodes X.genes)

-- what a switching says at the nodes 1..n as a list, 1 for the secondary arc, and the switching that a list says
unfoldable pub frozen : ℕ → Switching → List ℕ
frozen n σ = listed n (λ r. tally (σ r))

unfoldable pub thawed : List ℕ → Switching
thawed l r = same (at l r) 1

-- the report of a gene tree under a switching
module _ (X : Contents) (G : GeneTree) (σ : Switching) where
  unfoldable pub totals_under : Totals
  totals_under = record {
    cost = lca_cost (network_in X) G X.costs σ;
    duplications = duplication_count (network_in X) G σ;
    transfers = transfer_count (network_in X) G σ;
    losses = loss_count (network_in X) G σ;
    trials = trials (network_in X);
    whole = word (overall (family_of X.nodes X.genes G X.costs));
    nodes = X.nodes.size;
    genes = X.genes.count;
    reticulations = reticulations (network_in X);
    components = component_count (network_in X);
  }

  unfoldable pub report_under : List ℕ
  report_under = report_of totals_under X.nodes.size X.genes.count (is_reticulation (network_in X))
      (parent (network_in X) σ) (λ v. tally (on_secondary (network_in X) σ v)) (component (network_in X)) (reticulation_count (network_in X))
      (place (network_in X) G σ) (event (network_in X) G σ)
      (transfers (network_in X) G σ) (losses (network_in X) G σ)

unfoldable pub report_from : Contents → GeneTree → List ℕ
report_from X G = let l = frozen X.nodes.size (chosen (network_in X) G X.costs) in report_under X G (thawed l)

unfoldable pub frozen_report : Contents → List ℕ
frozen_report X = report_from X (frozen_tree X.nodes X.genes)

one_tally : (b : Bool) → same (tally b) 1 ≡ b
unfolding same
one_tally true = refl
one_tally false = refl

-- a reticulation of the lines is one of their nodes
module _ (X : Contents) (o : NoOthers X.nodes) where
  low : (r : ℕ) → Reticulation (network_in X) r → 1 ≤ r
  unfolding network_in network
  low r d = by_eq r 0 (λ e. absurd (d (ap X.nodes.secondary e ∙ o.zero_secondary))) (λ n. omega (arith, n))

  high : (r : ℕ) → Reticulation (network_in X) r → r ≤ X.nodes.size
  unfolding network_in network
  high r d = by_less X.nodes.size r (λ l. absurd (d (o.out_secondary r l))) (λ l. l)

  agreed : (σ : Switching) (r : ℕ) → Reticulation (network_in X) r → σ r ≡ thawed (frozen X.nodes.size σ) r
  unfolding thawed frozen listed
  agreed σ r d =
      sym (ap (λ k. same k 1) (filled_in X.nodes.size (replicate (suc X.nodes.size) 0) (λ q. tally (σ q)) r (low r d) (high r d) (omega (arith, length-replicate {A = ℕ} (suc X.nodes.size) 0))) ∙ one_tally (σ r))

module _ (X : Contents) (G : GeneTree) (σ τ : Switching) (a : (r : ℕ) → Reticulation (network_in X) r → σ r ≡ τ r) where
  totals_same : totals_under X G σ ≡ totals_under X G τ
  unfolding totals_under
  totals_same = rw (lca_cost_same (network_in X) σ τ a G X.costs, duplication_count_same (network_in X) σ τ a G, transfer_count_same (network_in X) σ τ a G, loss_count_same (network_in X) σ τ a G)

  report_same : report_under X G σ ≡ report_under X G τ
  unfolding report_under
  report_same = rw (totals_same, parent_same (network_in X) σ τ a, secondary_same (network_in X) σ τ a, place_same (network_in X) σ τ a G, event_same (network_in X) σ τ a G, transfers_same (network_in X) σ τ a G, losses_same (network_in X) σ τ a G)

under_reported : (X : Contents) → report_in X ≡ report_under X (gene_tree_in X) (reported X)
unfolding report_in totals_in report_under totals_under family_in gene_tree_in
under_reported X = refl

from_reported : (X : Contents) → NoOthers X.nodes → report_in X ≡ report_from X (gene_tree_in X)
unfolding report_from reported
from_reported X o = under_reported X ∙ report_same X (gene_tree_in X) (reported X) (thawed (frozen X.nodes.size (reported X))) (agreed X o (reported X))

pub report_frozen : (X : Contents) → NoOthers X.nodes → report_in X ≡ frozen_report X
unfolding frozen_report gene_tree_in
report_frozen X o = from_reported X o ∙ ap (report_from X) (sym (tree_frozen X.nodes X.genes))

-- whoever unfolds this unfolds the definitions of this file
unfoldable pub open_Frozen : Unit {0}
unfolding listed frozen_contents refusal_with frozen_tree frozen_family frozen thawed totals_under report_under report_from frozen_report component_count
open_Frozen = tt
