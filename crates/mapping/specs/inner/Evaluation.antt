-- All genes under a switching: what the table of results holds, and the counts of events with their cost (01, "Settings and placement").
-- Assumes nothing.
use Rattle.std.specs.Prelude.{◌≡◌, cond, List, ℕ, ◌+◌, ◌*◌, ◌≤◌, ◌<◌, length, slice_set}
use Rattle.finite.specs.Tests.{same, tally}
use Rattle.finite.specs.Range.{sum}
use Rattle.layout.specs.Events.{number}
use Rattle.layout.specs.inner.Results as R
use Rattle.layout.specs.inner.Genes.{gene_tree}
use Rattle.layout.specs.inner.Genes as L
use Rattle.layout.specs.Headers.{WithinLimits}
use Rattle.layout.specs.declared.Header.{Header}
use Rattle.layout.specs.declared.events.Event.{Event}
use Rattle.layout.specs.declared.results.Placed.{Placed}
use Rattle.layout.specs.declared.tree.Tree.{Tree}
use Rattle.layout.specs.declared.genes.Genes.{Genes}
use Rattle.reconciliation.specs.GeneTrees.{GeneTree, Rooted}
use Rattle.reconciliation.specs.Costs.{Costs}
use Rattle.displayed.specs.Displayed.{Displayed, NodeOf}
use Rattle.displayed.specs.Mapping.{SeatedIn, place, event, transfers, losses, duplication_count, transfer_count, loss_count, lca_cost}
use Rattle.mapping.specs.inner.Climbs.{tree_of, Climbable}
use Rattle.mapping.specs.declared.Steps.{Steps}
use Rattle.mapping.specs.declared.Pair.{Pair}
use Rattle.mapping.specs.declared.Score.{Score}

-- what is lent: a displayed tree, and a gene tree whose leaf genes sit at nodes of it
pub record Family (h : Header) (t : Tree) (g : Genes) : Type 0 where
  pub limits : WithinLimits h
  pub tree : Climbable h.nodes t
  pub rooted : Rooted (gene_tree h.genes g)
  pub seated : SeatedIn (tree_of h.nodes t) (gene_tree h.genes g)

-- a table of results to write in: leaf genes have their place and event, which no switching changes, and a gene without parent has no way
pub record Lent (G : GeneTree) (r : List Placed) : Type 0 where
  pub long : length r ≡ 128
  pub leaf_places : (g : ℕ) → 1 ≤ g → g ≤ G.count → G.left g ≡ 0 → R.place r g ≡ G.leaf g
  pub leaf_events : (g : ℕ) → 1 ≤ g → g ≤ G.count → G.left g ≡ 0 → R.event r g ≡ 0
  pub no_transfers : (g : ℕ) → G.parent g ≡ 0 → R.transfers r g ≡ 0
  pub no_losses : (g : ℕ) → G.parent g ≡ 0 → R.losses r g ≡ 0

-- no gene has a way yet, and of the leaf genes those up to k have their place and event
pub record LeavesUpto (g : Genes) (k : ℕ) (r : List Placed) : Type 0 where
  pub long : length r ≡ 128
  pub places : (j : ℕ) → 1 ≤ j → j ≤ k → L.left g j ≡ 0 → R.place r j ≡ L.leaf g j
  pub events : (j : ℕ) → 1 ≤ j → j ≤ k → L.left g j ≡ 0 → R.event r j ≡ 0
  pub no_transfers : (j : ℕ) → R.transfers r j ≡ 0
  pub no_losses : (j : ℕ) → R.losses r j ≡ 0

-- the children of a gene have their places
pub record Seats (n : ℕ) (t : Tree) (r : List Placed) (a b : ℕ) : Type 0 where
  pub left : NodeOf (tree_of n t) (R.place r a)
  pub right : NodeOf (tree_of n t) (R.place r b)

-- what is written of a gene, of a way, and of an inner gene with its children's ways
unfoldable pub seated_by : List Placed → (k node : ℕ) → Event → List Placed
seated_by r k node event = slice_set r k (record (R.placed r k) { place = node; event = event })

unfoldable pub sent_to : List Placed → ℕ → Steps → List Placed
sent_to r k w = slice_set r k (record (R.placed r k) { transfers = w.transfers; losses = w.losses })

unfoldable pub noted_by : List Placed → (k a b : ℕ) → Pair → List Placed
noted_by r k a b p = sent_to (sent_to (seated_by r k p.node p.event) a p.left) b p.right

-- the counts of a pair: "Its event is 0, 1, 2 or 3" chooses the count that is raised and what is charged at the gene
unfoldable pub raised_by : Header → Score → Pair → Score
raised_by h s p = record {
  duplications = s.duplications + tally (same (number p.event) 2);
  transfers = s.transfers + (p.left.transfers + p.right.transfers);
  losses = s.losses + (p.left.losses + p.right.losses);
  cost = s.cost + h.duplication * tally (same (number p.event) 2);
}

-- counts that a pair can be added to
pub record Room (h : Header) (s : Score) (p : Pair) : Type 0 where
  pub duplication : h.duplication ≤ 99
  pub duplications : s.duplications ≤ 127
  pub transfers : s.transfers + (p.left.transfers + p.right.transfers) ≤ 16129
  pub losses : s.losses + (p.left.losses + p.right.losses) ≤ 16129
  pub cost : s.cost ≤ 99 * 127

-- the counts once all genes are done, and the cost with the transfers' and losses'
pub record Counted (h : Header) (s : Score) : Type 0 where
  pub limits : WithinLimits h
  pub transfers : s.transfers ≤ 16129
  pub losses : s.losses ≤ 16129
  pub cost : s.cost ≤ 99 * 127

unfoldable pub total_of : Header → Score → Score
total_of h s = record {
  duplications = s.duplications;
  transfers = s.transfers;
  losses = s.losses;
  cost = s.cost + (h.transfer * s.transfers + h.loss * s.losses);
}

-- "D × duplications + T × transfers + L × losses over all genes", and the counts
unfoldable pub score_of : Displayed → GeneTree → Costs → Score
score_of T G C = record { duplications = duplication_count T G; transfers = transfer_count T G; losses = loss_count T G; cost = lca_cost T G C }

-- f of both children of gene p, 0 for a leaf gene
unfoldable pub of_children : GeneTree → (ℕ → ℕ) → ℕ → ℕ
of_children G f p = cond (same (G.left p) 0) 0 (f (G.left p) + f (G.right p))

module _ (T : Displayed) (G : GeneTree) where
  -- the genes above k are done: their places and events stand, and their children's ways; s has their counts
  pub record Upto (C : Costs) (k : ℕ) (r : List Placed) (s : Score) : Type 0 where
    pub lent : Lent G r
    pub places : (j : ℕ) → k < j → j ≤ G.count → R.place r j ≡ place T G j
    pub events : (j : ℕ) → k < j → j ≤ G.count → R.event r j ≡ event T G j
    pub ways : (j : ℕ) → k < G.parent j → R.transfers r j ≡ transfers T G j
    pub lost : (j : ℕ) → k < G.parent j → R.losses r j ≡ losses T G j
    pub duplications : s.duplications + sum k (λ g. tally (same (event T G g) 2)) ≡ duplication_count T G
    pub transferred : s.transfers + sum k (of_children G (transfers T G)) ≡ transfer_count T G
    pub given_up : s.losses + sum k (of_children G (losses T G)) ≡ loss_count T G
    pub cost : s.cost ≡ C.duplication * s.duplications

  -- "for each gene: gene, place, event, transfers and losses on the way from its parent gene (0 for gene 1)" (01, "The report")
  pub record Evaluated (r : List Placed) : Type 0 where
    pub lent : Lent G r
    pub places : (g : ℕ) → 1 ≤ g → g ≤ G.count → R.place r g ≡ place T G g
    pub events : (g : ℕ) → 1 ≤ g → g ≤ G.count → R.event r g ≡ event T G g
    pub ways : (g : ℕ) → 1 ≤ g → g ≤ G.count → R.transfers r g ≡ transfers T G g
    pub lost : (g : ℕ) → 1 ≤ g → g ≤ G.count → R.losses r g ≡ losses T G g
