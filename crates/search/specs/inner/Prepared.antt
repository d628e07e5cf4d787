-- What is lent to the search: a network and a gene tree that passed the refusals, with all that does not depend on the switching worked out once, and the
-- tables that it works in.
-- Assumes nothing.
use Rattle.std.specs.Prelude.{◌≡◌, List, ℕ, ◌≤◌}
use Rattle.layout.specs.Lines.{network_of}
use Rattle.layout.specs.inner.Tree.{Held}
use Rattle.layout.specs.inner.Genes.{gene_tree}
use Rattle.layout.specs.inner.Results as R
use Rattle.layout.specs.Headers.{costs, WithinLimits}
use Rattle.layout.specs.declared.lines.Lines.{Lines}
use Rattle.layout.specs.declared.tree.Tree.{Tree}
use Rattle.layout.specs.declared.genes.Genes.{Genes}
use Rattle.layout.specs.declared.results.Placed.{Placed}
use Rattle.topology.specs.Networks.{Network}
use Rattle.topology.specs.Switchings.{Switching}
use Rattle.topology.specs.Components.{reticulation_count}
use Rattle.reconciliation.specs.GeneTrees.{GeneTree, Rooted, Seated}
use Rattle.reconciliation.specs.Costs.{Costs}
use Rattle.displayed.specs.Model.{place, event, transfers, losses, duplication_count, transfer_count, loss_count, lca_cost}
use Rattle.optimum.specs.Optimum.{assembled}
use Rattle.switching.specs.inner.Turning.{SomeHeld}
use Rattle.mapping.specs.inner.Evaluation.{Lent}
use Rattle.mapping.specs.declared.Score.{Score}

-- what holds of them beside what the type of a network with its parts says
pub record Prepared (lines : Lines) (genes : Genes) : Type 0 where
  pub limits : WithinLimits lines.header
  pub few : (c : ℕ) → reticulation_count (network_of lines) c ≤ 8
  pub rooted : Rooted (gene_tree lines.header.genes genes)
  pub seated : Seated (network_of lines) (gene_tree lines.header.genes genes)

-- the tree of some switching, and a table of results to write in
pub record Working (lines : Lines) (genes : Genes) (t : Tree) (r : List Placed) : Type 0 where
  pub held : SomeHeld (network_of lines) t
  pub lent : Lent (gene_tree lines.header.genes genes) r

-- the counts and the cost of a switching (01, "Settings and placement")
unfoldable pub score_under : Network → GeneTree → Costs → Switching → Score
score_under N G C σ = record {
  duplications = duplication_count N G σ;
  transfers = transfer_count N G σ;
  losses = loss_count N G σ;
  cost = lca_cost N G C σ;
}

-- the table of results holds every gene under switching σ
pub record Reconciled (N : Network) (G : GeneTree) (σ : Switching) (r : List Placed) : Type 0 where
  pub places : (g : ℕ) → 1 ≤ g → g ≤ G.count → R.place r g ≡ place N G σ g
  pub events : (g : ℕ) → 1 ≤ g → g ≤ G.count → R.event r g ≡ event N G σ g
  pub ways : (g : ℕ) → 1 ≤ g → g ≤ G.count → R.transfers r g ≡ transfers N G σ g
  pub lost : (g : ℕ) → 1 ≤ g → g ≤ G.count → R.losses r g ≡ losses N G σ g

-- the tree and the genes of the switching that has the setting f c at each component c, and its score
pub record Assembled (lines : Lines) (genes : Genes) (f : ℕ → ℕ) (t : Tree) (r : List Placed) (s : Score) : Type 0 where
  pub held : Held (network_of lines) (assembled (network_of lines) f) t
  pub lent : Lent (gene_tree lines.header.genes genes) r
  pub mapped : Reconciled (network_of lines) (gene_tree lines.header.genes genes) (assembled (network_of lines) f) r
  pub score : s ≡ score_under (network_of lines) (gene_tree lines.header.genes genes) (costs lines.header) (assembled (network_of lines) f)
