-- What the search promises: 01's last state, and that the switching put together from its bests is the cheapest of all switchings of the whole
-- network, the first of the cheapest in 01's order.
-- Assumes nothing.
use Rattle.std.specs.Prelude.{◌≡◌, List, ℕ, ◌≤◌}
use Rattle.layout.specs.Lines.{network_of}
use Rattle.layout.specs.Headers.{costs}
use Rattle.layout.specs.inner.Genes.{gene_tree}
use Rattle.layout.specs.declared.lines.Lines.{Lines}
use Rattle.layout.specs.declared.genes.Genes.{Genes}
use Rattle.layout.specs.declared.choices.Choices.{Choices}
use Rattle.layout.specs.declared.tree.Tree.{Tree}
use Rattle.layout.specs.declared.results.Placed.{Placed}
use Rattle.layout.specs.inner.Choices.{best}
use Rattle.topology.specs.Switchings.{Switching}
use Rattle.optimum.specs.Optimum.{assembled, trials, Optimal}
use Rattle.optimum.specs.Optimum as O
use Rattle.optimum.specs.Machine.{search_after, AsScored}
use Rattle.search.specs.inner.Prepared.{Assembled}
use Rattle.search.specs.inner.Steps.{Last}
use Rattle.search.specs.declared.Found.{Found}

-- "the bests of its last state are the setting reported"
abbrev pub reported : Lines → Choices → Switching
reported lines choices = assembled (network_of lines) (best choices)

pub record Searched (lines : Lines) (genes : Genes) (choices : Choices) (t : Tree) (r : List Placed) (f : Found) : Type 0 where
  -- "After t steps the count is t, and a component's best is the first, among those of its settings that are among the t scored .."
  pub steps : (k : ℕ) → k ≤ trials (network_of lines)
      → AsScored (network_of lines) (gene_tree lines.header.genes genes) (costs lines.header) k (search_after (network_of lines) (gene_tree lines.header.genes genes) (costs lines.header) k)
  -- "With no setting left the search stops"
  pub last : Last (network_of lines) (gene_tree lines.header.genes genes) (costs lines.header) (best choices) f.trials
  -- "its count the trials reported, the sum of 2^k over components with k at least 1"
  pub count : f.trials ≡ trials (network_of lines)
  pub bests : (c : ℕ) → 1 ≤ c → c ≤ lines.header.nodes → best choices c ≡ O.best (network_of lines) (gene_tree lines.header.genes genes) (costs lines.header) c
  -- "the report's first number is that of the setting reported", with the counts, and every gene under it
  pub assembly : Assembled lines genes (best choices) t r f.score
  -- demand 3: for every switching of the whole network, and with the order at ties
  pub optimal : Optimal (network_of lines) (gene_tree lines.header.genes genes) (costs lines.header) (reported lines choices)
