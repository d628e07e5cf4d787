-- The search's definitions, of what is lent to it and of the tables that it works in.
-- Assumes nothing.
use Rattle.std.specs.Prelude.{List, ℕ}
use Rattle.layout.specs.Lines.{network_of}
use Rattle.layout.specs.Headers.{costs}
use Rattle.layout.specs.inner.Genes.{gene_tree}
use Rattle.layout.specs.inner.Choices.{best}
use Rattle.layout.specs.declared.tree.Tree.{Tree}
use Rattle.layout.specs.declared.results.Placed.{Placed}
use Rattle.mapping.specs.declared.Score.{Score}
use Rattle.search.specs.inner.Prepared.{Working, Assembled}
use Rattle.search.specs.inner.Steps.{Reached, Awaiting, Last}
use Rattle.search.specs.inner.Searched.{Searched}
use Rattle.search.specs.declared.given.Given.{Given}
use Rattle.search.specs.declared.Work.{Work}
use Rattle.search.specs.declared.Stage.{Stage}
use Rattle.search.specs.declared.Found.{Found}

module _ (g : Given) where
  abbrev pub WorkingIn : Tree → List Placed → Type 0
  WorkingIn = Working g.network.lines.now g.genes.now

  abbrev pub AssembledIn : (ℕ → ℕ) → Tree → List Placed → Score → Type 0
  AssembledIn = Assembled g.network.lines.now g.genes.now

  abbrev pub ReachedIn : Work → Stage → Type 0
  ReachedIn w = Reached (network_of g.network.lines.now) (gene_tree g.network.lines.now.header.genes g.genes.now) (costs g.network.lines.now.header) w.choices

  abbrev pub AwaitingIn : Work → Stage → Type 0
  AwaitingIn w = Awaiting (network_of g.network.lines.now) (gene_tree g.network.lines.now.header.genes g.genes.now) (costs g.network.lines.now.header) w.choices

  abbrev pub LastIn : Work → ℕ → Type 0
  LastIn w = Last (network_of g.network.lines.now) (gene_tree g.network.lines.now.header.genes g.genes.now) (costs g.network.lines.now.header) (best w.choices)

  abbrev pub SearchedIn : Work → Found → Type 0
  SearchedIn w f = Searched g.network.lines.now g.genes.now w.choices w.tree w.results f
