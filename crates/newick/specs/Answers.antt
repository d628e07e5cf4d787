-- What the reader of a text answers and leaves (02, (i)): refusals 14 and 15, and what each case of the answer says.
-- Assumes nothing.
use Rattle.std.specs.Prelude.{ℕ, ◌≤◌, ◌<◌, ◌≡◌, ◌⊎◌, List, [], ◌∷◌, length, Result, Ok, Err}
use Rattle.finite.specs.Tests.{same}
use Rattle.finite.specs.Tables.{at}
use Rattle.finite.specs.Refusals.{Refusal as Check}
use Rattle.refusals.specs.declared.Refusal.{Refusal}
use Rattle.refusals.specs.declared.Refusal.TheVariants.{OutsideGrammar, LargeGeneTree}
use Rattle.refusals.specs.Numbers.{refused}
use Rattle.layout.specs.Lines.{genes_in}
use Rattle.layout.specs.declared.lines.GeneColumns.{GeneColumns}
use Rattle.newick.specs.Trees.{Tree, GeneLine, HasText, OfGrammar, genes, gene_lines_of}
use Rattle.newick.specs.Reading.{answer_of}

-- "the number of genes read": a text that is taken, of m genes
pub record Taken (text : List ℕ) (m : ℕ) : Type 0 where
  pub short : length text ≤ 574
  pub tree : Tree
  pub has_text : HasText text tree
  pub count : genes tree ≡ m
  pub few : m ≤ 127

-- "14 when a text of at most 574 bytes is outside the grammar"
pub record Refusal14 (text : List ℕ) : Type 0 where
  pub short : length text ≤ 574
  pub outside : OfGrammar text → ⊥

-- "15 when the text is longer or has more than 127 genes"
pub data Refusal15 (text : List ℕ) : Type 0 where
  longer : 574 < length text → Refusal15 text
  many : (t : Tree) → HasText text t → 127 < genes t → Refusal15 text

-- the refusals of a text in the order of checking
unfoldable pub tree_refusals : List ℕ → List Check
tree_refusals text =
    record { number = 14; test = same (refused (answer_of text)) 14; condition = Refusal14 text }
    ∷ record { number = 15; test = same (refused (answer_of text)) 15; condition = Refusal15 text } ∷ []

-- a text is refused by one of them
abbrev pub Refused : List ℕ → Refusal → Type 0
Refused text r = ((r ≡ OutsideGrammar) × Refusal14 text) ⊎ ((r ≡ LargeGeneTree) × Refusal15 text)

-- what the columns of the genes have of gene g
abbrev pub line_in : GeneColumns → ℕ → GeneLine
line_in c g = record { parent = at c.parent g; species = at c.species g }

-- the columns c have of every number but the genes 1 to m what b have
pub record Kept (m : ℕ) (b c : GeneColumns) : Type 0 where
  pub others : (g : ℕ) → (g ≡ 0) ⊎ (m < g) → line_in c g ≡ line_in b g

-- what each case of the answer says of the text, and of the columns of the genes before and after the call: the lines of the genes are those of the tree
-- that the text is of, and nothing else is written; after a refusal the entries 1 to 127 are left open, and a text that is longer is not read
abbrev pub Says : (text : List ℕ) (before after : GeneColumns) → Result ℕ Refusal → Type 0
Says text before after (Ok m) = (t : Taken text m) × (genes_in m after ≡ gene_lines_of t.tree) × Kept m before after
Says text before after (Err r) = Refused text r × Kept 127 before after × (574 < length text → after ≡ before)

-- the promise of the reader
pub record Promise (text : List ℕ) (before after : GeneColumns) (answer : Result ℕ Refusal) : Type 0 where
  pub says : Says text before after answer
  -- the answer as an equation that computes
  pub answer_is : answer ≡ answer_of text
