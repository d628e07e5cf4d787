-- What reading finds at a place of a text, by computation. The byte past the text's end counts as 0, which no tree has.
-- Assumes nothing.
use Rattle.std.specs.Prelude.{ℕ, zero, suc, ◌+◌, ◌-◌, ◌*◌, Bool, cond, ◌&&◌, List, length, get_or, Option, Some, None, Result, Ok, Err}
use Rattle.finite.specs.Tests.{same, under}
use Rattle.topology.specs.Lines.{GeneLines}
use Rattle.newick.specs.Trees.{Tree, leaf, pair, genes, gene_lines_of}
use Rattle.newick.specs.declared.Numeral.{Numeral}
use Rattle.refusals.specs.declared.Refusal.{Refusal}
use Rattle.refusals.specs.declared.Refusal.TheVariants.{OutsideGrammar, LargeGeneTree}

abbrev pub byte_at : List ℕ → ℕ → ℕ
byte_at text at = get_or text at 0

-- whether a byte is one of the digits from `from` to 9
unfoldable pub digit_from : ℕ → ℕ → Bool
digit_from from b = under b 58 && under from (suc b)

-- a species number, and the place after it
abbrev pub number : (species next : ℕ) → Numeral
number s next = record { species = s; next = next }

-- a number whose first digits make n, with up to k more from a place on
unfoldable pub more_at : List ℕ → ℕ → ℕ → ℕ → Numeral
more_at text zero n at = number n at
more_at text (suc k) n at =
    let r = more_at text k (n * 10 + (byte_at text at - 48)) (suc at) in
    cond (digit_from 48 (byte_at text at)) r (number n at)

-- a number of one to six digits, the first not 0
unfoldable pub leaf_at : List ℕ → ℕ → Option Numeral
leaf_at text at = cond (digit_from 49 (byte_at text at)) (Some (more_at text 5 (byte_at text at - 48) (suc at))) None

-- a tree, and the place after it
pub record Found : Type 0 where
  pub tree : Tree
  pub next : ℕ

abbrev pub found : (tree : Tree) (next : ℕ) → Found
found t next = record { tree = t; next = next }

unfoldable pub leaf_of : Option Numeral → Option Found
leaf_of None = None
leaf_of (Some n) = Some (found (leaf n.species) n.next)

-- the bracket that closes the pair of l and what was found after the comma
unfoldable pub closed : List ℕ → Tree → Option Found → Option Found
closed text l None = None
closed text l (Some r) = cond (same (byte_at text r.next) 41) (Some (found (pair l r.tree) (suc r.next))) None

-- the comma after what was found first in the bracket, and the rest
unfoldable pub paired : List ℕ → (ℕ → Option Found) → Option Found → Option Found
paired text read None = None
paired text read (Some l) = cond (same (byte_at text l.next) 44) (closed text l.tree (read (suc l.next))) None

-- the tree at a place, with brackets less than k deep
unfoldable pub tree_in : List ℕ → ℕ → ℕ → Option Found
tree_in text zero at = None
tree_in text (suc k) at =
    cond (same (byte_at text at) 40) (paired text (λ p. tree_in text k p) (tree_in text k (suc at))) (leaf_of (leaf_at text at))

-- the tree at a place: brackets are no deeper than the text left is long
unfoldable pub tree_at : List ℕ → ℕ → Option Found
tree_at text at = tree_in text (suc (length text - at)) at

-- the pair at a place after its bracket
unfoldable pub pair_at : List ℕ → ℕ → Option Found
pair_at text at = paired text (λ p. tree_at text p) (tree_at text at)

-- the answer to a text that begins with what was found
unfoldable pub answer_to : List ℕ → Option Found → Result ℕ Refusal
answer_to text None = Err OutsideGrammar
answer_to text (Some f) =
    cond (same (byte_at text f.next) 59 && same (suc f.next) (length text)) (cond (under 127 (genes f.tree)) (Err LargeGeneTree) (Ok (genes f.tree))) (Err OutsideGrammar)

-- the answer to a text
unfoldable pub answer_of : List ℕ → Result ℕ Refusal
answer_of text = cond (under 574 (length text)) (Err LargeGeneTree) (answer_to text (tree_at text 0))

-- the gene lines of the tree that was found; none where none was
unfoldable pub lines_found : Option Found → GeneLines
lines_found None = record { count = 0; parent = λ g. 0; species = λ g. 0 }
lines_found (Some f) = gene_lines_of f.tree

-- those of the tree that a text begins with
unfoldable pub lines_read : List ℕ → GeneLines
lines_read text = lines_found (tree_at text 0)
