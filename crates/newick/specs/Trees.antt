-- Gene trees as Newick text (02, (i)), in the order of its words: the trees, their texts, and the numbers of their genes.
-- Assumes nothing.
use Rattle.std.specs.Prelude.{ℕ, suc, ◌+◌, ◌≤◌, ◌≡◌, List, [], ◌∷◌, ◌++◌, get_or}
use Rattle.columns.specs.Fields.{numeral}
use Rattle.topology.specs.Lines.{GeneLines}

-- "a rooted binary tree": "a tree is a leaf or a bracketed pair of trees, a leaf is a species number"
pub data Tree : Type 0 where
  leaf : ℕ → Tree
  pair : Tree → Tree → Tree

-- "from 1 to 999,999"
unfoldable pub Proper : Tree → Type 0
Proper (leaf s) = (1 ≤ s) × (s ≤ 999999)
Proper (pair l r) = Proper l × Proper r

-- "without leading zeros, a comma parts a pair": the bytes of a tree, where 40 is `(`, 44 `,` and 41 `)`
unfoldable pub spelled : Tree → List ℕ
spelled (leaf s) = numeral s
spelled (pair l r) = 40 ∷ (spelled l ++ (44 ∷ (spelled r ++ (41 ∷ []))))

-- "a semicolon ends the text": 59 is `;`. Nothing else is there: "names, lengths and spaces are not taken"
unfoldable pub text_of : Tree → List ℕ
text_of t = spelled t ++ (59 ∷ [])

-- the tree t has this text
pub record HasText (text : List ℕ) (t : Tree) : Type 0 where
  pub proper : Proper t
  pub text_is : text ≡ text_of t

-- "Text of the grammar": some tree has it
unfoldable pub OfGrammar : List ℕ → Type 0
OfGrammar text = (t : Tree) × HasText text t

-- the number of genes: each leaf and each pair is one
unfoldable pub genes : Tree → ℕ
genes (leaf s) = 1
genes (pair l r) = suc (genes l + genes r)

-- what the line of a gene says of it
pub record GeneLine : Type 0 where
  pub parent : ℕ
  pub species : ℕ

-- "Genes are numbered as met from the left, each pair before its members": the lines of a tree's genes in order, where the first gene has the number own
-- and the parent up; a pair has no species
unfoldable pub lines_from : (own up : ℕ) → Tree → List GeneLine
lines_from own up (leaf s) = record { parent = up; species = s } ∷ []
lines_from own up (pair l r) = record { parent = up; species = 0 } ∷ (lines_from (suc own) own l ++ lines_from (suc own + genes l) own r)

-- no line: 0 is no parent and no species
unfoldable pub no_line : GeneLine
no_line = record { parent = 0; species = 0 }

-- the line of gene g, where gene 1 is the root
unfoldable pub line_at : Tree → ℕ → GeneLine
line_at t g = get_or (no_line ∷ lines_from 1 0 t) g no_line

-- the gene lines of a sheet that would describe the same tree
unfoldable pub gene_lines_of : Tree → GeneLines
gene_lines_of t = record { count = genes t; parent = λ g. (line_at t g).parent; species = λ g. (line_at t g).species }
