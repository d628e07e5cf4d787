-- The sheet and the refusals 3, 4 and 5 (01, "The sheet" and "Refusals", the typist's).
-- Assumes nothing.
use Rattle.std.specs.Prelude.{ℕ, ◌+◌, ◌*◌, ◌≤◌, Bool, true, false, cond, ◌&&◌, not, List, ◌≡◌, ◌⊎◌, length, get_or, take, drop, is_some, Option, Some, None, Result, Ok, Err}
use Rattle.finite.specs.Tests.{same, under}
use Rattle.finite.specs.Range.{every}
use Rattle.finite.specs.Tables.{at, zeros, filled}
use Rattle.text_lines.specs.Lines.{line_length, Reading, line_at, line_of, Small}
use Rattle.refusals.specs.declared.Refusal.{Refusal}
use Rattle.refusals.specs.declared.Refusal.TheVariants.{NoHeader, BeyondLimits, BadLines}
use Rattle.layout.specs.Headers.{WithinLimits}
use Rattle.layout.specs.declared.Header.{Header}
use Rattle.layout.specs.declared.lines.NodeColumns.{NodeColumns}
use Rattle.layout.specs.declared.lines.GeneColumns.{GeneColumns}
use Rattle.layout.specs.declared.lines.Lines.{Lines}

-- line i of the sheet, the header being line 0; a malformed line has five zeros
unfoldable pub line_no : List ℕ → ℕ → Reading
line_no s i = line_at s (line_length * i)

-- line i is well formed
unfoldable pub is_line : List ℕ → ℕ → Bool
is_line s i = is_some (line_no s i).end

-- field k, counted from 0, of line i
unfoldable pub cell : List ℕ → ℕ → ℕ → ℕ
cell s i k = get_or (line_no s i).line k 0

-- "Header: network nodes n, gene nodes m, costs of a duplication (D), a transfer (T) and a loss (L)"
abbrev pub header_by : List ℕ → Header
header_by line = record { nodes = at line 0; genes = at line 1; duplication = at line 2; transfer = at line 3; loss = at line 4 }

abbrev pub header_in : List ℕ → Header
header_in s = header_by (line_no s 0).line

abbrev pub nodes : List ℕ → ℕ
nodes s = (header_in s).nodes

abbrev pub genes : List ℕ → ℕ
genes s = (header_in s).genes

-- "n and m are 1 to 127, each cost 0 to 99"
unfoldable pub limits : List ℕ → Bool
limits h = under 0 (at h 0) && under (at h 0) 128 && under 0 (at h 1) && under (at h 1) 128
    && under (at h 2) 100 && under (at h 3) 100 && under (at h 4) 100

-- 3: "no whole header line, or a field or line feed in it malformed"
unfoldable pub refusal3 : List ℕ → Bool
refusal3 s = not (is_line s 0)

-- 4: "n, m or a cost beyond its limits"
unfoldable pub refusal4 : List ℕ → Bool
refusal4 s = not (limits (line_no s 0).line)

-- what the header comes to
unfoldable pub header_of : List ℕ → Result Header Refusal
header_of s = cond (refusal3 s) (Err NoHeader) (cond (refusal4 s) (Err BeyondLimits) (Ok (header_in s)))

-- "total length is not 31 × (1 + n + m)"
unfoldable pub whole : List ℕ → ℕ → ℕ → Bool
whole s n m = same (length s) (line_length * (1 + n + m))

-- "n network lines: node number (1 to n, in order), .."
unfoldable pub node_line : List ℕ → ℕ → Bool
node_line s v = is_line s v && same (cell s v 0) v

-- "m gene lines: gene number (1 to m, in order), parent, species, 0, 0"
unfoldable pub gene_line : List ℕ → ℕ → ℕ → Bool
gene_line s n g = is_line s (n + g) && same (cell s (n + g) 0) g && same (cell s (n + g) 3) 0 && same (cell s (n + g) 4) 0

-- 5: "total length is not 31 × (1 + n + m); or a later line is malformed, out of number, or a gene line's last two fields are not 0"
unfoldable pub refusal5 : List ℕ → Bool
refusal5 s = not (whole s (nodes s) (genes s) && every (nodes s) (node_line s) && every (genes s) (gene_line s (nodes s)))

-- The conditions of 3, 4 and 5 as a reader of 01 would state them; proofs/Refusals joins them with the tests above.
-- Line i is the line of the numbers ns
pub record Line (s : List ℕ) (i : ℕ) (ns : List ℕ) : Type 0 where
  pub small : Small ns
  pub bytes : take line_length (drop (line_length * i) s) ≡ line_of ns

-- a node line, in number
pub record NodeLine (s : List ℕ) (v : ℕ) : Type 0 where
  pub numbers : List ℕ
  pub line : Line s v numbers
  pub number : at numbers 0 ≡ v

-- a gene line, in number, its last two fields 0
pub record GeneLine (s : List ℕ) (n g : ℕ) : Type 0 where
  pub numbers : List ℕ
  pub line : Line s (n + g) numbers
  pub number : at numbers 0 ≡ g
  pub fourth : at numbers 3 ≡ 0
  pub fifth : at numbers 4 ≡ 0

-- what 5 asks of a sheet whose header has n nodes and m genes
pub record WellFormed (s : List ℕ) (n m : ℕ) : Type 0 where
  pub total : length s ≡ line_length * (1 + n + m)
  pub node : (v : ℕ) → 1 ≤ v → v ≤ n → NodeLine s v
  pub gene : (g : ℕ) → 1 ≤ g → g ≤ m → GeneLine s n g

-- 3: "no whole header line, or a field or line feed in it malformed"
abbrev pub Refusal3 : List ℕ → Type 0
Refusal3 s = (ns : List ℕ) → ¬ (Line s 0 ns)

-- 4: a header line is there, and "n, m or a cost beyond its limits"
pub record Refusal4 (s : List ℕ) : Type 0 where
  pub numbers : List ℕ
  pub line : Line s 0 numbers
  pub beyond : ¬ (WithinLimits (header_by numbers))

-- 5: a header line is there, and the sheet is not formed as its n and m say
pub record Refusal5 (s : List ℕ) : Type 0 where
  pub numbers : List ℕ
  pub line : Line s 0 numbers
  pub amiss : ¬ (WellFormed s (at numbers 0) (at numbers 1))

-- what each case of the header's answer says
pub record IsHeader (s : List ℕ) (h : Header) : Type 0 where
  pub numbers : List ℕ
  pub line : Line s 0 numbers
  pub header : h ≡ header_by numbers
  pub limits : WithinLimits h

abbrev pub HeadedIs : List ℕ → Result Header Refusal → Type 0
HeadedIs s (Ok h) = IsHeader s h
HeadedIs s (Err r) = ((r ≡ NoHeader) × Refusal3 s) ⊎ ((r ≡ BeyondLimits) × Refusal4 s)

-- what is told of a line: its numbers, where it passes a test
abbrev pub told : Bool → List ℕ → Option (List ℕ)
told passes line = cond passes (Some line) None

-- the lines of n nodes by column, and those of m genes behind them
unfoldable pub node_columns : List ℕ → ℕ → NodeColumns
node_columns s n = record {
  principal = filled n zeros (λ v. cell s v 1);
  secondary = filled n zeros (λ v. cell s v 2);
  stamp = filled n zeros (λ v. cell s v 3);
  species = filled n zeros (λ v. cell s v 4);
}

unfoldable pub gene_columns : List ℕ → (n m : ℕ) → GeneColumns
gene_columns s n m = record { parent = filled m zeros (λ g. cell s (n + g) 1); species = filled m zeros (λ g. cell s (n + g) 2) }

-- they are read where all are well formed
abbrev pub NodesRead : List ℕ → ℕ → Option NodeColumns → Type 0
NodesRead s n (Some l) = (every n (node_line s) ≡ true) × (l ≡ node_columns s n)
NodesRead s n None = every n (node_line s) ≡ false

abbrev pub GenesRead : List ℕ → (n m : ℕ) → Option GeneColumns → Type 0
GenesRead s n m (Some l) = (every m (gene_line s n) ≡ true) × (l ≡ gene_columns s n m)
GenesRead s n m None = every m (gene_line s n) ≡ false

-- columns that no line has been read into
abbrev pub no_nodes : NodeColumns
no_nodes = record { principal = zeros; secondary = zeros; stamp = zeros; species = zeros }

abbrev pub no_genes : GeneColumns
no_genes = record { parent = zeros; species = zeros }

-- the same, of columns that are lent, as they are left
abbrev pub NodesReadInto : List ℕ → ℕ → NodeColumns → Option Unit → Type 0
NodesReadInto s n l (Some _) = NodesRead s n (Some l)
NodesReadInto s n l None = NodesRead s n None

abbrev pub GenesReadInto : List ℕ → (n m : ℕ) → GeneColumns → Option Unit → Type 0
GenesReadInto s n m l (Some _) = GenesRead s n m (Some l)
GenesReadInto s n m l None = GenesRead s n m None

-- what 5 asks of a sheet of n nodes and m genes, as a test
abbrev pub formed : List ℕ → (n m : ℕ) → Bool
formed s n m = whole s n m && every n (node_line s) && every m (gene_line s n)

-- the lines after a header that was accepted: all of them, or refusal 5
abbrev pub LinesRead : List ℕ → Header → Result Lines Refusal → Type 0
LinesRead s h (Ok l) = (formed s h.nodes h.genes ≡ true) × (l.header ≡ h) × (l.nodes ≡ node_columns s h.nodes) × (l.genes ≡ gene_columns s h.nodes h.genes)
LinesRead s h (Err r) = (formed s h.nodes h.genes ≡ false) × (r ≡ BadLines)

-- lines that have a header and no more, of a text of the length that it tells
abbrev pub Unread : List ℕ → Lines → Type 0
Unread s l = (whole s l.header.nodes l.header.genes ≡ true) × (l.nodes ≡ no_nodes) × (l.genes ≡ no_genes)

-- what reading into them comes to: the lines that are left are what is read
abbrev pub ReadInto : List ℕ → Header → Lines → Result Unit Refusal → Type 0
ReadInto s h l (Ok _) = LinesRead s h (Ok l)
ReadInto s h l (Err r) = LinesRead s h (Err r)
