-- The refusals 3, 4 and 5 as tests are those that a reader of 01 would state. A line is found just where the bytes are a line of numbers
-- (`line_is` of columns), and a line has only one reading (`same_cells`), so each test over the lines is the statement about each line.
-- Assumes nothing.
use Rattle.std.proofs.Common.{ℕ, ◌+◌, ◌*◌, ◌<◌, ◌≡◌, refl, sym, ◌∙◌, subst, ◌↔◌, inl, inr, true, false, ◌&&◌, List, arith}
use Rattle.finite.specs.Tests.{same}
use Rattle.finite.specs.Range.{every}
use Rattle.finite.specs.Tables.{at}
use Rattle.finite.proofs.Cases.{by_bool, clash}
use Rattle.std.proofs.lemmas.Bool.{not-true, not-false, not_from_false}
use Rattle.finite.proofs.Tests.{is_same, same_is, and_l, and_r}
use Rattle.finite.proofs.Every.{every_at, is_every}
use Rattle.layout.specs.Headers.{WithinLimits}
use Rattle.layout.specs.declared.Header.{Header}
use Rattle.text_lines.specs.Lines.{field_count, line_length, line_at, LineIs}
use Rattle.columns.specs.declared.Cursor.{Cursor}
use Rattle.std.specs.Prelude.{Option, Some, None, is_some}
use Rattle.text_lines.proofs.Lines.{line_is, small_read, one_line}
use Rattle.sheet.specs.Sheets.{line_no, is_line, cell, header_in, header_by, header_of, nodes, genes, limits, Refusal3, Refusal4, Refusal5, HeadedIs, refusal3, refusal4, whole, node_line, gene_line, refusal5, Line, NodeLine, GeneLine, WellFormed, formed}
use Rattle.std.specs.Prelude.{Result}
use Rattle.refusals.specs.declared.Refusal.{Refusal}
use Rattle.sheet.proofs.Limits.{limits_is, is_limits}

-- a line that is found is the line of its cells
pub line_found : (s : List ℕ) (i : ℕ) → is_line s i ≡ true → Line s i (line_no s i).line
unfolding is_line line_no
line_found s i t = go (line_at s (line_length * i)).end t (line_is s (line_length * i))
  where
    go : (d : Option Cursor) → is_some d ≡ true → LineIs s (line_length * i) (line_at s (line_length * i)).line d → Line s i (line_at s (line_length * i)).line
    go (Some c) t h = record { small = h.0; bytes = h.1 }
    go None t h = clash t refl

-- a line of numbers is found
pub found_line : (s : List ℕ) (i : ℕ) (ns : List ℕ) → Line s i ns → is_line s i ≡ true
unfolding is_line line_no
found_line s i ns l = go (line_at s (line_length * i)).end (line_is s (line_length * i))
  where
    go : (d : Option Cursor) → LineIs s (line_length * i) (line_at s (line_length * i)).line d → is_some d ≡ true
    go (Some c) h = refl
    go None h = absurd (h ns l.small l.bytes)

-- and has one reading
pub same_cells : (s : List ℕ) (i : ℕ) (ns : List ℕ) → Line s i ns → (k : ℕ) → k < field_count → cell s i k ≡ at ns k
unfolding cell
same_cells s i ns l k h = let f = line_found s i (found_line s i ns l) in
    one_line (line_no s i).line ns f.small l.small (sym f.bytes ∙ l.bytes) k h

-- the header by any reading of its line
pub header_same : (s ns : List ℕ) → Line s 0 ns → header_in s ≡ header_by ns
unfolding cell
header_same s ns l = rw (
  same_cells s 0 ns l 0 (omega arith),
  same_cells s 0 ns l 1 (omega arith),
  same_cells s 0 ns l 2 (omega arith),
  same_cells s 0 ns l 3 (omega arith),
  same_cells s 0 ns l 4 (omega arith),
)

-- 3: no numbers have the first bytes for their line
pub reading_3 : (s : List ℕ) → (refusal3 s ≡ true) ↔ Refusal3 s
unfolding refusal3
reading_3 s = (
  (λ t ns l. clash (found_line s 0 ns l) (not-true (is_line s 0) t)),
  λ none. not_from_false (is_line s 0) (by_bool (is_line s 0) (λ t. absurd (none _ (line_found s 0 t))) (λ t. t)),
)

-- where 3 does not apply, the first line is there
pub header_line : (s : List ℕ) → refusal3 s ≡ false → Line s 0 (line_no s 0).line
unfolding refusal3
header_line s f = line_found s 0 (not-false (is_line s 0) f)

-- 4: the header is beyond the limits
pub reading_4 : (s : List ℕ) → refusal3 s ≡ false → (refusal4 s ≡ true) ↔ Refusal4 s
unfolding refusal4
reading_4 s f = (
  (λ t. record {
    numbers = (line_no s 0).line;
    line = header_line s f;
    beyond = λ l. clash (sym (is_limits _ l)) (not-true (limits (line_no s 0).line) t);
  }),
  λ r. not_from_false (limits (line_no s 0).line) (by_bool (limits (line_no s 0).line)
      (λ t. absurd (r.beyond (subst (λ (h : Header). WithinLimits h) (header_same s r.numbers r.line) (limits_is _ t)))) (λ t. t)),
)

-- a node line and a gene line, as tests and as statements
node_line_lem : (s : List ℕ) (v : ℕ) → node_line s v ≡ true → NodeLine s v
unfolding node_line cell
node_line_lem s v t = record { numbers = (line_no s v).line; line = line_found s v (and_l (is_line s v) _ t); number = same_is _ _ (and_r (is_line s v) _ t) }

line_node : (s : List ℕ) (v : ℕ) → NodeLine s v → node_line s v ≡ true
unfolding node_line
line_node s v l = rw (found_line s v _ l.line, is_same (same_cells s v _ l.line 0 (omega arith) ∙ l.number))

record GeneTests (s : List ℕ) (n g : ℕ) : Type 0 where
  a : is_line s (n + g) ≡ true
  b : same (cell s (n + g) 0) g ≡ true
  c : same (cell s (n + g) 3) 0 ≡ true
  d : same (cell s (n + g) 4) 0 ≡ true

gene_tests : (s : List ℕ) (n g : ℕ) → gene_line s n g ≡ true → GeneTests s n g
unfolding gene_line
gene_tests s n g t = search (and_l, and_r)

gene_line_lem : (s : List ℕ) (n g : ℕ) → gene_line s n g ≡ true → GeneLine s n g
unfolding cell
gene_line_lem s n g t = let x = gene_tests s n g t in
    record { numbers = (line_no s (n + g)).line; line = line_found s (n + g) x.a; number = same_is _ _ x.b; fourth = same_is _ _ x.c; fifth = same_is _ _ x.d }

line_gene : (s : List ℕ) (n g : ℕ) → GeneLine s n g → gene_line s n g ≡ true
unfolding gene_line
line_gene s n g l = rw (
  found_line s (n + g) _ l.line,
  is_same (same_cells s (n + g) _ l.line 0 (omega arith) ∙ l.number),
  is_same (same_cells s (n + g) _ l.line 3 (omega arith) ∙ l.fourth),
  is_same (same_cells s (n + g) _ l.line 4 (omega arith) ∙ l.fifth),
)

-- 5: the length and the later lines of a sheet with n node lines and m gene lines, as tests and as a statement
module _ (s : List ℕ) (n m : ℕ) where
  pub formed_is : formed s n m ≡ true → WellFormed s n m
  unfolding whole
  formed_is t = let lines = and_l (whole s n m && every n (node_line s)) _ t in
      record {
        total = same_is _ _ (and_l (whole s n m) _ lines);
        node = λ v l u. node_line_lem s v (every_at n (node_line s) (and_r (whole s n m) _ lines) v l u);
        gene = λ g l u. gene_line_lem s n g (every_at m (gene_line s n) (and_r (whole s n m && every n (node_line s)) _ t) g l u);
      }

  pub is_formed : WellFormed s n m → formed s n m ≡ true
  unfolding whole
  is_formed w = rw (
    is_same w.total,
    is_every n (node_line s) (λ v l u. line_node s v (w.node v l u)),
    is_every m (gene_line s n) (λ g l u. line_gene s n g (w.gene g l u)),
  )

pub well_formed : (s : List ℕ) → refusal5 s ≡ false → WellFormed s (nodes s) (genes s)
unfolding refusal5
well_formed s f = formed_is s (nodes s) (genes s) (not-false (formed s (nodes s) (genes s)) f)

pub formed_well : (s : List ℕ) → WellFormed s (nodes s) (genes s) → refusal5 s ≡ false
unfolding refusal5
formed_well s w = rw (is_formed s (nodes s) (genes s) w)

pub reading_5 : (s : List ℕ) → refusal3 s ≡ false → (refusal5 s ≡ true) ↔ Refusal5 s
reading_5 s f = (
  (λ t. record { numbers = (line_no s 0).line; line = header_line s f; amiss = λ w. clash t (formed_well s w) }),
  λ r. by_bool (refusal5 s) (λ t. t) (λ e. absurd (r.amiss (subst (λ (h : Header). WellFormed s h.nodes h.genes) (header_same s r.numbers r.line) (well_formed s e)))),
)

pub within_limits : (s : List ℕ) → refusal4 s ≡ false → WithinLimits (header_in s)
unfolding refusal4
within_limits s e = limits_is _ (not-false _ e)

-- what the header comes to, by cases
pub headed_is : (s : List ℕ) → HeadedIs s (header_of s)
unfolding header_of
headed_is s = by_bool (refusal3 s)
    (λ t. rw t (inl (refl, (reading_3 s).0 t)))
    (λ f. rw f (by_bool (refusal4 s)
    (λ t. rw t (inr (refl, (reading_4 s f).0 t)))
    (λ e. rw e (record { numbers = (line_no s 0).line; line = header_line s f; header = refl; limits = within_limits s e }))))

pub headed_told : (s : List ℕ) {r : Result Header Refusal} → r ≡ header_of s → (r ≡ header_of s) × HeadedIs s r
headed_told s {r} e = (e, subst (λ (x : Result Header Refusal). HeadedIs s x) (sym e) (headed_is s))

-- every cell has a field
pub cell_small : (s : List ℕ) (i k : ℕ) → cell s i k < 1000000
unfolding cell line_no
cell_small s i k = (small_read s (line_length * i)).small k
