-- The header's answer from what reading its line told, and the turns of the loops over the later lines: a line that is read passes its test, and its
-- numbers go into the columns; one that is not fails it, and so fails the test of all.
-- Assumes nothing.
use Rattle.std.proofs.Common.{◌≡◌, ℕ, zero, suc, ◌+◌, ◌-◌, ◌*◌, ◌≤◌, List, length, set, Bool, true, false, ◌&&◌, is_some, refl, sym, ap, ◌∙◌, arith, Option, Some, None, Ok, Err}
use Rattle.finite.specs.Tests.{same}
use Rattle.finite.specs.Range.{every}
use Rattle.finite.specs.Tables.{at, zeros, filled}
use Rattle.finite.proofs.Tests.{is_same, not_same}
use Rattle.finite.proofs.Every.{every_fails}
use Rattle.std.proofs.lemmas.Option.{none-some, cond_some, some_pair_parts}
use Rattle.text_lines.specs.Lines.{line_length, line_at, told_at}
use Rattle.columns.specs.declared.Cursor.{Cursor}
use Rattle.refusals.specs.declared.Refusal.TheVariants.{NoHeader, BeyondLimits}
use Rattle.layout.specs.declared.lines.NodeColumns.{NodeColumns}
use Rattle.layout.specs.declared.lines.GeneColumns.{GeneColumns}
use Rattle.sheet.specs.Sheets.{line_no, is_line, cell, header_by, limits, refusal3, refusal4, header_of, whole, node_line, gene_line, told, node_columns, gene_columns}

-- the length rule
pub is_whole : (s : List ℕ) (n m l : ℕ) → l ≡ line_length * (1 + n + m) → length s ≡ l → true ≡ whole s n m
unfolding whole
is_whole s n m l e q = sym (is_same (q ∙ e))

pub not_whole : (s : List ℕ) (n m l : ℕ) → l ≡ line_length * (1 + n + m) → (length s ≡ l → ⊥) → false ≡ whole s n m
unfolding whole
not_whole s n m l e q = sym (not_same (λ h. q (h ∙ sym e)))

-- a line is told where it is read
pub line_some : (s : List ℕ) (i : ℕ) (ns : List ℕ) (c : Cursor) → Some (ns, c) ≡ told_at (line_at s (line_length * i)).line (line_at s (line_length * i)).end
    → Some ns ≡ told (is_line s i) (line_no s i).line
unfolding is_line line_no
line_some s i ns c e = go (line_at s (line_length * i)).end e
  where
    go : (d : Option Cursor) → Some (ns, c) ≡ told_at (line_at s (line_length * i)).line d → Some ns ≡ told (is_some d) (line_at s (line_length * i)).line
    go (Some b) q = ap Some (some_pair_parts _ _ _ _ q).0
    go None q = absurd (none-some _ (sym q))

pub line_none : (s : List ℕ) (i : ℕ) → None ≡ told_at (line_at s (line_length * i)).line (line_at s (line_length * i)).end → None ≡ told (is_line s i) (line_no s i).line
unfolding is_line line_no
line_none s i e = go (line_at s (line_length * i)).end e
  where
    go : (d : Option Cursor) → None ≡ told_at (line_at s (line_length * i)).line d → None ≡ told (is_some d) (line_at s (line_length * i)).line
    go (Some b) q = absurd (none-some _ q)
    go None q = refl

-- where nothing is told, the test fails
not_told : (p : Bool) (line : List ℕ) → None ≡ told p line → p ≡ false
not_told true line e = absurd (none-some _ e)
not_told false line e = refl

-- a line of node v is told where it is read and its number passes (that it is compared with w is how the code gives v), and one of gene g where its last two
-- fields do too
module _ (s : List ℕ) (v : ℕ) where
  pub node_unread : None ≡ told (is_line s v) (line_no s v).line → None ≡ told (node_line s v) (line_no s v).line
  unfolding node_line
  node_unread e = rw (not_told _ _ e)

  module _ (ns : List ℕ) (e : Some ns ≡ told (is_line s v) (line_no s v).line) (w : ℕ) (f : w ≡ v) where
    pub node_read : same (at ns 0) w ≡ true → Some ns ≡ told (node_line s v) (line_no s v).line
    unfolding node_line cell
    node_read q = let t = cond_some _ _ _ (sym e) in rw (t.0, t.1, ← f, q) refl

    pub node_misnumbered : same (at ns 0) w ≡ false → None ≡ told (node_line s v) (line_no s v).line
    unfolding node_line cell
    node_misnumbered q = let t = cond_some _ _ _ (sym e) in rw (t.0, t.1, ← f, q)

module _ (s : List ℕ) (n g : ℕ) where
  pub gene_unread : None ≡ told (is_line s (n + g)) (line_no s (n + g)).line → None ≡ told (gene_line s n g) (line_no s (n + g)).line
  unfolding gene_line
  gene_unread e = rw (not_told _ _ e)

  module _ (ns : List ℕ) (e : Some ns ≡ told (is_line s (n + g)) (line_no s (n + g)).line) where
    pub gene_read : (same (at ns 0) g && same (at ns 3) 0 && same (at ns 4) 0) ≡ true → Some ns ≡ told (gene_line s n g) (line_no s (n + g)).line
    unfolding gene_line cell
    gene_read q = let t = cond_some _ _ _ (sym e) in rw (t.0, t.1, q) refl

    pub gene_misnumbered : (same (at ns 0) g && same (at ns 3) 0 && same (at ns 4) 0) ≡ false → None ≡ told (gene_line s n g) (line_no s (n + g)).line
    unfolding gene_line cell
    gene_misnumbered q = let t = cond_some _ _ _ (sym e) in rw (t.0, t.1, q)

-- the turns of the loops over the lines, at v or g, after which those up to u are read (one for each, since nodes and genes have not the same columns)
module _ (s : List ℕ) where
  pub nodes_start : record { principal = zeros; secondary = zeros; stamp = zeros; species = zeros } ≡ node_columns s 0
  unfolding node_columns filled
  nodes_start = refl

  pub nodes_turn : (v u : ℕ) (l : NodeColumns) (ns : List ℕ) → 1 ≤ v → u ≡ v → Some ns ≡ told (node_line s v) (line_no s v).line → every (v - 1) (node_line s) ≡ true → l ≡ node_columns s (v - 1)
      → (every u (node_line s) ≡ true)
      × (record { principal = set l.principal v (at ns 1); secondary = set l.secondary v (at ns 2); stamp = set l.stamp v (at ns 3); species = set l.species v (at ns 4) } ≡ node_columns s u)
  unfolding every node_columns filled cell
  nodes_turn zero u l ns low e t all is = absurd (omega arith)
  nodes_turn (suc k) u l ns low e t all is =
      let q : suc k - 1 ≡ k = omega arith in
      let r = cond_some _ _ _ (sym t) in
      rw (e, r.0, ← r.1, is, q) (rw q at all, refl)

module _ (s : List ℕ) (n : ℕ) where
  pub genes_start : record { parent = zeros; species = zeros } ≡ gene_columns s n 0
  unfolding gene_columns filled
  genes_start = refl

  pub genes_turn : (g u : ℕ) (l : GeneColumns) (ns : List ℕ) → 1 ≤ g → u ≡ g → Some ns ≡ told (gene_line s n g) (line_no s (n + g)).line → every (g - 1) (gene_line s n) ≡ true → l ≡ gene_columns s n (g - 1)
      → (every u (gene_line s n) ≡ true) × (record { parent = set l.parent g (at ns 1); species = set l.species g (at ns 2) } ≡ gene_columns s n u)
  unfolding every gene_columns filled cell
  genes_turn zero u l ns low e t all is = absurd (omega arith)
  genes_turn (suc k) u l ns low e t all is =
      let q : suc k - 1 ≡ k = omega arith in
      let r = cond_some _ _ _ (sym t) in
      rw (e, r.0, ← r.1, is, q) (rw q at all, refl)

-- a line that fails its test fails the test of all
pub lines_stop : (test : ℕ → Bool) (n v : ℕ) (line : List ℕ) → 1 ≤ v → v ≤ n → None ≡ told (test v) line → every n test ≡ false
lines_stop test n v line a b e = every_fails n v test a b (not_told _ _ e)

-- the header, from what reading line 0 told
module _ (s : List ℕ) where
  pub no_header : None ≡ told (is_line s 0) (line_no s 0).line → Err NoHeader ≡ header_of s
  unfolding header_of refusal3
  no_header e = rw (not_told _ _ e)

  module _ (h : List ℕ) (e : Some h ≡ told (is_line s 0) (line_no s 0).line) where
    pub header_beyond : false ≡ limits h → Err BeyondLimits ≡ header_of s
    unfolding header_of refusal3 refusal4
    header_beyond u = let t = cond_some _ _ _ (sym e) in rw (t.0, t.1, ← u)

    pub header_within : true ≡ limits h → Ok (header_by h) ≡ header_of s
    unfolding header_of refusal3 refusal4
    header_within u = let t = cond_some _ _ _ (sym e) in rw (t.0, t.1, ← u) refl
