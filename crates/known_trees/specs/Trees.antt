-- The known sheets (01, "Known sheets") with their gene trees as text (02, (i)): cases 1 to 12, and the two sheets that 01 names after them. A row has the text
-- beside the known sheet, and says nothing of the outcome: that is the known sheet's own.
-- Assumes nothing.
use Rattle.std.specs.Prelude.{◌≡◌, List, [], ◌∷◌, ◌++◌, ℕ, ◌*◌, length, take, drop, Result}
use Rattle.text_lines.specs.Lines.{line_length}
use Rattle.refusals.specs.declared.Refusal.{Refusal}
use Rattle.sheet_rows.specs.Rows.{bytes, ln, Row, AsExpected}
use Rattle.known_sheets.specs.Sheets.{case1, case2, case3, case4, case5, case6, case7, case8, case9, case10, case11, case11_refused, case12, case12_refused, eight, nine}
use Rattle.score_newick.specs.Outcome.{Promise}

-- a known sheet, and what stands for it: a sheet without gene lines and a text
pub record TreeRow : Type 0 where
  pub known : Row
  pub sheet : List ℕ
  pub text : List ℕ

-- the n network lines of a known sheet under a header with m = 1
abbrev pub with_text : (known : Row) (n : ℕ) (header text : List ℕ) → TreeRow
with_text r n header text = record { known = r; sheet = header ++ take (line_length * n) (drop line_length r.sheet); text = text }

-- whatever a call that keeps the promise of `score_newick` does with sheet and text, on buffers of the known sheet's lengths, it does what is known of that sheet
pub record KnownTree (r : TreeRow) : Type 0 where
  pub outcome : (d e u t : List ℕ) (a : Result ℕ Refusal) → length d ≡ r.known.result → length u ≡ r.known.scratch → Promise r.sheet r.text d e u t a → AsExpected r.known d e u t a

-- the table of those that are scored, or refused by 6 to 13
abbrev pub known_trees : List TreeRow
known_trees = with_text case1 7 (ln "     7     1     2     3     1") (bytes "(1,(2,3));")
    ∷ with_text case2 7 (ln "     7     1     2     4     1") (bytes "(1,(2,3));")
    ∷ with_text case3 7 (ln "     7     1     2     5     1") (bytes "(1,(2,3));")
    ∷ with_text case4 7 (ln "     7     1     2     3     1") (bytes "((3,2),2);")
    ∷ with_text case5 7 (ln "     7     1     2     2     1") (bytes "((3,2),2);")
    ∷ with_text case6 7 (ln "     7     1     2     3     1") (bytes "2;")
    ∷ with_text case7 1 (ln "     1     1     2     3     1") (bytes "1;")
    ∷ with_text case8 1 (ln "     1     1     2     3     1") (bytes "(1,1);")
    ∷ with_text case9 7 (ln "     7     1     2     3     1") (bytes "(1,(2,3));")
    ∷ with_text case10 7 (ln "     7     1     2     3     1") (bytes "(1,(4,3));")
    ∷ with_text case11 7 (ln "     7     1    99     3     1") (bytes "(1,(2,3));")
    ∷ with_text case12 7 (ln "     7     1     2     3     1") (bytes "(1,(2,3));")
    ∷ with_text eight 33 (ln "    33     1     2     3     1") (bytes "1;")
    ∷ with_text nine 37 (ln "    37     1     2     3     1") (bytes "1;")
    ∷ []

-- those of cases 11 and 12 that are refused by 4 and 2, before a gene is read
abbrev pub known_refused : List TreeRow
known_refused = with_text case11_refused 7 (ln "     7     1   100     3     1") (bytes "(1,(2,3));")
    ∷ with_text case12_refused 7 (ln "     7     1     2     3     1") (bytes "(1,(2,3));")
    ∷ []
