-- The theorem about all known sheets with their trees as text. The checker computes that the sheet passes 3, 4 and 5, that the text is taken, and that the sheet
-- with the tree's gene lines written out is the known sheet; what the call comes to is then what is known of that (`as_plain`, crate score_newick).
-- Assumes nothing.
use Rattle.std.proofs.Common.{◌≡◌, refl, sym, ap, subst, ◌∙◌, Bool, true, ◌&&◌, not, List, [], ◌∷◌, ◌++◌, ℕ, zero, suc, ◌<◌, length, get_or, arith}
use mathlib.Core.List.{Memᴰ}
use Rattle.std.proofs.lemmas.Bool.{not-true}
use Rattle.finite.specs.Tests.{same, under}
use Rattle.finite.proofs.Tests.{same_is, under_not, and_l, and_r}
use Rattle.columns.specs.Fields.{same_bytes}
use Rattle.columns.proofs.Bytes.{same_eq}
use Rattle.columns.specs.Writing as Writing
use Rattle.std.specs.Prelude.{Err, drop}
use Rattle.refusals.specs.declared.Refusal.{Refusal}
use Rattle.refusals.specs.declared.Refusal.TheVariants.{ShortResult, BeyondLimits}
use Rattle.refusals.specs.Numbers.{number, refused}
use Rattle.refusals.proofs.Numbers.{is_refusal}
use Rattle.sheet.specs.Sheets.{refusal3}
use Rattle.newick.specs.Trees.{gene_lines_of, genes, lines_from, no_line, line_at}
use Rattle.newick.specs.Reading.{digit_from, more_at, leaf_at, leaf_of, closed, paired, tree_in, tree_at, answer_to, answer_of, lines_found, lines_read}
use Rattle.newick.specs.Answers.{Taken}
use Rattle.newick.proofs.Answers.{lines_read_is}
use Rattle.family.specs.Buffers.{least_words, least_bytes}
use Rattle.answer.proofs.Answers.{says_of}
use Rattle.score.specs.Outcome as Plain
use Rattle.written_out.specs.WrittenOut.{gene_text, written_out}
use Rattle.score_newick.specs.Sheets.{refusal4, refusal5}
use Rattle.score_newick.specs.Refusals.{refusal}
use Rattle.score_newick.proofs.Refusals.{refusal_2, refusal_4}
use Rattle.score_newick.proofs.Promises.{taken, as_plain}
use Rattle.sheet_rows.specs.Rows.{Row, Known}
use Rattle.sheet_rows.proofs.Opened.{open_Finite, open_Sheet}
use Rattle.known_sheets.specs.Sheets.{case1, known_sheets}
use Rattle.known_sheets.proofs.Known.{known_sheets_lem}
use Rattle.known_trees.specs.Trees.{TreeRow, KnownTree, known_trees, known_refused}

-- the test of a row
unfoldable passes : TreeRow → Bool
passes r = not (refusal3 r.sheet) && (not (refusal4 r.sheet) && (not (refusal5 r.sheet) && (same (refused (answer_of r.text)) 0
    && (not (under r.known.scratch least_words) && (not (under r.known.result least_bytes) && same_bytes (written_out r.sheet (lines_read r.text)) r.known.sheet)))))

unfoldable all_pass : List TreeRow → Bool
all_pass [] = true
all_pass (r ∷ rs) = passes r && all_pass rs

-- a row that passes
module _ (r : TreeRow) (p : passes r ≡ true) (k : Known r.known) where
  record Tests : Type 0 where
    three : not (refusal3 r.sheet) ≡ true
    four : not (refusal4 r.sheet) ≡ true
    five : not (refusal5 r.sheet) ≡ true
    text : same (refused (answer_of r.text)) 0 ≡ true
    space : not (under r.known.scratch least_words) ≡ true
    room : not (under r.known.result least_bytes) ≡ true
    sheet : same_bytes (written_out r.sheet (lines_read r.text)) r.known.sheet ≡ true

  tests : Tests
  unfolding passes
  tests = search (and_l, and_r)

  read : (m : ℕ) × Taken r.text m
  read = taken r.text (same_is _ 0 tests.text)

  written : written_out r.sheet (gene_lines_of read.1.tree) ≡ r.known.sheet
  written = ap (written_out r.sheet) (sym (lines_read_is r.text read.1.tree read.1.has_text)) ∙ same_eq _ _ tests.sheet

  known_tree : KnownTree r
  unfolding refusal
  known_tree = record {
    outcome = λ d e u t a long ample promise.
        let plain = as_plain r.sheet r.text read.1.tree read.1.has_text (omega (arith, read.1.count, read.1.few)) (not-true _ tests.three) (not-true _ tests.four) (not-true _ tests.five)
        d e u t a (omega (arith, ample, under_not _ _ (not-true _ tests.space))) (omega (arith, long, under_not _ _ (not-true _ tests.room))) promise.call.outcome in
        k.outcome d e u t a long ample (subst (λ (s : List ℕ). Plain.Promise s d e u t a) written plain);
  }

-- the known sheets of a list of rows stand in the table of them
data Listed : List TreeRow → Type 0 where
  none : Listed []
  then : {r : TreeRow} {rs : List TreeRow} → Memᴰ r.known known_sheets → Listed rs → Listed (r ∷ rs)

all_known : (rs : List TreeRow) → all_pass rs ≡ true → Listed rs → (r : TreeRow) → Memᴰ r rs → KnownTree r
unfolding all_pass
all_known [] t none r m = elim m [ ]
all_known (x ∷ xs) t (then k ks) r (Memᴰ.head e) = subst KnownTree (sym e) (known_tree x (and_l (passes x) (all_pass xs) t) (known_sheets_lem x.known k))
all_known (x ∷ xs) t (then k ks) r (Memᴰ.tail m) = all_known xs (and_r (passes x) (all_pass xs) t) ks r m

row_at : (xs : List Row) (i : ℕ) (other : Row) → i < length xs → Memᴰ (get_or xs i other) xs
row_at [] i other l = absurd (omega arith)
row_at (x ∷ xs) zero other l = Memᴰ.head refl
row_at (x ∷ xs) (suc i) other l = Memᴰ.tail (row_at xs i other (omega arith))

-- of the table of known sheets
known_at : (i : ℕ) → i < 16 → Memᴰ (get_or known_sheets i case1) known_sheets
known_at i l = row_at known_sheets i case1 l

listed : Listed known_trees
listed =
    then (known_at 0 (omega arith)) (then (known_at 1 (omega arith)) (then (known_at 2 (omega arith)) (then (known_at 3 (omega arith)) (
    then (known_at 4 (omega arith)) (then (known_at 5 (omega arith)) (then (known_at 6 (omega arith)) (then (known_at 7 (omega arith)) (
    then (known_at 8 (omega arith)) (then (known_at 9 (omega arith)) (then (known_at 10 (omega arith)) (then (known_at 12 (omega arith)) (
    then (known_at 14 (omega arith)) (then (known_at 15 (omega arith)) none)))))))))))))

all_pass_lem : all_pass known_trees ≡ true
unfolding open_Finite open_Sheet passes all_pass refusal4 refusal5 gene_lines_of genes lines_from no_line line_at digit_from more_at leaf_at leaf_of closed paired tree_in tree_at answer_to answer_of lines_found lines_read gene_text written_out
all_pass_lem = refl

-- whatever a call that keeps the promise of `score_newick` does with the sheet and the text of a row of the table, it does what is known of the known sheet
pub known_trees_lem : (r : TreeRow) → Memᴰ r known_trees → KnownTree r
known_trees_lem = all_known known_trees all_pass_lem listed

-- a row whose sheet is refused as the known sheet is, with nothing written
module _ (r : TreeRow) (x : Refusal) (answer : r.known.answer ≡ Err x) (report : r.known.report ≡ []) (words : r.known.words ≡ [])
    (k : refusal r.sheet r.text r.known.result r.known.scratch ≡ number x) where
  refused_tree : KnownTree r
  unfolding refusal Writing.written
  refused_tree = record {
    outcome = λ d e u t a long ample promise.
        let q : a ≡ Err x = is_refusal a x (promise.call.outcome.refusal ∙ (rw (sym long, sym ample) at k)) in
        let says = says_of promise.call q in
        record {
          answer = q ∙ sym answer;
          result = says.result_kept ∙ ap (Writing.written d) (sym report);
          scratch = says.scratch_kept ∙ ap (λ (w : List ℕ). w ++ drop (length w) u) (sym words);
        };
  }

-- the rows that are refused by 4 and 2
pub known_refused_lem : (r : TreeRow) → Memᴰ r known_refused → KnownTree r
unfolding open_Finite open_Sheet refusal4
known_refused_lem r (Memᴰ.head e) = subst KnownTree (sym e) (refused_tree _ BeyondLimits refl refl refl (refusal_4 _ _ _ _ (omega arith) (omega arith) refl refl))
known_refused_lem r (Memᴰ.tail (Memᴰ.head e)) = subst KnownTree (sym e) (refused_tree _ ShortResult refl refl refl (refusal_2 _ _ _ _ (omega arith) (omega arith)))
known_refused_lem r (Memᴰ.tail (Memᴰ.tail m)) = elim m [ ]
