-- A test of a row that computes, and what it means: where it passes, every call that keeps the promise of `score` does what the row says.
-- Assumes nothing.
use Rattle.std.proofs.Common.{◌≡◌, sym, ap, ap₂, subst, ◌∙◌, Bool, true, false, ◌&&◌, not, List, [], ◌∷◌, ◌++◌, ℕ, ◌*◌, length, drop, arith}
use mathlib.Core.List.{Memᴰ}
use Rattle.finite.specs.Tests.{same}
use Rattle.std.proofs.lemmas.Bool.{not-true}
use Rattle.finite.proofs.Tests.{same_is, and_l, and_r, cond_yes, cond_no}
use Rattle.columns.specs.Fields.{same_bytes}
use Rattle.columns.specs.Writing.{written}
use Rattle.columns.proofs.Bytes.{same_eq}
use Rattle.histories.specs.Words.{words}
use Rattle.std.specs.Prelude.{Result, Ok, Err}
use Rattle.refusals.specs.declared.Refusal.{Refusal}
use Rattle.refusals.specs.Numbers.{number, refused}
use Rattle.refusals.proofs.Numbers.{some, is_refusal}
use Rattle.network.specs.inner.Accepted.{NoOthers}
use Rattle.family.specs.Families.{Contents, family_in}
use Rattle.family.specs.Reports.{report_in}
use Rattle.score.specs.Contents.{contents_of}
use Rattle.score.specs.Refusals.{refusal}
use Rattle.answer.specs.Outcome.{result_by, scratch_by, Outcome}
use Rattle.sheet_rows.specs.Rows.{Row, Known}
use Rattle.score.proofs.Promises.{no_others}
use Rattle.sheet_rows.proofs.Frozen.{frozen_contents, contents_frozen, refusal_with, refusal_is, frozen_family, family_frozen, frozen_report, report_frozen}

-- what a sheet with the contents X, of which refusal k is the first that applies, answers and leaves, by the row
pub record Agrees (k : ℕ) (X : Contents) (r : Row) (a : Result ℕ Refusal) : Type 0 where
  pub refusal : k ≡ refused a
  pub report : k ≡ 0 → Ok (length (report_in X)) ≡ a
  pub result : (d : List ℕ) → result_by k (report_in X) d ≡ written d r.report
  pub scratch : (u : List ℕ) → scratch_by k X u ≡ r.words ++ drop (length r.words) u

module _ (k : ℕ) (X : Contents) (r : Row) where
  unfoldable pub reports : ℕ → Bool
  reports b = same k 0 && (same (length r.report) b && (same (X.genes.count * X.nodes.size) (length r.words)
      && (same_bytes (frozen_report X) r.report && same_bytes (words (frozen_family X)) r.words)))

  unfoldable pub refuses : ℕ → Bool
  refuses j = same k j && (not (same k 0) && (same_bytes r.report [] && same_bytes r.words []))

  unfoldable pub agrees : Result ℕ Refusal → Bool
  agrees (Ok b) = reports b
  agrees (Err x) = refuses (number x)

  by_report : (b : ℕ) → same k 0 ≡ true → length r.report ≡ b → X.genes.count * X.nodes.size ≡ length r.words → report_in X ≡ r.report → words (family_in X) ≡ r.words → Agrees k X r (Ok b)
  unfolding result_by scratch_by
  by_report b none long table report costs = record {
    refusal = same_is k 0 none;
    report = λ _. ap Ok (ap length report ∙ long);
    result = λ d. cond_yes (same k 0) _ _ _ none (ap (written d) report);
    scratch = λ u. cond_yes (same k 0) _ _ _ none (ap₂ (λ (w : List ℕ) (i : ℕ). w ++ drop i u) costs table);
  }

  by_refusal : (x : Refusal) → k ≡ number x → same k 0 ≡ false → r.report ≡ [] → r.words ≡ [] → Agrees k X r (Err x)
  unfolding result_by scratch_by written
  by_refusal x e other report costs = record {
    refusal = e;
    report = λ z. absurd (omega (arith, some x, e));
    result = λ d. cond_no (same k 0) _ _ _ other (sym (ap (written d) report));
    scratch = λ u. cond_no (same k 0) _ _ _ other (sym (ap (λ (w : List ℕ). w ++ drop (length w) u) costs));
  }

  from_reports : (b : ℕ) → NoOthers X.nodes → reports b ≡ true → Agrees k X r (Ok b)
  unfolding reports
  from_reports b o p =
      let p₁ = and_r (same k 0) _ p in
      let p₂ = and_r (same (length r.report) b) _ p₁ in
      let p₃ = and_r (same (X.genes.count * X.nodes.size) (length r.words)) _ p₂ in
      by_report b (and_l (same k 0) _ p) (same_is _ _ (and_l _ _ p₁)) (same_is _ _ (and_l _ _ p₂))
      (report_frozen X o ∙ same_eq _ _ (and_l (same_bytes (frozen_report X) r.report) _ p₃))
      (sym (ap words (family_frozen X)) ∙ same_eq _ _ (and_r (same_bytes (frozen_report X) r.report) _ p₃))

  from_refuses : (x : Refusal) → refuses (number x) ≡ true → Agrees k X r (Err x)
  unfolding refuses
  from_refuses x p =
      let j : ℕ = number x in
      let p₁ = and_r (same k j) _ p in
      let p₂ = and_r (not (same k 0)) _ p₁ in
      by_refusal x (same_is k j (and_l (same k j) _ p)) (not-true _ (and_l (not (same k 0)) _ p₁))
      (same_eq _ _ (and_l (same_bytes r.report []) _ p₂)) (same_eq _ _ (and_r (same_bytes r.report []) _ p₂))

  from_agrees : (a : Result ℕ Refusal) → NoOthers X.nodes → agrees a ≡ true → Agrees k X r a
  unfolding agrees
  from_agrees (Ok b) o p = from_reports b o p
  from_agrees (Err x) o p = from_refuses x p

-- the test of a row with given contents, and of a row
unfoldable pub passes_with : Row → Contents → Bool
passes_with r X = agrees (refusal_with r.sheet r.result r.scratch X) X r r.answer

unfoldable pub passes : Row → Bool
passes r = passes_with r (frozen_contents r.sheet)

unfoldable pub all_pass : List Row → Bool
all_pass [] = true
all_pass (r ∷ rs) = passes r && all_pass rs

row_agrees : (r : Row) → passes r ≡ true → Agrees (refusal r.sheet r.result r.scratch) (contents_of r.sheet) r r.answer
unfolding passes passes_with
row_agrees r p =
    let q = subst (λ (X : Contents). passes_with r X ≡ true) (contents_frozen r.sheet) p in
    subst (λ (k : ℕ). Agrees k (contents_of r.sheet) r r.answer) (refusal_is r.sheet r.result r.scratch) (from_agrees _ (contents_of r.sheet) r r.answer (no_others r.sheet) q)

-- the answer of an outcome is the row's
answered : (k : ℕ) (X : Contents) (d e u t : List ℕ) (a b : Result ℕ Refusal) → Outcome k X d e u t a → k ≡ refused b → (k ≡ 0 → Ok (length (report_in X)) ≡ b) → a ≡ b
answered k X d e u t a (Ok n) o z report = o.report z ∙ report z
answered k X d e u t a (Err x) o z report = is_refusal a x (o.refusal ∙ z)

known : (r : Row) → passes r ≡ true → Known r
known r p = record {
  outcome = λ d e u t a long ample promise.
      let A = subst (λ (k : ℕ). Agrees k (contents_of r.sheet) r r.answer) (sym (ap₂ (refusal r.sheet) long ample)) (row_agrees r p) in
      record {
        answer = answered _ _ _ _ _ _ a r.answer promise.outcome A.refusal A.report;
        result = promise.outcome.result ∙ A.result d;
        scratch = promise.outcome.scratch ∙ A.scratch u;
      };
}

-- a table all of whose rows pass
pub all_known : (rs : List Row) → all_pass rs ≡ true → (r : Row) → Memᴰ r rs → Known r
unfolding all_pass
all_known [] t r m = elim m [ ]
all_known (x ∷ xs) t r (Memᴰ.head e) = subst Known (sym e) (known x (and_l (passes x) _ t))
all_known (x ∷ xs) t r (Memᴰ.tail m) = all_known xs (and_r (passes x) (all_pass xs) t) r m

-- whoever unfolds this unfolds the tests of this file
unfoldable pub open_Rows : Unit {0}
unfolding reports refuses agrees passes_with passes all_pass
open_Rows = tt
