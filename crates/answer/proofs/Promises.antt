-- The promise of a call follows from its outcome: the verdict says which refusal is the first, the refusals' conditions say when that is, and contents
-- that none applies to are those of which the theorems on the optimum and on histories speak.
-- Assumes nothing.
use Rattle.std.proofs.Common.{ℕ, ◌≤◌, ◌≡◌, refl, sym, ◌∙◌, subst, ◌≢◌, List, length, arith}
use Rattle.finite.specs.Refusals.{least_report, Refusal, verdict, AllTell}
use Rattle.finite.proofs.Tests.{is_same, not_same}
use Rattle.finite.proofs.Refusals.{told_first, told_none, first_told, none_told, verdict_small}
use Rattle.acceptance.specs.inner.Admitted.{Admitted}
use Rattle.family.specs.Families.{Contents}
use Rattle.family.specs.Reports.{report_in}
use Rattle.family.proofs.Reported.{is_reported, report_least}
use Rattle.std.specs.Prelude.{Result, Ok, Err}
use Rattle.refusals.specs.declared.Refusal.{Refusal as Reason}
use Rattle.refusals.specs.Numbers.{number}
use Rattle.refusals.proofs.Numbers.{some, is_refusal}
use Rattle.answer.specs.Outcome.{result_by, scratch_by, OutcomeWriting, Outcome, IsRefused, IsWritten, Says, PromiseWriting, Promise}

-- refusals whose tests tell their conditions, numbered up to n, and contents that are admitted where none applies
module _ (n : ℕ) (rs : List Refusal) (X : Contents) (tells : AllTell rs) (numbers : verdict rs ≤ n) (admitted : verdict rs ≡ 0 → Admitted X.nodes X.genes X.costs) where
  -- a piece of the length of a report at least
  module _ (piece : List ℕ) (long : verdict rs ≡ 0 → least_report ≤ length piece) (d e u t : List ℕ) where
    refused_says : e ≡ result_by (verdict rs) piece d → t ≡ scratch_by (verdict rs) X u → verdict rs ≢ 0 → IsRefused n rs d e u t (verdict rs)
    unfolding result_by scratch_by
    refused_says er es z = record {
      low = omega arith;
      high = numbers;
      apart = verdict_small rs tells;
      first = told_first rs tells (verdict rs) z refl;
      result_kept = rw (not_same z) at er;
      scratch_kept = rw (not_same z) at es;
    }

    written_says : e ≡ result_by (verdict rs) piece d → t ≡ scratch_by (verdict rs) X u → verdict rs ≡ 0 → IsWritten rs X piece d e u t (length piece)
    unfolding result_by scratch_by
    written_says er es z = record {
      none = told_none rs tells z;
      bytes = refl;
      apart = long z;
      result_written = rw (is_same z) at er;
      scratch_written = rw (is_same z) at es;
      reported = is_reported X (admitted z);
    }

    says : (r : Result ℕ Reason) → OutcomeWriting (verdict rs) X piece d e u t r → Says n rs X piece d e u t r
    says (Ok b) o = let z : verdict rs ≡ 0 = sym o.refusal in
        subst (λ (a : Result ℕ Reason). Says n rs X piece d e u t a) (sym (o.report z)) (written_says o.result o.scratch z)
    says (Err x) o = rw o.refusal (refused_says o.result o.scratch (λ z. omega (arith, some x, o.refusal)))

    pub promise_writing : (r : Result ℕ Reason) → OutcomeWriting (verdict rs) X piece d e u t r → PromiseWriting n rs X piece d e u t r
    promise_writing r o = record {
      says = says r o;
      refuses = λ x f. is_refusal r x (o.refusal ∙ first_told rs tells (number x) f);
      scores = λ none. o.report (none_told rs tells none);
      outcome = o;
    }

  -- where the piece is the report
  pub promise : (d e u t : List ℕ) (r : Result ℕ Reason) → Outcome (verdict rs) X d e u t r → Promise n rs X d e u t r
  promise = promise_writing (report_in X) (λ z. report_least X (admitted z))
