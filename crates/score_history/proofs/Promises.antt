-- The promise of the call follows from its outcome (crate score). Where no refusal applies, none of the plain call does, since that asks for a smaller result;
-- so both promises say what is written, and the lines of the history stand behind the report.
-- Assumes nothing.
use Rattle.std.proofs.Common.{ℕ, ◌≡◌, refl, sym, ap, ◌∙◌, List, length, arith, Result, Ok}
use Rattle.finite.specs.Refusals.{verdict}
use Rattle.columns.specs.Writing.{put}
use Rattle.columns.proofs.Writing.{put_written}
use Rattle.refusals.specs.declared.Refusal.{Refusal}
use Rattle.refusals.specs.Numbers.{refused}
use Rattle.family.specs.Families.{Contents}
use Rattle.family.specs.Reports.{report_in}
use Rattle.answer.proofs.Answers.{says_of}
use Rattle.score.specs.Contents.{contents_of}
use Rattle.score.specs.Refusals.{refusals_of}
use Rattle.score.specs.Outcome.{PromiseOfSheet}
use Rattle.score.specs.inner.Stages.{OutcomeOf}
use Rattle.score.proofs.Refusals.{pass_smaller}
use Rattle.score.proofs.Promises.{admitted, promise_of_sheet}
use Rattle.score_history.specs.Buffers.{least_bytes}
use Rattle.score_history.specs.Outcome.{history_in, bytes_in, WithHistory, Promise}
use Rattle.score_history.proofs.Bytes.{shown, few, long}

module _ (s d e u t : List ℕ) (r : Result ℕ Refusal) (o : OutcomeOf least_bytes bytes_in s d e u t r) where
  abbrev X : Contents
  X = contents_of s

  call : PromiseOfSheet least_bytes bytes_in s d e u t r
  call = promise_of_sheet least_bytes bytes_in long s d e u t r o

  with_history : (bytes : ℕ) → r ≡ Ok bytes → WithHistory s d e u t r bytes
  with_history bytes q =
      let z : verdict (refusals_of least_bytes s (length d) (length u)) ≡ 0 = sym o.refusal ∙ ap refused q in
      let i = says_of call q in
      record {
        shown = shown X (admitted _ s _ _ z);
        few = omega (arith, i.bytes, few X (admitted _ s _ _ z));
        plain = λ e' t' a p.
            let y = p.outcome.report (pass_smaller _ _ s _ _ (omega arith) z) in
            let j = says_of p y in (
              length (report_in X),
              y,
              i.result_written ∙ sym (put_written d (report_in X) (history_in X) _ refl) ∙ ap (λ (x : List ℕ). put x (length (report_in X)) (history_in X)) (sym j.result_written),
              i.scratch_written ∙ sym j.scratch_written,
            );
      }

  pub promise : Promise s d e u t r
  promise = record { call = call; with_history = with_history }
