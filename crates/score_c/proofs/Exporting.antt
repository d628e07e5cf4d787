-- The number that is returned tells the answer: what a call promises it promises of that answer, and a number below a report's least bytes is a refusal's,
-- since the promise of crate answer keeps the two apart.
-- Assumes nothing.
use Rattle.std.proofs.Common.{Result, ℕ, ◌≡◌, ◌≤◌, ◌<◌, List, subst}
use Rattle.finite.specs.Refusals.{least_report, Refusal}
use Rattle.family.specs.Families.{Contents}
use Rattle.refusals.specs.declared.Refusal.{Refusal as Reason}
use Rattle.answer.specs.Outcome.{number_of, PromiseWriting}
use Rattle.answer.proofs.Answers.{below_refused, above_report}
use Rattle.score_c.specs.Exported.{Exported}

-- a call with a promise P of its answer, which is of crate answer or has that of it
pub exported : (P : Result ℕ Reason → Type 0) {n : ℕ} {rs : List Refusal} {X : Contents} {piece d e u t : List ℕ} {r : Result ℕ Reason} {k : ℕ}
    → P r → PromiseWriting n rs X piece d e u t r → k ≡ number_of r → Exported P k
exported P {r = r} h p e = record {
  answer = r;
  promise = h;
  told = e;
  below = λ l. below_refused r p (subst (λ (x : ℕ). x < least_report) e l);
  above = λ l. above_report r p (subst (λ (x : ℕ). least_report ≤ x) e l);
}
