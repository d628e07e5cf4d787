-- The answer of a verdict, and what follows from the promise for who has an answer in hand: which verdict it tells, that a report fits the result, and
-- that its number is apart from every refusal's.
-- Assumes nothing.
use Rattle.std.proofs.Common.{ℕ, ◌≤◌, ◌<◌, ◌≡◌, refl, sym, ap, ◌∙◌, subst, ◌≢◌, List, length, drop, length-append, arith}
use Rattle.finite.specs.Tests.{same}
use Rattle.finite.specs.Refusals.{least_report, Refusal, verdict, First}
use Rattle.finite.proofs.Refusals.{first_one, first_none}
use Rattle.finite.proofs.Tests.{not_same}
use Rattle.columns.specs.Writing.{written}
use Rattle.family.specs.Families.{Contents}
use Rattle.family.specs.inner.Stages.{Overwritten}
use Rattle.std.specs.Prelude.{Result, Ok, Err}
use Rattle.refusals.specs.declared.Refusal.{Refusal as Reason}
use Rattle.refusals.specs.Numbers.{number, refused}
use Rattle.refusals.proofs.Numbers.{some, is_refusal}
use Rattle.answer.specs.Outcome.{number_of, result_by, scratch_by, OutcomeWriting, IsWritten, Says, PromiseWriting}

-- what the promise says of an answer in hand
module _ {n : ℕ} {rs : List Refusal} {X : Contents} {piece d e u t : List ℕ} {r : Result ℕ Reason} (p : PromiseWriting n rs X piece d e u t r) where
  pub says_of : {a : Result ℕ Reason} → r ≡ a → Says n rs X piece d e u t a
  says_of q = subst (λ (x : Result ℕ Reason). Says n rs X piece d e u t x) q p.says

  -- the verdict that it tells
  pub verdict_report : {b : ℕ} → r ≡ Ok b → verdict rs ≡ 0
  verdict_report q = sym p.outcome.refusal ∙ ap refused q

  pub verdict_refused : {x : Reason} → r ≡ Err x → verdict rs ≡ number x
  verdict_refused q = sym p.outcome.refusal ∙ ap refused q

  -- a report fits the result
  pub report_fits : {b : ℕ} → r ≡ Ok b → b ≤ length e
  unfolding written
  report_fits {b} q =
      let i : IsWritten rs X piece d e u t b = says_of q in
      omega (arith, i.bytes, ap length i.result_written, length-append piece (drop (length piece) d))

-- the numbers of refusals and of reports are apart
module _ {n : ℕ} {rs : List Refusal} {X : Contents} {piece d e u t : List ℕ} where
  pub below_refused : (r : Result ℕ Reason) → PromiseWriting n rs X piece d e u t r → number_of r < least_report → (x : Reason) × (r ≡ Err x)
  below_refused (Ok b) p l = absurd (omega (arith, p.says.apart))
  below_refused (Err x) p l = (x, refl)

  pub above_report : (r : Result ℕ Reason) → PromiseWriting n rs X piece d e u t r → least_report ≤ number_of r → (b : ℕ) × (r ≡ Ok b)
  above_report (Ok b) p l = (b, refl)
  above_report (Err x) p l = absurd (omega (arith, p.says.apart))

-- whatever number k is the first refusal's, it is the answer's: `refuses` of the promise, said of the number in place of the name
pub refuses_number : {n : ℕ} {rs : List Refusal} {X : Contents} {piece d e u t : List ℕ} {r : Result ℕ Reason} → PromiseWriting n rs X piece d e u t r → (k : ℕ) → First rs k → number_of r ≡ k
refuses_number {n} {rs} {X} {piece} {d} {e} {u} {t} {r} p k f = go r p.says
  where
    go : (a : Result ℕ Reason) → Says n rs X piece d e u t a → number_of a ≡ k
    go (Ok b) s = absurd (first_none rs k f s.none)
    go (Err x) s = first_one rs (number x) k s.first f

-- the outcome of each way out of a call
pub refuses : (q : ℕ) (x : Reason) (X : Contents) {piece : List ℕ} (d u : List ℕ) → q ≡ number x → OutcomeWriting q X piece d d u u (Err x)
unfolding result_by scratch_by
refuses q x X d u e = let z : q ≢ 0 = λ w. omega (arith, some x) in record {
  refusal = sym e;
  report = λ w. absurd (z w);
  result = rw (not_same z);
  scratch = rw (not_same z);
}

pub reports : (q : ℕ) (X : Contents) {piece : List ℕ} (d e u t : List ℕ) (r : ℕ) → q ≡ 0 → Overwritten X piece d e u t r → OutcomeWriting q X piece d e u t (Ok r)
unfolding result_by scratch_by same
reports q X d e u t r z w = rw z (record { refusal = refl; report = λ _. ap Ok w.bytes; result = w.result; scratch = w.scratch })

-- the promise settles the answer and both buffers: two calls from the same buffers, with the same refusals, contents and piece, come to the same
pub settled : {n : ℕ} {rs : List Refusal} {X : Contents} {piece d e u t e' t' : List ℕ} {r r' : Result ℕ Reason} → PromiseWriting n rs X piece d e u t r → PromiseWriting n rs X piece d e' u t' r' → (r ≡ r') × (e ≡ e') × (t ≡ t')
settled {n} {rs} {X} {piece} {d} {e} {u} {t} {e'} {t'} {r} {r'} p q = (go r refl, p.outcome.result ∙ sym q.outcome.result, p.outcome.scratch ∙ sym q.outcome.scratch)
  where
    go : (a : Result ℕ Reason) → r ≡ a → r ≡ r'
    go (Ok b) z = p.outcome.report (verdict_report p z) ∙ sym (q.outcome.report (verdict_report p z))
    go (Err x) z = z ∙ sym (is_refusal r' x (q.outcome.refusal ∙ verdict_refused p z))
