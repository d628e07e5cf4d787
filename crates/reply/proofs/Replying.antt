-- What is written for an answer is the reply: the answer tells the verdict, so the report, or the line of the refusal, is the one that the definition chooses.
-- Assumes nothing.
use Rattle.std.proofs.Common.{◌≡◌, refl, sym, ◌∙◌, ap, List, ℕ, ◌≤◌, arith, length}
use Rattle.std.specs.Prelude.{Result, Ok, Err}
use Rattle.finite.specs.Refusals.{Refusal, verdict}
use Rattle.finite.proofs.Tests.{is_same, not_same}
use Rattle.columns.specs.Writing.{written}
use Rattle.columns.proofs.Writing.{length_written}
use Rattle.family.specs.Families.{Contents}
use Rattle.refusals.specs.declared.Refusal.{Refusal as Reason}
use Rattle.refusals.specs.Numbers.{number}
use Rattle.refusals.proofs.Numbers.{some}
use Rattle.answer.specs.Outcome.{PromiseWriting, IsWritten, IsRefused}
use Rattle.answer.proofs.Answers.{report_fits, verdict_report, verdict_refused}
use Rattle.reply.specs.Refused.{refused_line}
use Rattle.reply.specs.Replies.{reply_by, Writes}
use Rattle.reply.specs.inner.Told.{told_in, told_bytes}
use Rattle.reply.proofs.Told.{length_line}

-- the reply of a verdict
pub written_reply : (piece : List ℕ) {k : ℕ} → k ≡ 0 → reply_by k piece ≡ piece
unfolding reply_by
written_reply piece z = rw (is_same z)

pub refused_reply : (piece : List ℕ) {k j : ℕ} → 1 ≤ j → k ≡ j → reply_by k piece ≡ refused_line j
unfolding reply_by
refused_reply piece {k} {j} l e = rw (e, not_same {m = j} {n = 0} (λ z. omega arith))

-- two verdicts, each with what is written where it is 0, that come to one reply
pub record Alike (j : ℕ) (p : List ℕ) (k : ℕ) (q : List ℕ) : Type 0 where
  pub verdict : j ≡ k
  pub reply : reply_by j p ≡ reply_by k q

-- as where both are a refusal, or where one is the other
pub alike_refused : (i : ℕ) (p q : List ℕ) {j k : ℕ} → 1 ≤ i → j ≡ i → k ≡ i → Alike j p k q
alike_refused i p q l a b = record { verdict = a ∙ sym b; reply = refused_reply p l a ∙ sym (refused_reply q l b) }

pub then_alike : {i j k : ℕ} {p q r : List ℕ} → Alike i p j q → Alike j q k r → Alike i p k r
then_alike a b = record { verdict = a.verdict ∙ b.verdict; reply = a.reply ∙ b.reply }

-- the promise of any call, of whatever result it was lent
module _ {n : ℕ} {rs : List Refusal} {X : Contents} {piece d e u t : List ℕ} where
  pub writes : (r : Result ℕ Reason) → PromiseWriting n rs X piece d e u t r → Writes (reply_by (verdict rs) piece) d (told_in e r) (told_bytes r)
  writes (Ok b) p =
      let i : IsWritten rs X piece d e u t b = p.says in
      let q = written_reply piece (verdict_report p refl) in
      record { output = i.result_written ∙ ap (written d) (sym q); length_is = i.bytes ∙ ap length (sym q) }
  writes (Err x) p =
      let i : IsRefused n rs d e u t (number x) = p.says in
      let q = refused_reply piece (some x) (verdict_refused p refl) in
      record { output = ap (λ (z : List ℕ). written z (refused_line (number x))) i.result_kept ∙ ap (written d) (sym q); length_is = ap length (sym q) }

  -- what is told fits the result, which has room for the line of a refusal before and after the call
  pub room_kept : (r : Result ℕ Reason) → PromiseWriting n rs X piece d e u t r → 14 ≤ length d → 14 ≤ length e
  room_kept (Ok b) p l = let i : IsWritten rs X piece d e u t b = p.says in omega (arith, i.apart, report_fits p refl)
  room_kept (Err x) p l = let i : IsRefused n rs d e u t (number x) = p.says in omega (arith, ap length i.result_kept)

  pub told_fits : (r : Result ℕ Reason) → PromiseWriting n rs X piece d e u t r → 14 ≤ length d → told_bytes r ≤ length (told_in e r)
  told_fits (Ok b) p l = report_fits p refl
  told_fits (Err x) p l =
      let line = refused_line (number x) in
      let h : 14 ≤ length e = room_kept (Err x) p l in
      omega (arith, length_line (number x), length_written e line (omega (arith, length_line (number x))))
