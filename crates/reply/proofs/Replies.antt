-- The answer of a call to what was read is told as the reply to the whole text: cut behind the room of the longest sheet, it has the same reply
-- (proofs/Cutting).
-- Assumes nothing.
use Rattle.std.proofs.Common.{◌≡◌, sym, ◌∙◌, ap, subst, List, ℕ, ◌≤◌, ◌<◌, arith, length, take}
use Rattle.std.specs.Prelude.{Result}
use Rattle.finite.specs.Refusals.{verdict}
use Rattle.refusals.specs.declared.Refusal.{Refusal}
use Rattle.family.specs.Buffers.{least_words}
use Rattle.family.specs.Families.{Contents}
use Rattle.score.specs.Contents.{contents_of}
use Rattle.score.specs.Refusals.{refusals_of}
use Rattle.score.specs.Outcome.{PromiseOfSheet}
use Rattle.reply.specs.Replies.{longest_sheet, reply_by, reply_with, Writes, RepliedWith}
use Rattle.reply.specs.inner.Told.{told_in, told_bytes}
use Rattle.reply.proofs.Cutting.{cut}
use Rattle.reply.proofs.Replying.{writes, told_fits}

module _ (least : ℕ) (piece : Contents → List ℕ) (text : List ℕ) (bytes : ℕ) {d e u t : List ℕ} {r : Result ℕ Refusal}
    (long : longest_sheet < length text) (ld : length d ≡ least) (lu : length u ≡ least_words) (room : 14 ≤ least)
    (p : PromiseOfSheet least piece (take bytes text) d e u t r) where
  abbrev s : List ℕ
  s = take bytes text

  written_reply : Writes (reply_with least piece s) d (told_in e r) (told_bytes r)
  unfolding reply_with
  written_reply = subst (λ (x : ℕ). Writes (reply_by (verdict (refusals_of least s x least_words)) (piece (contents_of s))) d (told_in e r) (told_bytes r)) ld
      (subst (λ (x : ℕ). Writes (reply_by (verdict (refusals_of least s (length d) x)) (piece (contents_of s))) d (told_in e r) (told_bytes r)) lu (writes r p))

  same_reply : (w : List ℕ) → take (length text) w ≡ s → reply_with least piece s ≡ reply_with least piece w
  same_reply w q = ap (reply_with least piece) (sym q) ∙ cut least piece w (length text) long

  pub replied : {y : List ℕ} {k : ℕ} → y ≡ told_in e r → k ≡ told_bytes r → RepliedWith least piece text bytes d y k
  replied ey ek = rw (ey, ek) (record {
    replies = λ w h. subst (λ (x : List ℕ). Writes x d (told_in e r) (told_bytes r)) (same_reply w h) written_reply;
    fits = told_fits r p (omega (arith, room));
  })
