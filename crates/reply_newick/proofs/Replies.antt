-- The answer of the call to what was read is told as the reply to the whole sheet and the whole text, cut behind their rooms (proofs/Cutting); and a text that
-- is refused by 14 was read whole, so its last byte is the last one read.
-- Assumes nothing.
use Rattle.std.proofs.Common.{◌≡◌, sym, ◌∙◌, ap, subst, Bool, ◌&&◌, List, [], ◌∷◌, ℕ, ◌<◌, arith, length, take, take_all, eqb, Result}
use Rattle.std.specs.List.{ends_with}
use Rattle.finite.specs.Tests.{same}
use Rattle.finite.proofs.Cases.{by_less}
use Rattle.finite.proofs.Tests.{not_same}
use Rattle.family.specs.Buffers.{least_words, least_bytes}
use Rattle.refusals.specs.declared.Refusal.{Refusal}
use Rattle.refusals.specs.Numbers.{refused}
use Rattle.family.specs.Reports.{report_in}
use Rattle.score_newick.specs.Refusals.{contents_of, refusal}
use Rattle.score_newick.specs.Outcome.{Promise}
use Rattle.reply.specs.Replies.{longest_sheet, reply_by, Writes, ReadInto}
use Rattle.reply.specs.inner.Told.{told_in, told_bytes}
use Rattle.reply.proofs.Replying.{Alike, then_alike, writes, told_fits}
use Rattle.reply_newick.specs.Replies.{longest_text, reply_of, ends_in_feed, Replied}
use Rattle.reply_newick.proofs.Cutting.{verdict_of, not_14, cut_sheet, cut_text}

module _ (sheet tree : List ℕ) (sheet_bytes tree_bytes : ℕ) {d e u t : List ℕ} {r : Result ℕ Refusal}
    (long : longest_sheet < length sheet) (long_tree : longest_text < length tree) (ld : length d ≡ least_bytes) (lu : length u ≡ least_words)
    (p : Promise (take sheet_bytes sheet) (take tree_bytes tree) d e u t r) where
  abbrev s : List ℕ
  s = take sheet_bytes sheet

  abbrev x : List ℕ
  x = take tree_bytes tree

  written_reply : Writes (reply_of s x) d (told_in e r) (told_bytes r)
  unfolding reply_of refusal
  written_reply = subst (λ (k : ℕ). Writes (reply_by (refusal s x k least_words) (report_in (contents_of s x))) d (told_in e r) (told_bytes r)) ld
      (subst (λ (k : ℕ). Writes (reply_by (refusal s x (length d) k) (report_in (contents_of s x))) d (told_in e r) (told_bytes r)) lu (writes r p.call))

  -- the verdict that the answer tells
  verdict_is : refused r ≡ verdict_of s x
  unfolding refusal
  verdict_is = p.call.outcome.refusal ∙ ap (λ (k : ℕ). refusal s x k (length u)) ld ∙ ap (λ (k : ℕ). refusal s x least_bytes k) lu

  -- a sheet and a text that were read into the two rooms
  module _ (w y : List ℕ) (read : ReadInto sheet sheet_bytes w) (read_tree : ReadInto tree tree_bytes y) where
    alike : Alike (verdict_of s x) (report_in (contents_of s x)) (verdict_of w y) (report_in (contents_of w y))
    alike = rw (← read, ← read_tree) (then_alike (cut_sheet (take (length tree) y) w (length sheet) long) (cut_text w y (length tree) long_tree))

    same_reply : reply_of s x ≡ reply_of w y
    unfolding reply_of
    same_reply = alike.reply

    same_feed : ends_in_feed s x ≡ ends_in_feed w y
    unfolding ends_in_feed
    same_feed = by_less longest_text (length y)
        (λ l. let a = not_14 w y l in rw (not_same (λ q. a (sym alike.verdict ∙ q)), not_same a))
        (λ l. let q : x ≡ y = sym read_tree ∙ take_all (length tree) y (omega arith) in rw (alike.verdict, q))

  pub replied : {z : List ℕ} {b : ℕ} {feed : Bool} → z ≡ told_in e r → b ≡ told_bytes r
      → feed ≡ same (refused r) 14 && ends_with eqb x (10 ∷ []) → Replied sheet sheet_bytes tree tree_bytes d z (record { bytes = b; line_feed = feed })
  unfolding ends_in_feed
  replied ez eb ef = rw (ez, eb) (record {
    replies = λ w y g h. subst (λ (l : List ℕ). Writes l d (told_in e r) (told_bytes r)) (same_reply w y g h) written_reply;
    fits = told_fits r p.call (omega arith);
    line_feed = λ w y g h. ef ∙ rw verdict_is (same_feed w y g h);
  })
