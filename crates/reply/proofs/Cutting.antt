-- Cutting a text behind the room of the longest sheet does not change its reply: its header line stays, and a text that is longer than any sheet is refused
-- by 3, 4 or 5, before and after.
-- Assumes nothing.
use Rattle.std.proofs.Common.{◌≡◌, refl, sym, ◌∙◌, ap, Bool, true, false, not, List, ℕ, ◌*◌, ◌≤◌, ◌<◌, arith, length, take, drop, length-take-le, take-take, take_all}
use Rattle.finite.specs.Refusals.{verdict}
use Rattle.finite.proofs.Cases.{by_bool, by_less}
use Rattle.finite.proofs.Tests.{not_same}
use Rattle.text_lines.specs.Lines.{line_length}
use Rattle.family.specs.Buffers.{least_words}
use Rattle.family.specs.Families.{Contents}
use Rattle.layout.specs.declared.Header.{Header}
use Rattle.sheet.specs.Sheets.{line_no, Line, header_in, limits, whole, refusal3, refusal4, refusal5}
use Rattle.sheet.proofs.Refusals.{reading_3, header_line, header_same, within_limits}
use Rattle.score.specs.Contents.{contents_of}
use Rattle.score.specs.Refusals.{refusals_of}
use Rattle.score.proofs.Refusals.{early, refusal_3, refusal_4, refusal_5}
use Rattle.reply.specs.Replies.{longest_sheet, reply_with}
use Rattle.reply.proofs.Replying.{Alike, alike_refused}

-- a text and a front of it that has more bytes than the longest sheet
module _ (s : List ℕ) (k : ℕ) (long : longest_sheet < k) (more : k < length s) where
  abbrev front : List ℕ
  front = take k s

  front_long : length front ≡ k
  front_long = length-take-le k s (omega arith)

  -- the first line is the same
  first_line : take line_length (drop (line_length * 0) front) ≡ take line_length (drop (line_length * 0) s)
  first_line = take-take line_length k s (omega arith)

  to_line : (ns : List ℕ) → Line s 0 ns → Line front 0 ns
  to_line ns l = record { small = l.small; bytes = first_line ∙ l.bytes }

  from_line : (ns : List ℕ) → Line front 0 ns → Line s 0 ns
  from_line ns l = record { small = l.small; bytes = sym first_line ∙ l.bytes }

  pub three_same : refusal3 front ≡ refusal3 s
  three_same = by_bool (refusal3 s)
      (λ t. (reading_3 front).1 (λ ns l. (reading_3 s).0 t ns (from_line ns l)) ∙ sym t)
      (λ f. by_bool (refusal3 front) (λ t. absurd ((reading_3 front).0 t _ (to_line _ (header_line s f)))) (λ e. e) ∙ sym f)

  -- and so are its numbers, where it is a line
  pub header_kept : refusal3 s ≡ false → header_in front ≡ header_in s
  header_kept f = sym (header_same s _ (from_line _ (header_line front (three_same ∙ f))))

  pub limits_kept : refusal3 s ≡ false → limits (line_no front 0).line ≡ limits (line_no s 0).line
  unfolding limits
  limits_kept f = let e = header_kept f in rw (
    ap (λ (h : Header). h.nodes) e,
    ap (λ (h : Header). h.genes) e,
    ap (λ (h : Header). h.duplication) e,
    ap (λ (h : Header). h.transfer) e,
    ap (λ (h : Header). h.loss) e,
  )

-- no sheet is so long
pub too_long : (t : List ℕ) (n m : ℕ) → longest_sheet < length t → n ≤ 127 → m ≤ 127 → whole t n m ≡ false
unfolding whole
too_long t n m l a b = not_same (λ e. omega arith)

-- a verdict whose refusals 3, 4 and 5 are the first that can apply: 4 by the header line, and 5 to every text that is longer than any sheet
module _ (v : List ℕ → ℕ) (piece : List ℕ → List ℕ) (test4 test5 : List ℕ → Bool)
    (by_three : (t : List ℕ) → refusal3 t ≡ true → v t ≡ 3)
    (by_four : (t : List ℕ) → refusal3 t ≡ false → test4 t ≡ true → v t ≡ 4)
    (by_five : (t : List ℕ) → refusal3 t ≡ false → test4 t ≡ false → test5 t ≡ true → v t ≡ 5)
    (kept : (s : List ℕ) (k : ℕ) → longest_sheet < k → k < length s → refusal3 s ≡ false → test4 (take k s) ≡ test4 s)
    (beyond : (t : List ℕ) → longest_sheet < length t → refusal3 t ≡ false → test4 t ≡ false → test5 t ≡ true) where
  module _ (s : List ℕ) (k : ℕ) (long : longest_sheet < k) (more : k < length s) where
    abbrev cut_s : List ℕ
    cut_s = take k s

    three : refusal3 cut_s ≡ refusal3 s
    three = three_same s k long more

    both : (j : ℕ) → 1 ≤ j → v cut_s ≡ j → v s ≡ j → Alike (v cut_s) (piece cut_s) (v s) (piece s)
    both j l a b = alike_refused j (piece cut_s) (piece s) l a b

    cut_long : Alike (v cut_s) (piece cut_s) (v s) (piece s)
    cut_long = by_bool (refusal3 s)
        (λ t. both 3 (omega arith) (by_three cut_s (three ∙ t)) (by_three s t))
        (λ f. let four = kept s k long more f in by_bool (test4 s)
        (λ t. both 4 (omega arith) (by_four cut_s (three ∙ f) (four ∙ t)) (by_four s f t))
        (λ e. both 5 (omega arith)
        (by_five cut_s (three ∙ f) (four ∙ e) (beyond cut_s (omega (arith, front_long s k long more)) (three ∙ f) (four ∙ e)))
        (by_five s f e (beyond s (omega arith) f e))))

  pub cut_by : (s : List ℕ) (k : ℕ) → longest_sheet < k → Alike (v (take k s)) (piece (take k s)) (v s) (piece s)
  cut_by s k l = by_less k (length s) (cut_long s k l) (λ u. rw (take_all k s u) (record { verdict = refl; reply = refl }))

-- the scratch that a program lends
pub space : least_words ≤ least_words
space = omega arith

-- a call on sheets
four_kept : (s : List ℕ) (k : ℕ) → longest_sheet < k → k < length s → refusal3 s ≡ false → refusal4 (take k s) ≡ refusal4 s
unfolding refusal4
four_kept s k l h f = ap not (limits_kept s k l h f)

five_beyond : (t : List ℕ) → longest_sheet < length t → refusal3 t ≡ false → refusal4 t ≡ false → refusal5 t ≡ true
unfolding refusal5
five_beyond t l f e = let w = within_limits t e in rw (too_long t _ _ l w.few_nodes w.few_genes)

pub cut : (least : ℕ) (piece : Contents → List ℕ) (s : List ℕ) (k : ℕ) → longest_sheet < k → reply_with least piece (take k s) ≡ reply_with least piece s
unfolding reply_with
cut least piece s k l = (cut_by (λ s. verdict (refusals_of least s least least_words)) (λ s. piece (contents_of s)) refusal4 refusal5
    (λ t a. early _ t _ _ 3 (omega arith) (refusal_3 _ t _ _ space (omega arith) a))
    (λ t a b. early _ t _ _ 4 (omega arith) (refusal_4 _ t _ _ space (omega arith) a b))
    (λ t a b c. early _ t _ _ 5 (omega arith) (refusal_5 _ t _ _ space (omega arith) a b c))
    four_kept five_beyond s k l).reply
