-- Cutting a sheet behind the room of the longest, or a text behind 574 bytes, leaves the verdict and the reply as they were: the sheet as in crate reply, and
-- a text that is longer has refusal 15 before and after, unless one that is checked before it applies.
-- Assumes nothing.
use Rattle.std.proofs.Common.{◌≡◌, ◌≢◌, refl, sym, ◌∙◌, ap, true, false, List, ◌++◌, ℕ, ◌<◌, arith, length, take, length-take-le, take_all, Err}
use Rattle.finite.specs.Refusals.{Refusal, verdict}
use Rattle.finite.proofs.Cases.{by_eq, by_less}
use Rattle.finite.proofs.Refusals.{verdict_first, verdict_tail, verdict_idle}
use Rattle.finite.proofs.Tests.{is_under, not_same}
use Rattle.family.specs.Buffers.{least_words, least_bytes}
use Rattle.family.specs.Reports.{report_in}
use Rattle.layout.specs.declared.Header.{Header}
use Rattle.sheet.specs.Sheets.{refusal3}
use Rattle.network.specs.Refusals.{network_refusals}
use Rattle.components.specs.Refusals.{component_refusals}
use Rattle.newick.specs.Answers.{tree_refusals}
use Rattle.newick.specs.Reading.{answer_of}
use Rattle.newick.proofs.Answers.{tree_tells, tree_verdict}
use Rattle.refusals.specs.declared.Refusal.TheVariants.{LargeGeneTree}
use Rattle.refusals.specs.Numbers.{refused}
use Rattle.score.specs.Refusals.{buffer_refusals}
use Rattle.score_newick.specs.Sheets.{refusal4, refusal5}
use Rattle.score_newick.specs.Refusals.{sheet_refusals, curator_refusals, contents_of, refusals, refusal}
use Rattle.score_newick.proofs.Readings.{four_passes}
use Rattle.score_newick.proofs.Refusals.{only_its_own, refusal_3, refusal_4, refusal_5, curators_pass, none_passes, no_others}
use Rattle.reply.specs.Replies.{longest_sheet}
use Rattle.reply.proofs.Replying.{Alike, alike_refused}
use Rattle.reply.proofs.Cutting.{space, header_kept, limits_kept, too_long, cut_by}
use Rattle.reply_newick.specs.Replies.{longest_text}

-- with buffers that 1 and 2 do not refuse
abbrev pub verdict_of : (s x : List ℕ) → ℕ
verdict_of s x = refusal s x least_bytes least_words

-- what is written where none refuses
abbrev pub report_of : (s x : List ℕ) → List ℕ
report_of s x = report_in (contents_of s x)

-- the sheet
four_kept : (s : List ℕ) (k : ℕ) → longest_sheet < k → k < length s → refusal3 s ≡ false → refusal4 (take k s) ≡ refusal4 s
unfolding refusal4
four_kept s k l h f = rw (limits_kept s k l h f, ap (λ (h : Header). h.genes) (header_kept s k l h f))

five_beyond : (t : List ℕ) → longest_sheet < length t → refusal3 t ≡ false → refusal4 t ≡ false → refusal5 t ≡ true
unfolding refusal5
five_beyond t l f e = let w = (four_passes t e).0 in rw (too_long t _ 0 l w.few_nodes (omega arith))

pub cut_sheet : (x s : List ℕ) (k : ℕ) → longest_sheet < k → Alike (verdict_of (take k s) x) (report_of (take k s) x) (verdict_of s x) (report_of s x)
cut_sheet x s k l = cut_by (λ s. verdict_of s x) (λ s. report_of s x) refusal4 refusal5
    (λ t. refusal_3 t x least_bytes least_words space (omega arith))
    (λ t. refusal_4 t x least_bytes least_words space (omega arith))
    (λ t. refusal_5 t x least_bytes least_words space (omega arith))
    four_kept five_beyond s k l

-- a text that is too long
module _ (s x : List ℕ) (long : longest_text < length x) where
  answer_15 : answer_of x ≡ Err LargeGeneTree
  unfolding answer_of
  answer_15 = rw (is_under long)

  fifteen : (rest : List Refusal) → verdict (tree_refusals x ++ rest) ≡ 15
  fifteen rest = verdict_first (tree_refusals x) rest (tree_tells x) 15 (λ z. omega arith) (tree_verdict x ∙ ap refused answer_15)

  -- so none is scored
  pub some_refusal : verdict_of s x ≢ 0
  some_refusal e =
      let p = none_passes x (contents_of s x) (no_others s x least_bytes least_words) (curators_pass s x least_bytes least_words e) in
      omega (arith, sym (ap refused answer_15) ∙ p.1)

  -- nor refused by 14
  pub not_14 : verdict_of s x ≢ 14
  unfolding refusal
  not_14 = verdict_idle 14 (refusals s x least_bytes least_words)
      (only_its_own s x least_bytes least_words 14 (omega arith) (λ e. omega arith) (omega arith) (λ e. absurd (omega arith)) (λ _. rw answer_15 (not_same {m = 15} {n = 14} (λ z. omega arith))))
      (λ z. omega arith)

-- two of them
module _ (s x y : List ℕ) (long_x : longest_text < length x) (long_y : longest_text < length y) where
  same_verdict : verdict_of s x ≡ verdict_of s y
  unfolding refusal refusals curator_refusals
  same_verdict = verdict_tail (buffer_refusals least_words least_bytes least_bytes least_words) _ _ (verdict_tail (sheet_refusals s) _ _
      (verdict_tail (network_refusals (contents_of s x).nodes) _ _ (verdict_tail (component_refusals (contents_of s x).nodes) _ _
      (fifteen s x long_x _ ∙ sym (fifteen s y long_y _)))))

  pub same_long : Alike (verdict_of s x) (report_of s x) (verdict_of s y) (report_of s y)
  same_long = by_eq (verdict_of s x) 0
      (λ z. absurd (some_refusal s x long_x z))
      (λ d. alike_refused (verdict_of s x) (report_of s x) (report_of s y) (omega arith) refl (sym same_verdict))

pub cut_text : (s x : List ℕ) (k : ℕ) → longest_text < k → Alike (verdict_of s (take k x)) (report_of s (take k x)) (verdict_of s x) (report_of s x)
cut_text s x k l = by_less k (length x)
    (λ more. same_long s (take k x) x (omega (arith, length-take-le k x (omega arith))) (omega arith))
    (λ u. rw (take_all k x u) (record { verdict = refl; reply = refl }))
