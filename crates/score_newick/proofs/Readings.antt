-- The tests of 4 and 5 say what a reader of 02 would state: the header's numbers are within their limits and its m is 1, and the later lines are as many and as
-- formed as the header's n says with no gene lines.
-- Assumes nothing.
use Rattle.std.proofs.Common.{ℕ, ◌≡◌, subst, ◌↔◌, true, false, List, arith}
use Rattle.std.proofs.lemmas.Bool.{not-false}
use Rattle.finite.specs.Refusals.{AllTell, no_more, one_more}
use Rattle.finite.proofs.Cases.{by_bool, clash}
use Rattle.finite.proofs.Tests.{is_same, same_is, and_l, and_r}
use Rattle.finite.proofs.Refusals.{tell}
use Rattle.layout.specs.Headers.{WithinLimits}
use Rattle.layout.specs.declared.Header.{Header}
use Rattle.sheet.specs.Sheets.{line_no, header_in, nodes, genes, limits, formed, refusal3, WellFormed}
use Rattle.sheet.proofs.Limits.{limits_is, is_limits}
use Rattle.sheet.proofs.Refusals.{reading_3, header_line, header_same, formed_is, is_formed}
use Rattle.score_newick.specs.Sheets.{refusal4, refusal5, Refusal4, Refusal5}
use Rattle.score_newick.specs.Refusals.{sheet_refusals}

module _ (s : List ℕ) where
  -- a header that 4 lets pass
  pub four_passes : refusal4 s ≡ false → WithinLimits (header_in s) × (genes s ≡ 1)
  unfolding refusal4
  four_passes e = let t = not-false _ e in (limits_is _ (and_l (limits (line_no s 0).line) _ t), same_is _ _ (and_r (limits (line_no s 0).line) _ t))

  pub passes_four : WithinLimits (header_in s) → genes s ≡ 1 → refusal4 s ≡ false
  unfolding refusal4
  passes_four l e = rw (← is_limits (line_no s 0).line l, is_same e)

  pub passes_five : formed s (nodes s) 0 ≡ true → refusal5 s ≡ false
  unfolding refusal5
  passes_five t = rw t

  pub five_passes : refusal5 s ≡ false → formed s (nodes s) 0 ≡ true
  unfolding refusal5
  five_passes e = not-false _ e

  module _ (f : refusal3 s ≡ false) where
    pub reading_4 : (refusal4 s ≡ true) ↔ Refusal4 s
    reading_4 = (
      (λ t. record { numbers = (line_no s 0).line; line = header_line s f; beyond = λ b. clash t (passes_four b.0 b.1) }),
      λ r. by_bool (refusal4 s) (λ t. t)
          (λ e. absurd (r.beyond (subst (λ (h : Header). WithinLimits h × (h.genes ≡ 1)) (header_same s r.numbers r.line) (four_passes e)))),
    )

    pub reading_5 : (refusal5 s ≡ true) ↔ Refusal5 s
    reading_5 = (
      (λ t. record { numbers = (line_no s 0).line; line = header_line s f; amiss = λ w. clash t (passes_five (is_formed s (nodes s) 0 w)) }),
      λ r. by_bool (refusal5 s) (λ t. t)
          (λ e. absurd (r.amiss (subst (λ (h : Header). WellFormed s h.nodes 0) (header_same s r.numbers r.line) (formed_is s (nodes s) 0 (five_passes e))))),
    )

  pub sheet_tells : AllTell (sheet_refusals s)
  unfolding sheet_refusals
  sheet_tells = one_more (tell 3 (omega arith, omega arith) (reading_3 s))
      (λ f. one_more (tell 4 (omega arith, omega arith) (reading_4 f)) (λ _. one_more (tell 5 (omega arith, omega arith) (reading_5 f)) (λ _. no_more)))
