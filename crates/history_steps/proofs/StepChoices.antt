-- The words of the rows add up to what a step costs with what follows it, so a step's test on words is its test on costs.
-- Assumes nothing.
use Rattle.std.proofs.Common.{◌≡◌, refl, sym, ap, ◌∙◌, ◌⊎◌, inl, inr, Bool, List, [], ◌∷◌, ◌++◌, ℕ, ◌≤◌, arith, add_assoc, min}
use mathlib.Core.Option.{none, some}
use Rattle.finite.specs.Tests.{same}
use Rattle.finite.proofs.Tests.{is_same, not_same}
use Rattle.finite.proofs.Cases.{by_less}
use Rattle.layout.specs.Headers.{costs}
use Rattle.histories.specs.Histories.{Cost, ◌⊕◌, then, both}
use Rattle.histories.specs.Words.{no_history}
use Rattle.histories.specs.inner.Rows.{cost_at, Cell}
use Rattle.cell_costs.specs.inner.Costs.{cost_in, left_cost, right_cost}
use Rattle.cell_costs.proofs.Sums.{sum_none, sum_some}
use Rattle.tellings.specs.Steps.{Step, step_cost}
use Rattle.tellings.specs.Chosen.{ends, splits, goes, onward, same_cost}
use Rattle.tellings.specs.inner.Walks.{step_number, offer, offers}
use Rattle.tellings.proofs.StepNumbers.{offers_append}
use Rattle.history_steps.specs.declared.Step.{Step as Taken}
use Rattle.history_steps.specs.declared.Step.TheVariants.{Speciation, Duplication, Transfer, LossGoingDown, LossByTransfer, FreePass}
use Rattle.history_steps.specs.declared.StepChoice.{StepChoice}
use Rattle.history_steps.specs.inner.StepChoices.{step_of, spent, following, attains, Readable, Ready}

-- where the steps lead
pub splits_of : {s : Taken} {p q : ℕ} → (s ≡ Speciation p q) ⊎ (s ≡ Transfer p q) → onward (step_of s) ≡ splits p q
unfolding onward
splits_of (inl e) = rw e
splits_of (inr e) = rw e

pub here_of : {s : Taken} {v : ℕ} → s ≡ Duplication v → onward (step_of s) ≡ splits v v
unfolding onward
here_of e = rw e

pub goes_of : {s : Taken} {w : ℕ} → (s ≡ LossGoingDown w) ⊎ ((s ≡ LossByTransfer w) ⊎ (s ≡ FreePass w)) → onward (step_of s) ≡ goes w
unfolding onward
goes_of (inl e) = rw e
goes_of (inr (inl e)) = rw e
goes_of (inr (inr e)) = rw e

both_then : (x : ℕ) (A B : Cost) → both x A B ≡ then x (A ⊕ B)
unfolding both then ◌⊕◌
both_then x none B = refl
both_then x (some a) none = refl
both_then x (some a) (some b) = ap some (add_assoc x a b)

module _ (t : StepChoice) (s : Step) where
  -- two children, or the gene itself
  module _ {p q : ℕ} (o : onward s ≡ splits p q) where
    pub cells_apart : Readable t (onward s) → Cell t.children.left.now p × Cell t.children.right.now q
    unfolding Readable
    cells_apart h = rw o at h

    pub sum_apart : (c r : ℕ) → c ≡ step_cost (costs t.header) s → cost_in r ≡ both c (left_cost t.children p) (right_cost t.children q) → cost_in r ≡ spent t s
    unfolding spent following
    sum_apart c r e f = f ∙ both_then c _ _ ∙ rw (e, o)

  module _ {w : ℕ} (o : onward s ≡ goes w) where
    pub cells_on : Readable t (onward s) → Cell t.own.now w
    unfolding Readable
    cells_on h = rw o at h

    pub sum_on : (c r : ℕ) → c ≡ step_cost (costs t.header) s → cost_in r ≡ then c (cost_at t.own.now w) → cost_in r ≡ spent t s
    unfolding spent following
    sum_on c r e f = f ∙ rw (e, o)

  pub sum_rest : (r : ℕ) → onward s ≡ ends → r ≤ 198 → r ≡ step_cost (costs t.header) s → cost_in r ≡ spent t s
  unfolding spent following then ◌⊕◌
  sum_rest r o l e = sum_some {w = r} (omega arith) ∙ rw (o, ← e) (ap some (omega arith))

  -- the test of a step
  module _ (ready : Ready t) (r : ℕ) (sum : cost_in r ≡ spent t s) where
    pub test_is : same r t.least ≡ attains t s
    unfolding attains same_cost
    test_is = by_less r no_history
        (λ l. rw (sym sum ∙ sum_some {w = r} l))
        (λ l. rw (sym sum ∙ sum_none {w = r} l) (not_same (λ e. omega (arith, ready.least_low))))

    pub taken : (best k m : ℕ) → r ≡ t.least → k ≡ step_number s → m ≡ min best k → m ≡ offers (attains t) (s ∷ []) best
    unfolding offers offer
    taken best k m e ek em = rw (sym test_is ∙ is_same e) (omega arith)

    pub passed : (best : ℕ) → (r ≡ t.least → ⊥) → best ≡ offers (attains t) (s ∷ []) best
    unfolding offers offer
    passed best d = rw (sym test_is ∙ not_same d)

-- steps offered in parts
pub in_parts : (f : Step → Bool) (l k : List Step) (best e m : ℕ) → e ≡ offers f l best → m ≡ offers f k e → m ≡ offers f (l ++ k) best
in_parts f l k best e m a b = b ∙ rw a (sym (offers_append f l k best))

pub first_then : (f : Step → Bool) (s : Step) (l k : List Step) (best r e m : ℕ) → r ≡ offers f (s ∷ []) best → e ≡ offers f l r → m ≡ offers f k e → m ≡ offers f ((s ∷ l) ++ k) best
unfolding offers
first_then f s l k best r e m a b c = in_parts f l k r e m b c ∙ rw a
