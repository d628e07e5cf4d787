-- The least index of a least value: its value is least, and every lower index has a greater one.
-- Assumes nothing.
use Rattle.std.proofs.Common.{◌≡◌, refl, ℕ, zero, suc, ◌≤◌, ◌<◌, arith}
use Rattle.finite.specs.Least.{first_least}
use Rattle.finite.proofs.Cases.{by_eq, by_less}
use Rattle.finite.proofs.Tests.{is_under, not_under}

module _ (f : ℕ → ℕ) where
  pub least_none : first_least f 0 ≡ 0
  unfolding first_least
  least_none = refl

  -- one index more, which is less or is not
  pub least_take : (k : ℕ) → f k < f (first_least f k) → first_least f (suc k) ≡ k
  unfolding first_least
  least_take k l = rw (is_under l)

  pub least_keep : (k : ℕ) → f (first_least f k) ≤ f k → first_least f (suc k) ≡ first_least f k
  unfolding first_least
  least_keep k l = rw (not_under l)

  pub least_is : (k i : ℕ) → i < k → f (first_least f k) ≤ f i
  least_is zero i l = absurd (omega arith)
  least_is (suc k) i l = by_less (f k) (f (first_least f k))
      (λ t. rw (least_take k t) (by_eq i k (λ e. rw e (omega arith)) (λ q. omega (arith, least_is k i (omega arith)))))
      (λ t. rw (least_keep k t) (by_eq i k (λ e. rw e t) (λ q. least_is k i (omega arith))))

  pub least_first : (k i : ℕ) → i < first_least f k → f (first_least f k) < f i
  least_first zero i l = absurd (omega (arith, least_none))
  least_first (suc k) i l = by_less (f k) (f (first_least f k))
      (λ t. rw (least_take k t) (omega (arith, least_is k i (rw (least_take k t) at l))))
      (λ t. rw (least_keep k t) (least_first k i (rw (least_keep k t) at l)))

  pub least_in : (k : ℕ) → 1 ≤ k → first_least f k < k
  least_in zero l = absurd (omega arith)
  least_in (suc k) l = by_less (f k) (f (first_least f k))
      (λ t. rw (least_take k t) (omega arith))
      (λ t. rw (least_keep k t) (by_eq k 0 (λ e. rw e (omega (arith, least_none))) (λ q. omega (arith, least_in k (omega arith)))))

-- no other index is least and first
pub least_only : (f : ℕ → ℕ) (k j : ℕ) → j < k → ((i : ℕ) → i < k → f j ≤ f i) → ((i : ℕ) → i < j → f j < f i) → first_least f k ≡ j
least_only f k j l least before = by_less (first_least f k) j
    (λ t. absurd (omega (arith, before (first_least f k) t, least_is f k j l)))
    (λ t. by_less j (first_least f k) (λ u. absurd (omega (arith, least_first f k j u, least (first_least f k) (least_in f k (omega arith))))) (λ u. omega arith))
