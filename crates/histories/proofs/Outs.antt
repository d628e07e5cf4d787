-- What leaves a node by its first, second and secondary child, in each of the four cases.
-- Assumes nothing.
use Rattle.std.proofs.Common.{◌≡◌, ◌≢◌, ℕ}
use Rattle.finite.proofs.Tests.{is_same, not_same}
use Rattle.finite.proofs.Cases.{by_eq}
use Rattle.histories.specs.Histories.{leaf, one, two, mixed}
use Rattle.histories.specs.Families.{out_by}

module _ (x y z s : ℕ) where
  pub out_leaf : x ≡ 0 → out_by x y z s ≡ leaf s
  unfolding out_by
  out_leaf e = rw (is_same e)

  pub out_two : x ≢ 0 → y ≢ 0 → out_by x y z s ≡ two x y
  unfolding out_by
  out_two d e = rw (not_same d, not_same e)

  pub out_mixed : x ≢ 0 → y ≡ 0 → z ≢ 0 → out_by x y z s ≡ mixed x z
  unfolding out_by
  out_mixed d e f = rw (not_same d, is_same e, not_same f)

  pub out_one : x ≢ 0 → y ≡ 0 → z ≡ 0 → out_by x y z s ≡ one x
  unfolding out_by
  out_one d e f = rw (not_same d, is_same e, is_same f)

  -- the four cases
  pub by_out : {A : Type 0} → (out_by x y z s ≡ leaf s → A) → (x ≢ 0 → y ≢ 0 → out_by x y z s ≡ two x y → A)
      → (x ≢ 0 → y ≡ 0 → z ≢ 0 → out_by x y z s ≡ mixed x z → A) → (x ≢ 0 → out_by x y z s ≡ one x → A) → A
  by_out l t m o = by_eq x 0 (λ e. l (out_leaf e))
      (λ d. by_eq y 0 (λ e. by_eq z 0 (λ f. o d (out_one d e f)) (λ f. m d e f (out_mixed d e f))) (λ e. t d e (out_two d e)))
