-- A sum over all genes gathered at their parents: each gene but the root is the child of one gene, so that what is counted at it can be counted there.
-- Assumes nothing.
use Rattle.std.proofs.Common.{◌≡◌, refl, sym, ◌∙◌, ap, ◌≢◌, ◌⊎◌, inl, inr, cond, ℕ, ◌+◌, ◌≤◌, arith}
use Rattle.finite.specs.Tests.{same}
use Rattle.finite.specs.Range.{sum}
use Rattle.finite.proofs.Cases.{by_eq}
use Rattle.finite.proofs.Tests.{is_same, not_same}
use Rattle.finite.proofs.Sum.{sum_same, sum_zero, sum_swap, sum_point, sum_points}
use Rattle.reconciliation.specs.GeneTrees.{GeneTree, Rooted}
use Rattle.reconciliation.proofs.Genes.{parent_gene}

-- a sum over the children of each gene is the sum over all genes, where gene 1 adds nothing
module _ (G : GeneTree) (t : Rooted G) (f : ℕ → ℕ) where
  abbrev below : ℕ → ℕ
  below p = cond (same (G.left p) 0) 0 (f (G.left p) + f (G.right p))

  -- the children of p among all genes
  gathered : (p : ℕ) → 1 ≤ p → sum G.count (λ g. cond (same (G.parent g) p) (f g) 0) ≡ below p
  gathered p l = by_eq (G.left p) 0
      (λ e. rw (is_same e) (sum_zero G.count _ (λ g _ _. rw (not_same (λ q. none e g q)))))
      (λ d. rw (not_same d) (two d))
    where
      none : G.left p ≡ 0 → (g : ℕ) → G.parent g ≡ p → ⊥
      none e g q = t.parent_inner g (λ z. omega arith) (ap G.left q ∙ e)

      other : G.left p ≢ 0 → (g : ℕ) → g ≢ G.left p → g ≢ G.right p → G.parent g ≢ p
      other d g nl nr q = pick (t.is_child g (λ z. omega arith))
        where
          pick : (G.left (G.parent g) ≡ g) ⊎ (G.right (G.parent g) ≡ g) → ⊥
          pick (inl e) = nl (sym e ∙ ap G.left q)
          pick (inr e) = nr (sym e ∙ ap G.right q)

      two : G.left p ≢ 0 → sum G.count (λ g. cond (same (G.parent g) p) (f g) 0) ≡ f (G.left p) + f (G.right p)
      two d = omega (
        arith,
        sum_zero G.count (λ _. 0) (λ _ _ _. refl),
        sum_points G.count (λ _. 0) (λ g. cond (same (G.parent g) p) (f g) 0) (G.left p) (G.right p) (f (G.left p)) (f (G.right p))
            (omega (arith, t.left_more p d)) (t.left_in p d) (omega (arith, t.right_more p d)) (t.right_in p d) (t.apart p d)
            (λ g nl nr. rw (not_same (other d g nl nr))) (rw (is_same (t.left_parent p d)) (omega arith)) (rw (is_same (t.right_parent p d)) (omega arith)),
      )

  -- each gene is the child of one, gene 1 of none
  pub by_parents : ((g : ℕ) → G.parent g ≡ 0 → f g ≡ 0) → sum G.count below ≡ sum G.count f
  by_parents top = sum_same G.count _ _ (λ p l _. sym (gathered p l)) ∙ sum_swap G.count G.count (λ p g. cond (same (G.parent g) p) (f g) 0)
      ∙ sum_same G.count _ _ (λ g _ _. by_eq (G.parent g) 0
      (λ e. sum_zero G.count _ (λ p l _. rw (e, not_same {m = 0} {n = p} (λ q. omega arith))) ∙ sym (top g e))
      (λ d. omega (
        arith,
        sum_zero G.count (λ _. 0) (λ _ _ _. refl),
        sum_point G.count (λ _. 0) (λ p. cond (same (G.parent g) p) (f g) 0) (G.parent g) (f g) (parent_gene G t g d).0 (parent_gene G t g d).1
            (λ p n. rw (not_same (λ q. n (sym q)))) (rw (is_same {m = G.parent g} refl) (omega arith)),
      )))
