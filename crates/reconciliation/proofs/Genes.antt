-- The genes of a gene tree: a gene that has a parent is a gene, and so is its parent; fewer than half of the genes are inner genes, for each but gene 1
-- is the child of one.
-- Assumes nothing.
use Rattle.std.proofs.Common.{◌≡◌, ◌≢◌, ⊎_elim, Bool, not, ℕ, ◌*◌, ◌≤◌, ◌<◌, arith}
use Rattle.finite.specs.Tests.{same, tally}
use Rattle.finite.specs.Range.{count, children}
use Rattle.finite.proofs.Cases.{by_eq}
use Rattle.finite.proofs.Tests.{is_same, not_same, tally_le}
use Rattle.finite.proofs.Sum.{sum_short}
use Rattle.finite.proofs.Count.{count_two, branchings}
use Rattle.reconciliation.specs.GeneTrees.{GeneTree, Rooted}

-- a gene is an inner gene; a gene has a parent
abbrev pub inner : GeneTree → ℕ → Bool
inner G g = not (same (G.left g) 0)

abbrev pub child : GeneTree → ℕ → Bool
child G g = not (same (G.parent g) 0)

module _ (G : GeneTree) (t : Rooted G) where
  pub child_gene : (g : ℕ) → G.parent g ≢ 0 → (1 ≤ g) × (g ≤ G.count)
  child_gene g d =
      let i = t.parent_inner g d in
      ⊎_elim
      (λ e. (omega (arith, t.left_more (G.parent g) i), omega (arith, t.left_in (G.parent g) i)))
      (λ e. (omega (arith, t.right_more (G.parent g) i), omega (arith, t.right_in (G.parent g) i)))
      (t.is_child g d)

  pub parent_gene : (g : ℕ) → G.parent g ≢ 0 → (1 ≤ G.parent g) × (G.parent g ≤ G.count)
  parent_gene g d = (omega arith, t.inner_high (G.parent g) (t.parent_inner g d))

  -- what is no gene has no children
  pub no_gene : (g : ℕ) → G.count < g → G.left g ≡ 0
  no_gene g l = by_eq (G.left g) 0 (λ e. e) (λ d. absurd (omega (arith, t.inner_high g d)))

  pub few_inner : 2 * count G.count (inner G) < G.count
  unfolding count children
  few_inner = branchings G.count 1 G.parent _ (omega arith) t.some t.root (λ g _ _. two g)
    where
      two : (g : ℕ) → 2 * tally (inner G g) ≤ children G.count G.parent g
      two g = by_eq (G.left g) 0 (λ e. rw (is_same e) (omega arith)) (λ d. rw (not_same d)
          (count_two G.count (G.left g) (G.right g) (λ x. same (G.parent x) g) (omega (arith, t.left_more g d)) (t.left_in g d)
          (omega (arith, t.right_more g d)) (t.right_in g d) (t.apart g d) (is_same (t.left_parent g d)) (is_same (t.right_parent g d))))

  -- one gene has no parent
  pub few_children : count G.count (child G) < G.count
  unfolding count
  few_children = sum_short G.count 1 (λ g. tally (child G g)) (omega arith) t.some (λ g. tally_le (child G g)) (rw (is_same t.root))
