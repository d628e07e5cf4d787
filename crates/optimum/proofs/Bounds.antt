-- The report's six columns hold what the search finds: the chosen switching costs no more than the all-principal one, which has no transfers; the
-- counts are bounded for every switching; and a component with k reticulations has no more than 32 k trials.
-- Assumes nothing.
use Rattle.std.proofs.Common.{◌&&◌, ℕ, zero, suc, ◌+◌, ◌*◌, ◌^◌, ◌≤◌, ◌<◌, arith}
use Rattle.finite.specs.Tests.{same, tally}
use Rattle.finite.specs.Range.{sum, count}
use Rattle.finite.proofs.Cases.{by_eq}
use Rattle.finite.proofs.Tests.{is_same, not_same, and_l, and_r}
use Rattle.finite.proofs.Sum.{sum_le, sum_mul, sum_swap}
use Rattle.finite.proofs.Count.{count_imp, count_is, count_guarded}
use Rattle.topology.specs.Networks.{Network, Sound, is_reticulation, reticulations}
use Rattle.topology.specs.Switchings.{Switching, all_principal}
use Rattle.topology.specs.Components.{component, member_of, reticulation_count}
use Rattle.reconciliation.specs.GeneTrees.{GeneTree, Rooted, Seated}
use Rattle.reconciliation.specs.Costs.{Costs}
use Rattle.reconciliation.specs.Limits.{Limits}
use Rattle.displayed.specs.Displays.{switched, display}
use Rattle.displayed.specs.Model.{tree_of, duplication_count, transfer_count, loss_count, lca_cost}
use Rattle.displayed.proofs.Bounds.{duplications_few, transfers_few, losses_few, plain_cost, base_forked, principal_plain}
use Rattle.displayed.proofs.Model.{tree_is, tree_seated}
use Rattle.optimum.specs.Optimum.{trials_of, settings, trials, chosen, Optimal}
use Rattle.optimum.proofs.Optimum.{chosen_optimal}

-- the reported cost and counts are below 1,000,000
module _ (N : Network) (ok : Sound N) (G : GeneTree) (t : Rooted G) (s : Seated N G) (C : Costs) (L : Limits N.size G.count C) where
  -- the all-principal switching has no transfers
  principal_cost : lca_cost N G C all_principal ≤ 99 * 63 + 99 * (126 * 64)
  unfolding lca_cost display switched
  principal_cost = plain_cost (tree_of N all_principal) (tree_is N ok all_principal) G t (tree_seated N ok all_principal G t s) L.few_nodes L.few_genes
      C L.duplication L.transfer L.loss (base_forked N all_principal) (principal_plain N)

  pub optimal_small : (τ : Switching) → Optimal N G C τ → lca_cost N G C τ < 1000000
  optimal_small τ o = omega (arith, o.least all_principal, principal_cost)

  pub chosen_small : lca_cost N G C (chosen N G C) < 1000000
  chosen_small = optimal_small (chosen N G C) (chosen_optimal N ok G t s C)

  module _ (σ : Switching) where
    pub duplications_small : duplication_count N G σ < 1000000
    unfolding duplication_count display switched
    duplications_small = omega (arith, duplications_few (tree_of N σ) (tree_is N ok σ) G t (tree_seated N ok σ G t s) L.few_nodes L.few_genes)

    pub transfers_small : transfer_count N G σ < 1000000
    unfolding transfer_count display switched
    transfers_small = omega (arith, transfers_few (tree_of N σ) (tree_is N ok σ) G t (tree_seated N ok σ G t s) L.few_nodes L.few_genes)

    pub losses_small : loss_count N G σ < 1000000
    unfolding loss_count display switched
    losses_small = omega (arith, losses_few (tree_of N σ) (tree_is N ok σ) G t (tree_seated N ok σ G t s) L.few_nodes L.few_genes (base_forked N σ))

-- 2^k for k from 1 to 8
power_le : (k : ℕ) → 1 ≤ k → k ≤ 8 → 2 ^ k ≤ 32 * k
power_le zero l u = absurd (omega arith)
power_le (suc zero) l u = omega arith
power_le (suc (suc zero)) l u = omega arith
power_le (suc (suc (suc zero))) l u = omega arith
power_le (suc (suc (suc (suc zero)))) l u = omega arith
power_le (suc (suc (suc (suc (suc zero))))) l u = omega arith
power_le (suc (suc (suc (suc (suc (suc zero)))))) l u = omega arith
power_le (suc (suc (suc (suc (suc (suc (suc zero))))))) l u = omega arith
power_le (suc (suc (suc (suc (suc (suc (suc (suc zero)))))))) l u = omega arith
power_le (suc (suc (suc (suc (suc (suc (suc (suc (suc k))))))))) l u = absurd (omega arith)

module _ (N : Network) where
  -- a reticulation is in one component
  reticulations_le : sum N.size (reticulation_count N) ≤ reticulations N
  unfolding reticulation_count reticulations member_of count
  reticulations_le = rw (sum_swap N.size N.size (λ c r. tally (is_reticulation N r && same (component N r) c)))
      (sum_le N.size _ _ (λ r _ _. omega (
        arith,
        count_guarded N.size 1 (is_reticulation N r) (λ c. is_reticulation N r && same (component N r) c) (λ c h. and_l (is_reticulation N r) _ h)
            (omega (arith, count_is N.size (component N r), count_imp N.size (λ c. is_reticulation N r && same (component N r) c) (same (component N r)) (λ c h. and_r (is_reticulation N r) _ h))),
      )))

  settings_le : (c : ℕ) → reticulation_count N c ≤ 8 → settings N c ≤ 32 * reticulation_count N c
  unfolding settings trials_of
  settings_le c l = by_eq (reticulation_count N c) 0 (λ e. rw (is_same e) (omega arith)) (λ d. rw (not_same d) (power_le (reticulation_count N c) (omega arith) l))

  -- so no more than 8 reticulations a component, and fewer than half of the nodes reticulations, leave no more than 2,016 trials
  pub trials_le : ((c : ℕ) → 1 ≤ c → c ≤ N.size → reticulation_count N c ≤ 8) → trials N ≤ 32 * reticulations N
  unfolding trials
  trials_le h = omega (arith, sum_le N.size (settings N) (λ c. 32 * reticulation_count N c) (λ c l u. settings_le c (h c l u)), sum_mul N.size 32 (reticulation_count N), reticulations_le)

  pub trials_small : N.size ≤ 127 → ((c : ℕ) → 1 ≤ c → c ≤ N.size → reticulation_count N c ≤ 8) → 2 * reticulations N < N.size → trials N ≤ 2016
  trials_small l h r = omega (arith, trials_le h)
