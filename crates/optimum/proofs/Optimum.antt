-- Demand 3: the switching put together from each component's first least setting, all others principal, costs no more than any switching of the whole
-- network and is the first of those that cost as little. Every choice in a component is one of its settings, in order, so the settings tried are
-- enough for the component, and separability makes them enough for the network.
-- Assumes nothing.
use Rattle.std.proofs.Common.{◌≡◌, refl, sym, ◌∙◌, ◌↔◌, ℕ, ◌+◌, ◌*◌, ◌^◌, ◌≤◌, ◌<◌, arith}
use native.Mathlib.Nat.{one-le-pow}
use Rattle.finite.specs.Range.{sum}
use Rattle.finite.proofs.Cases.{by_eq, by_less}
use Rattle.finite.proofs.Sum.{sum_same, sum_add, sum_mul}
use Rattle.finite.proofs.Least.{least_is, least_first, least_in}
use Rattle.topology.specs.Networks.{Network, Sound, Reticulation}
use Rattle.topology.specs.Switchings.{Switching, NotAfter, equal, before}
use Rattle.topology.specs.Components.{component, reticulation_count, setting_of, Agree}
use Rattle.topology.proofs.Above.{reticulation_node}
use Rattle.topology.proofs.Components.{component_node}
use Rattle.reconciliation.specs.GeneTrees.{GeneTree, Rooted, Seated}
use Rattle.reconciliation.specs.Costs.{Costs}
use Rattle.displayed.specs.Model.{lca_cost}
use Rattle.optimum.specs.inner.Separable.{Separable, only, joined, BestParts}
use Rattle.optimum.specs.Optimum.{Least, Local, trial, best_setting, assembled, chosen, Optimal}
use Rattle.optimum.proofs.Locality.{charge, charged}
use Rattle.optimum.proofs.Separable.{only_in, only_out, joined_least, joined_first, least_parts}
use Rattle.optimum.proofs.Settings.{setting_onto, setting_order, setting_outside, order_anti}

-- the order reads its switchings at D only
pub order_left : {D : ℕ → Type 0} {σ ρ τ : Switching} → ((r : ℕ) → D r → ρ r ≡ σ r) → NotAfter D σ τ → NotAfter D ρ τ
order_left h (equal f) = equal (λ r d. h r d ∙ f r d)
order_left h (before r d f a b) = before r d (λ q l m. h q m ∙ f q l m) (h r d ∙ a) b

pub order_right : {D : ℕ → Type 0} {σ ρ τ : Switching} → ((r : ℕ) → D r → ρ r ≡ τ r) → NotAfter D σ τ → NotAfter D σ ρ
order_right h (equal f) = equal (λ r d. f r d ∙ sym (h r d))
order_right h (before r d f a b) = before r d (λ q l m. f q l m ∙ sym (h q m)) a (h r d ∙ b)

-- sums and multiples of local costs are local
pub local_add : (N : Network) (a b : Switching → ℕ) (v w : Switching → ℕ → ℕ) → Local N a v → Local N b w → Local N (λ σ. a σ + b σ) (λ σ x. v σ x + w σ x)
local_add N a b v w L M = record {
  sums = λ σ. omega (arith, L.sums σ, M.sums σ, sum_add N.size (v σ) (w σ));
  near = λ σ τ x k h. omega (arith, L.near σ τ x k h, M.near σ τ x k h);
}

pub local_mul : (N : Network) (c : ℕ) (a : Switching → ℕ) (v : Switching → ℕ → ℕ) → Local N a v → Local N (λ σ. c * a σ) (λ σ x. c * v σ x)
local_mul N c a v L = record {
  sums = λ σ. rw (sum_mul N.size c (v σ), L.sums σ);
  near = λ σ τ x k h. rw (L.near σ τ x k h);
}

module _ (N : Network) (ok : Sound N) (cost : Switching → ℕ) (charges : Switching → ℕ → ℕ) (L : Local N cost charges) where
  separable : Separable N.size (Reticulation N) (component N) charges
  separable = record {
    test = λ r. by_eq (N.secondary r) 0 (λ e. no (λ d. d e)) (λ d. yes d);
    low = λ r d. (reticulation_node N ok r d).low;
    high = λ r d. (reticulation_node N ok r d).high;
    parts = λ r d. (component_node N ok r (reticulation_node N ok r d)).high;
    near = λ σ τ v l u a. L.near σ τ v (record { low = l; high = u }) a;
  }

  -- only what a switching says at reticulations counts
  pub local_agree : (σ τ : Switching) → ((r : ℕ) → Reticulation N r → σ r ≡ τ r) → cost σ ≡ cost τ
  local_agree σ τ h = L.sums σ ∙ sum_same N.size _ _ (λ v l u. L.near σ τ v (record { low = l; high = u }) (λ r d _. h r d)) ∙ sym (L.sums τ)

  -- a choice in component c alone costs what the setting with its number costs
  alone : (c x : ℕ) (τ : Switching) → Agree N (setting_of N c x) τ c → sum N.size (charges (only (component N) c τ)) ≡ trial N cost c x
  unfolding trial
  alone c x τ a = sym (L.sums (only (component N) c τ)) ∙ local_agree _ _ (λ r d. by_eq (component N r) c
      (λ e. only_in (component N) c τ r e ∙ sym (a r d e))
      (λ q. only_out (component N) c τ r q ∙ sym (setting_outside N ok c x r d q)))

  own : (c : ℕ) → sum N.size (charges (only (component N) c (setting_of N c (best_setting N cost c)))) ≡ trial N cost c (best_setting N cost c)
  own c = alone c (best_setting N cost c) (setting_of N c (best_setting N cost c)) (λ r _ _. refl)

  -- the first least setting of a component is least among all choices there, and the first of those that are as little
  best_least : (c x : ℕ) → x < 2 ^ reticulation_count N c → trial N cost c (best_setting N cost c) ≤ trial N cost c x
  unfolding best_setting
  best_least c x l = least_is (trial N cost c) (2 ^ reticulation_count N c) x l

  best_first : (c x : ℕ) → trial N cost c (best_setting N cost c) ≡ trial N cost c x → best_setting N cost c ≤ x
  unfolding best_setting
  best_first c x e = by_less x (best_setting N cost c) (λ m. absurd (omega (arith, least_first (trial N cost c) (2 ^ reticulation_count N c) x m))) (λ m. m)

  best_low : (c : ℕ) → best_setting N cost c < 2 ^ reticulation_count N c
  unfolding best_setting
  best_low c = least_in (trial N cost c) (2 ^ reticulation_count N c) (one-le-pow (reticulation_count N c) 2 (omega arith))

  best_parts : BestParts N.size (Reticulation N) (component N) charges (λ c. setting_of N c (best_setting N cost c))
  best_parts = record {
    least = λ c τ. let x = setting_onto N ok c τ in omega (arith, own c, alone c x.0 τ x.2, best_least c x.0 x.1);
    first = λ c τ e. let x = setting_onto N ok c τ in
        order_right (λ r k. sym (x.2 r k.0 k.1))
        ((setting_order N ok c (best_setting N cost c) x.0 (best_low c) x.1).0 (best_first c x.0 (sym (own c) ∙ e ∙ alone c x.0 τ x.2)));
  }

  -- the theorem, for every local cost
  pub assembled_least : Least N cost (assembled N (best_setting N cost))
  unfolding assembled joined
  assembled_least = record {
    least = λ σ. omega (
      arith,
      L.sums (assembled N (best_setting N cost)),
      L.sums σ,
      joined_least N.size (Reticulation N) (component N) charges separable (λ c. setting_of N c (best_setting N cost c)) best_parts σ,
    );
    first = λ σ e. joined_first N.size (Reticulation N) (component N) charges separable (λ c. setting_of N c (best_setting N cost c)) best_parts σ
        (sym (L.sums (assembled N (best_setting N cost))) ∙ e ∙ L.sums σ);
  }

  -- a switching is least just when it is least in each component, all others principal
  pub least_components : (τ : Switching) → (cost (assembled N (best_setting N cost)) ≡ cost τ)
      ↔ ((c : ℕ) → c ≤ N.size → trial N cost c (best_setting N cost c) ≡ cost (only (component N) c τ))
  unfolding assembled joined
  least_components τ =
      let p = least_parts N.size (Reticulation N) (component N) charges separable (λ c. setting_of N c (best_setting N cost c)) best_parts τ in (
        λ e c l. sym (own c) ∙ p.0 (sym (L.sums (assembled N (best_setting N cost))) ∙ e ∙ L.sums τ) c l ∙ sym (L.sums (only (component N) c τ)),
        λ h. L.sums (assembled N (best_setting N cost)) ∙ p.1 (λ c l. own c ∙ h c l ∙ L.sums (only (component N) c τ)) ∙ sym (L.sums τ),
      )

  -- a switching that agrees with a least one at every reticulation is least too
  pub least_agree : (τ ρ : Switching) → Least N cost τ → ((r : ℕ) → Reticulation N r → ρ r ≡ τ r) → Least N cost ρ
  least_agree τ ρ m h = record {
    least = λ σ. omega (arith, local_agree ρ τ h, m.least σ);
    first = λ σ e. order_left h (m.first σ (sym (local_agree ρ τ h) ∙ e));
  }

-- and there is no other: two least switchings agree at every reticulation
pub least_one : (N : Network) (cost : Switching → ℕ) (τ ρ : Switching) → Least N cost τ → Least N cost ρ → (r : ℕ) → Reticulation N r → τ r ≡ ρ r
least_one N cost τ ρ a b =
    let e : cost τ ≡ cost ρ = omega (arith, a.least ρ, b.least τ) in
    order_anti (a.first ρ e) (b.first τ (sym e))

-- the last-common-ancestor cost
module _ (N : Network) (ok : Sound N) (G : GeneTree) (t : Rooted G) (s : Seated N G) (C : Costs) where
  pub lca_local : Local N (lca_cost N G C) (charge N G C)
  lca_local = charged N ok G t s C

  -- THE THEOREM: for every σ, the chosen switching costs no more, and where it costs the same it is not after σ
  pub chosen_optimal : Optimal N G C (chosen N G C)
  chosen_optimal = assembled_least N ok (lca_cost N G C) (charge N G C) lca_local

  pub optimal_agree : (τ : Switching) → ((r : ℕ) → Reticulation N r → τ r ≡ chosen N G C r) → Optimal N G C τ
  optimal_agree τ h = least_agree N ok (lca_cost N G C) (charge N G C) lca_local (chosen N G C) τ chosen_optimal h
