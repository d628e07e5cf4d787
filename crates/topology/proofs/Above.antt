-- Parents under a switching, and what is above what. The rank falls along every arc upwards and is 0 for no node alone, so the laws of climbing hold for every
-- switching (`falls`), and `above` is the reachability along on arcs (`above_is`, `is_above`).
-- Assumes nothing.
use Rattle.std.proofs.Common.{◌≡◌, refl, sym, ◌∙◌, ◌≢◌, true, false, ◌&&◌, ℕ, ◌<◌, arith}
use mathlib.Core.Bool.{and-true, and-false}
use Rattle.finite.proofs.Cases.{by_bool, by_eq, by_order, clash}
use Rattle.finite.proofs.Tests.{is_same, not_same}
use Rattle.topology.specs.Climbing.{Falls}
use Rattle.topology.specs.Networks.{Network, Node, Sound, Reticulation, is_reticulation}
use Rattle.topology.specs.Switchings.{Switching, all_principal, on_secondary, parent, above, Above, here, step, lca}
use Rattle.topology.proofs.Climbing.{climb_ind, over_self, over_up, over_not, over_zero, over_low, over_anti, meet_spec}

module _ (N : Network) where
  open N use {size, principal, secondary, rank}

  pub parent_principal : (x : ℕ) → parent N all_principal x ≡ principal x
  unfolding parent on_secondary is_reticulation
  parent_principal x = refl

  pub parent_plain : (σ : Switching) (x : ℕ) → secondary x ≡ 0 → parent N σ x ≡ principal x
  unfolding parent on_secondary is_reticulation
  parent_plain σ x e = rw (is_same e, and-false (σ x))

  pub parent_cases : {A : Type 0} (σ : Switching) (x : ℕ) → (parent N σ x ≡ principal x → A) → (Reticulation N x → parent N σ x ≡ secondary x → A) → A
  unfolding parent on_secondary is_reticulation
  parent_cases σ x f g = by_bool (σ x)
      (λ a. by_eq (secondary x) 0 (λ e. f (parent_plain σ x e)) (λ d. g d (rw (a, not_same d))))
      (λ a. f (rw a))

  pub parent_agree : (σ τ : Switching) (x : ℕ) → (Reticulation N x → σ x ≡ τ x) → parent N σ x ≡ parent N τ x
  unfolding parent on_secondary is_reticulation
  parent_agree σ τ x h = by_eq (secondary x) 0 (λ e. parent_plain σ x e ∙ sym (parent_plain τ x e)) (λ d. rw (h d))

-- the test of a reticulation says what it should
pub reticulation_is : (N : Network) (r : ℕ) → is_reticulation N r ≡ true → Reticulation N r
unfolding is_reticulation
reticulation_is N r e q = clash (rw (is_same q) at e) refl

pub is_reticulation_lem : (N : Network) (r : ℕ) → Reticulation N r → is_reticulation N r ≡ true
unfolding is_reticulation
is_reticulation_lem N r d = rw (not_same d)

-- at a reticulation the switching says whether the secondary arc is on
pub on_reticulation : (N : Network) (σ : Switching) (r : ℕ) → Reticulation N r → on_secondary N σ r ≡ σ r
unfolding on_secondary
on_reticulation N σ r d = rw (is_reticulation_lem N r d, and-true (σ r))

module _ (N : Network) (ok : Sound N) where
  open N use {size, principal, secondary, rank}

  -- a number that is no node has no parents
  pub by_node : {A : Type 0} (v : ℕ) → (Node N v → A) → (principal v ≡ 0 → secondary v ≡ 0 → A) → A
  by_node v f g = by_eq v 0 (λ e. g (rw e ok.zero_principal) (rw e ok.zero_secondary))
      (λ d. by_order size v (λ l. g (ok.out_principal v l) (ok.out_secondary v l)) (λ e. f (omega arith)) (λ l. f (omega arith)))

  pub principal_node : (v : ℕ) → principal v ≢ 0 → Node N v
  principal_node v d = by_node v (λ k. k) (λ e _. absurd (d e))

  pub reticulation_node : (v : ℕ) → Reticulation N v → Node N v
  reticulation_node v d = by_node v (λ k. k) (λ _ e. absurd (d e))

  pub node_principal : (v : ℕ) → Node N v → principal v ≢ 0 → Node N (principal v)
  node_principal v k d = omega (arith, ok.in_principal v k)

  pub node_secondary : (v : ℕ) → Reticulation N v → Node N (secondary v)
  node_secondary v d = omega (arith, ok.in_secondary v (reticulation_node v d))

  pub node_parent : (σ : Switching) (x : ℕ) → Node N x → parent N σ x ≢ 0 → Node N (parent N σ x)
  node_parent σ x k z = parent_cases N σ x (λ e. rw e (node_principal x k (λ q. z (e ∙ q)))) (λ m e. rw e (node_secondary x m))

  pub fall_principal : (x : ℕ) → x ≢ 0 → N.rank (principal x) < N.rank x
  fall_principal x d = by_eq (principal x) 0 (λ e. rw (e, ok.rank_none) (ok.rank_some x d)) (λ k. ok.rank_principal x (principal_node x k) k)

  pub fall_secondary : (x : ℕ) → Reticulation N x → N.rank (secondary x) < N.rank x
  fall_secondary x d = ok.rank_secondary x (reticulation_node x d) d

  pub falls : (σ : Switching) → Falls N.rank (parent N σ)
  falls σ = record {
    stay = parent_plain N σ 0 ok.zero_secondary ∙ ok.zero_principal;
    fall = λ x d. parent_cases N σ x (λ e. rw e (fall_principal x d)) (λ r e. rw e (fall_secondary x r));
  }

  pub falls_principal : Falls N.rank principal
  falls_principal = record { stay = ok.zero_principal; fall = fall_principal }

  -- the laws of `above`
  pub above_self : (σ : Switching) (x : ℕ) → above N σ x x ≡ true
  unfolding above
  above_self σ = over_self N.rank (parent N σ) (falls σ)

  pub above_parent : (σ : Switching) (v x : ℕ) → above N σ v (parent N σ x) ≡ true → above N σ v x ≡ true
  unfolding above
  above_parent σ = over_up N.rank (parent N σ) (falls σ)

  pub above_not : (σ : Switching) (v x : ℕ) → v ≢ x → above N σ v x ≡ above N σ v (parent N σ x)
  unfolding above
  above_not σ = over_not N.rank (parent N σ) (falls σ)

  pub above_zero : (σ : Switching) (v : ℕ) → v ≢ 0 → above N σ v 0 ≡ false
  unfolding above
  above_zero σ = over_zero N.rank (parent N σ) (falls σ)

  pub above_low : (σ : Switching) (v x : ℕ) → above N σ v x ≡ true → v ≢ x → N.rank v < N.rank x
  unfolding above
  above_low σ = over_low N.rank (parent N σ) (falls σ)

  pub above_anti : (σ : Switching) (v x : ℕ) → above N σ v x ≡ true → above N σ x v ≡ true → v ≡ x
  unfolding above
  above_anti σ = over_anti N.rank (parent N σ) (falls σ)

  pub lca_spec : (σ : Switching) (v x y : ℕ) → v ≢ 0 → (above N σ v x && above N σ v y) ≡ above N σ v (lca N σ x y)
  unfolding above lca
  lca_spec σ = meet_spec N.rank (parent N σ) (falls σ)

  -- in the principal tree
  pub tree_not : (v x : ℕ) → v ≢ x → above N all_principal v x ≡ above N all_principal v (principal x)
  unfolding parent on_secondary is_reticulation
  tree_not = above_not all_principal

  pub tree_parent : (v x : ℕ) → above N all_principal v (principal x) ≡ true → above N all_principal v x ≡ true
  unfolding parent on_secondary is_reticulation
  tree_parent = above_parent all_principal

  -- induction along the ranks
  pub network_ind : (P : ℕ → Type 0) → P 0 → ((x : ℕ) → x ≢ 0 → ((y : ℕ) → N.rank y < N.rank x → P y) → P x) → (x : ℕ) → P x
  network_ind = climb_ind N.rank principal falls_principal

-- `above` says what it should: a chain of on arcs leads from v to x
pub above_is : (N : Network) → Sound N → (σ : Switching) (v : ℕ) {x : ℕ} → Above N σ v x → above N σ v x ≡ true
above_is N ok σ v {x} (here e) = rw e (above_self N ok σ x)
above_is N ok σ v {x} (step d a) = above_parent N ok σ v x (above_is N ok σ v a)

pub is_above : (N : Network) → Sound N → (σ : Switching) (v x : ℕ) → above N σ v x ≡ true → Above N σ v x
is_above N ok σ v x = network_ind N ok (λ x. above N σ v x ≡ true → Above N σ v x)
    (λ a. by_eq v 0 here (λ d. clash a (above_zero N ok σ v d)))
    (λ x d ih a. by_eq v x here (λ q. step d (ih (parent N σ x) ((falls N ok σ).fall x d) (sym (above_not N ok σ v x q) ∙ a)))) x
