-- Components by their tops, and locality: what is below a node depends on the switching at the reticulations of its own component alone
-- (`above_local`), because a component is entered from above only through its top, and a top has one parent arc.
-- Assumes nothing.
use Rattle.std.proofs.Common.{◌≡◌, refl, sym, ◌∙◌, ap, ◌≢◌, true, false, ℕ, ◌≤◌, ◌<◌, arith}
use Rattle.finite.proofs.Cases.{by_bool, by_eq, clash}
use Rattle.finite.proofs.Tests.{is_same, same_is, not_same, beq_is, and_l, and_r}
use Rattle.finite.proofs.Every.{every_at}
use Rattle.topology.specs.Networks.{Network, Node, Sound, Reticulation, is_reticulation}
use Rattle.topology.specs.Switchings.{Switching, all_principal, parent, above}
use Rattle.topology.specs.Components.{is_top, component, member_of, Agree}
use Rattle.topology.proofs.Climbing.{seek_eq}
use Rattle.topology.proofs.Above.{parent_plain, parent_cases, parent_agree, reticulation_node, node_principal, node_secondary, fall_principal, fall_secondary, falls, falls_principal, above_self, above_not, above_zero, above_low, above_anti, tree_not, tree_parent, network_ind, is_reticulation_lem, reticulation_is}

module _ (N : Network) (ok : Sound N) where
  open N use {size, principal, secondary}

  -- a component is named by the first top above
  pub component_top : (x : ℕ) → is_top N x ≡ true → component N x ≡ x
  unfolding component
  component_top x t = seek_eq N.rank principal (falls_principal N ok) (is_top N) x ∙ rw t

  pub component_up : (x : ℕ) → is_top N x ≡ false → component N x ≡ component N (principal x)
  unfolding component
  component_up x t = seek_eq N.rank principal (falls_principal N ok) (is_top N) x ∙ rw t

  pub top_root : (x : ℕ) → principal x ≡ 0 → is_top N x ≡ true
  unfolding is_top
  top_root x e = rw (is_same e)

  pub top_component : (x : ℕ) → is_top N (component N x) ≡ true
  top_component = network_ind N ok (λ x. is_top N (component N x) ≡ true)
      (let t : is_top N 0 ≡ true = top_root 0 ok.zero_principal in rw (component_top 0 t) t)
      (λ x d ih. by_bool (is_top N x) (λ t. rw (component_top x t) t) (λ t. rw (component_up x t) (ih (principal x) (fall_principal N ok x d))))

  pub component_above : (x : ℕ) → above N all_principal (component N x) x ≡ true
  component_above = network_ind N ok (λ x. above N all_principal (component N x) x ≡ true)
      (rw (component_top 0 (top_root 0 ok.zero_principal)) (above_self N ok all_principal 0))
      (λ x d ih. by_bool (is_top N x) (λ t. rw (component_top x t) (above_self N ok all_principal x))
      (λ t. rw (component_up x t) (tree_parent N ok (component N (principal x)) x (ih (principal x) (fall_principal N ok x d)))))

  pub component_low : (x : ℕ) → N.rank (component N x) ≤ N.rank x
  component_low x = by_eq (component N x) x (λ e. rw e (omega arith)) (λ d. omega (arith, above_low N ok all_principal (component N x) x (component_above x) d))

  pub component_node : (x : ℕ) → Node N x → Node N (component N x)
  component_node = network_ind N ok (λ x. Node N x → Node N (component N x)) (λ k. absurd (omega arith))
      (λ x d ih k. by_bool (is_top N x) (λ t. rw (component_top x t) k)
      (λ t. rw (component_up x t) (ih (principal x) (fall_principal N ok x d) (node_principal N ok x k (λ e. clash (top_root x e) t)))))

  -- a top above x is above x's component
  pub nearest : (t x : ℕ) → is_top N t ≡ true → above N all_principal t x ≡ true → above N all_principal t (component N x) ≡ true
  nearest t x a = network_ind N ok (λ x. above N all_principal t x ≡ true → above N all_principal t (component N x) ≡ true)
      (λ b. rw (component_top 0 (top_root 0 ok.zero_principal)) b)
      (λ x d ih b. by_bool (is_top N x) (λ e. rw (component_top x e) b)
      (λ e. rw (component_up x e) (ih (principal x) (fall_principal N ok x d) (sym (tree_not N ok t x (λ q. clash (rw q at a) e)) ∙ b)))) x

  pub root_above : (x : ℕ) → Node N x → above N all_principal ok.root x ≡ true
  root_above = network_ind N ok (λ x. Node N x → above N all_principal ok.root x ≡ true) (λ k. absurd (omega arith))
      (λ x d ih k. by_eq (principal x) 0 (λ e. rw (ok.root_one x k e) (above_self N ok all_principal ok.root))
      (λ q. tree_parent N ok ok.root x (ih (principal x) (fall_principal N ok x d) (node_principal N ok x k q))))

  -- a top has both of a reticulation and its secondary parent below it, or none
  pub top_reticulation : (w r : ℕ) → Node N w → is_top N w ≡ true → Reticulation N r → above N all_principal w r ≡ above N all_principal w (secondary r)
  unfolding is_top
  top_reticulation w r k t d = by_eq (principal w) 0
      (λ e. rw (ok.root_one w k e) (root_above r (reticulation_node N ok r d) ∙ sym (root_above (secondary r) (node_secondary N ok r d))))
      (λ q. let kr : Node N r = reticulation_node N ok r d in
      beq_is (above N all_principal w r) (above N all_principal w (secondary r)) (rw (not_same d) at (every_at size _ (rw (not_same q) at t) r kr.low kr.high)))

  pub reticulation_not_top : (r : ℕ) → Reticulation N r → is_top N r ≡ false
  reticulation_not_top r d = by_bool (is_top N r)
      (λ t. let l : N.rank (secondary r) < N.rank r = fall_secondary N ok r d in
      let a : above N all_principal r (secondary r) ≡ true = sym (top_reticulation r r (reticulation_node N ok r d) t d) ∙ above_self N ok all_principal r in
      by_eq r (secondary r) (λ e. absurd (omega (arith, ap N.rank e))) (λ q. absurd (omega (arith, above_low N ok all_principal r (secondary r) a q))))
      (λ t. t)

  -- both parents of a reticulation are in its component: each parent's top is a top above both, so each is above the other
  pub component_secondary : (r : ℕ) → Reticulation N r → component N (secondary r) ≡ component N r
  component_secondary r d =
      let kr = reticulation_node N ok r d in
      let ks = node_secondary N ok r d in
      above_anti N ok all_principal (component N (secondary r)) (component N r)
      (nearest (component N (secondary r)) r (top_component (secondary r)) (top_reticulation (component N (secondary r)) r (component_node (secondary r) ks) (top_component (secondary r)) d ∙ component_above (secondary r)))
      (nearest (component N r) (secondary r) (top_component r) (sym (top_reticulation (component N r) r (component_node r kr) (top_component r) d) ∙ component_above r))

  -- a node that is no top has its parents in its own component; a top has one parent
  pub component_parent : (σ : Switching) (x : ℕ) → is_top N x ≡ false → component N (parent N σ x) ≡ component N x
  component_parent σ x t = parent_cases N σ x (λ e. rw e (sym (component_up x t))) (λ d e. rw e (component_secondary x d))

  pub top_parent : (σ : Switching) (x : ℕ) → is_top N x ≡ true → parent N σ x ≡ principal x
  top_parent σ x t = parent_plain N σ x (by_eq (secondary x) 0 (λ e. e) (λ d. clash t (reticulation_not_top x d)))

  -- what is below a top does not depend on the switching
  pub above_top : (σ : Switching) (t x : ℕ) → Node N t → is_top N t ≡ true → above N σ t x ≡ above N all_principal t x
  above_top σ t x k e = network_ind N ok (λ x. above N σ t x ≡ above N all_principal t x)
      (above_zero N ok σ t (omega arith) ∙ sym (above_zero N ok all_principal t (omega arith)))
      (λ x d ih. by_eq t x (λ q. rw q (above_self N ok σ x ∙ sym (above_self N ok all_principal x)))
      (λ q. above_not N ok σ t x q ∙ parent_cases N σ x (λ u. rw u (ih (principal x) (fall_principal N ok x d) ∙ sym (tree_not N ok t x q)))
      (λ r u. rw u (ih (secondary x) (fall_secondary N ok x r) ∙ sym (top_reticulation t x k e r))))) x

  -- from outside a component, its nodes are seen through its top
  pub above_component : (σ : Switching) (v x : ℕ) → component N v ≢ component N x → above N σ v x ≡ above N σ v (component N x)
  above_component σ v x = network_ind N ok (λ x. component N v ≢ component N x → above N σ v x ≡ above N σ v (component N x))
      (λ _. rw (component_top 0 (top_root 0 ok.zero_principal)))
      (λ x d ih c. by_bool (is_top N x) (λ t. rw (component_top x t))
      (λ t. let e : component N (parent N σ x) ≡ component N x = component_parent σ x t in
      above_not N ok σ v x (λ q. c (ap (component N) q)) ∙ ih (parent N σ x) ((falls N ok σ).fall x d) (λ q. c (q ∙ e)) ∙ ap (above N σ v) e)) x

  pub component_some : (x : ℕ) → x ≢ 0 → component N x ≢ 0
  component_some = network_ind N ok (λ x. x ≢ 0 → component N x ≢ 0) (λ d. absurd (d refl))
      (λ x d ih _. by_bool (is_top N x) (λ t. rw (component_top x t) d)
      (λ t. rw (component_up x t) (ih (principal x) (fall_principal N ok x d) (λ e. clash (top_root x e) t))))

  -- locality: what is below v depends on the switching of v's component alone
  pub above_local : (σ τ : Switching) (v x : ℕ) → Agree N σ τ (component N v) → above N σ v x ≡ above N τ v x
  above_local σ τ v x g = network_ind N ok (λ x. above N σ v x ≡ above N τ v x)
      (by_eq v 0 (λ e. rw e (above_self N ok σ 0 ∙ sym (above_self N ok τ 0))) (λ d. above_zero N ok σ v d ∙ sym (above_zero N ok τ v d)))
      (λ x d ih. by_eq v x (λ q. rw q (above_self N ok σ x ∙ sym (above_self N ok τ x)))
      (λ q. by_eq (component N v) (component N x)
      (λ e. let u : parent N σ x ≡ parent N τ x = parent_agree N σ τ x (λ r. g x r (sym e)) in
      above_not N ok σ v x q ∙ ap (above N σ v) u ∙ ih (parent N τ x) ((falls N ok τ).fall x d) ∙ sym (above_not N ok τ v x q))
      (λ e. let l : N.rank (principal (component N x)) < N.rank (component N x) = fall_principal N ok (component N x) (component_some x d) in
      through σ x e ∙ ih (principal (component N x)) (omega (arith, component_low x)) ∙ sym (through τ x e)))) x
    where
      through : (ρ : Switching) (x : ℕ) → component N v ≢ component N x → above N ρ v x ≡ above N ρ v (principal (component N x))
      through ρ x e = above_component ρ v x e ∙ above_not N ok ρ v (component N x) (λ q. e (ap (component N) q ∙ component_top (component N x) (top_component x)))
          ∙ ap (above N ρ v) (top_parent ρ (component N x) (top_component x))

-- the test of membership says what it should
pub member_is : (N : Network) (c r : ℕ) → member_of N c r ≡ true → Reticulation N r × (component N r ≡ c)
unfolding member_of
member_is N c r e = (reticulation_is N r (and_l (is_reticulation N r) _ e), same_is (component N r) c (and_r (is_reticulation N r) _ e))

pub is_member : (N : Network) (c r : ℕ) → Reticulation N r → component N r ≡ c → member_of N c r ≡ true
unfolding member_of
is_member N c r d e = rw (is_reticulation_lem N r d, is_same e)
