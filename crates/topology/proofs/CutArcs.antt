-- Cut arcs and components as 01 says them are what `is_top` and `component` compute. The principal arcs join all nodes, so a secondary arc is
-- never a cut arc; and a function that every allowed arc keeps is kept by every walk (`invariant`), so no walk without the arc into a top
-- crosses from above it to below it.
-- Assumes nothing.
use Rattle.std.proofs.Common.{◌≡◌, refl, sym, ◌∙◌, ap, ◌≢◌, ◌↔◌, Bool, true, false, cond, ℕ, ◌<◌, arith}
use mathlib.Core.Bool.{Bool-discrete}
use Rattle.finite.proofs.Cases.{by_bool, by_dec, by_eq, clash}
use Rattle.finite.proofs.Tests.{is_same, not_same, is_beq}
use Rattle.finite.proofs.Every.{is_every}
use Rattle.topology.specs.Networks.{Network, Node, Sound, Reticulation}
use Rattle.topology.specs.Switchings.{all_principal, above}
use Rattle.topology.specs.Components.{Kind, principal_arc, secondary_arc, kinds, tail, Joined, stay, arc, back, via, Every, But, CutArc, Linked, Top, TopOf, is_top, component, member_of}
use Rattle.topology.proofs.Above.{network_ind, node_principal, node_secondary, principal_node, reticulation_node, fall_principal, tree_not, above_self, above_low}
use Rattle.topology.proofs.Components.{root_above, top_root, top_reticulation, reticulation_not_top, component_top, component_up, component_secondary, component_node, top_component, member_is, is_member}

kind_not : principal_arc ≢ secondary_arc
kind_not e = let z : ◌≡◌ {A = ℕ} 0 1 = cc in omega arith

-- what each arc keeps a walk keeps
invariant : (N : Network) (A : Kind → ℕ → Type 0) {B : Type 0} (f : ℕ → B) → ((k : Kind) (v : ℕ) → tail N k v ≢ 0 → A k v → f (tail N k v) ≡ f v) → {x y : ℕ} → Joined N A x y → f x ≡ f y
invariant N A f h stay = refl
invariant N A f h (arc k v d a) = h k v d a
invariant N A f h (back j) = sym (invariant N A f h j)
invariant N A f h (via i j) = invariant N A f h i ∙ invariant N A f h j

-- x hangs on f x: it is f x, or its principal arc is in A and leads to what hangs there
data Hangs (N : Network) (A : Kind → ℕ → Type 0) (f : ℕ → ℕ) (x : ℕ) : Type 0 where
  stop : f x ≡ x → Hangs N A f x
  climbs : N.principal x ≢ 0 → A principal_arc x → f x ≡ f (N.principal x) → Hangs N A f x

module _ (N : Network) (ok : Sound N) where
  open N use {size, principal, secondary}

  climb : (A : Kind → ℕ → Type 0) (f : ℕ → ℕ) → ((x : ℕ) → Node N x → Hangs N A f x) → {x : ℕ} → Node N x → Joined N A (f x) x
  climb A f h {x} = network_ind N ok (λ x. Node N x → Joined N A (f x) x) (λ k. absurd (omega arith)) (λ x d ih k. go x d ih k (h x k)) x
    where
      go : (x : ℕ) → x ≢ 0 → ((y : ℕ) → N.rank y < N.rank x → Node N y → Joined N A (f y) y) → Node N x → Hangs N A f x → Joined N A (f x) x
      go x d ih k (stop e) = rw e stay
      go x d ih k (climbs z a e) = rw e (via (ih (principal x) (fall_principal N ok x d) (node_principal N ok x k z)) (arc principal_arc x z a))

  -- the principal arcs join all nodes
  spans : (A : Kind → ℕ → Type 0) → ((x : ℕ) → A principal_arc x) → {x y : ℕ} → Node N x → Node N y → Joined N A x y
  spans A a kx ky = via (back (climb A (λ _. ok.root) hangs kx)) (climb A (λ _. ok.root) hangs ky)
    where
      hangs : (x : ℕ) → Node N x → Hangs N A (λ _. ok.root) x
      hangs x k = by_eq (principal x) 0 (λ e. stop (sym (ok.root_one x k e))) (λ z. climbs z (a x) refl)

  -- the network is in one piece
  pub all_joined : (x y : ℕ) → Node N x → Node N y → Joined N Every x y
  all_joined x y = spans Every (λ _. tt)

  -- equivalently: its two ends are not joined without it
  pub cut_iff_ends : (k : Kind) (v : ℕ) → tail N k v ≢ 0 → CutArc N k v ↔ (¬ (Joined N (But k v) (tail N k v) v))
  cut_iff_ends k v d = (
    λ c j. c.parted (around j (all_joined c.one c.other c.one_in c.other_in)),
    λ n. record { is_arc = d; one = tail N k v; other = v; one_in = (ends k d).0; other_in = (ends k d).1; parted = n },
  )
    where
      around : Joined N (But k v) (tail N k v) v → {x y : ℕ} → Joined N Every x y → Joined N (But k v) x y
      around j stay = stay
      around j (arc i w z a) = by_eq w v (λ e. by_dec (kinds i k) (λ u. rw (e, u) j) (λ u. arc i w z (λ _. u))) (λ n. arc i w z (λ e. absurd (n e)))
      around j (back h) = back (around j h)
      around j (via g h) = via (around j g) (around j h)

      ends : (k : Kind) → tail N k v ≢ 0 → Node N (tail N k v) × Node N v
      ends principal_arc d = (node_principal N ok v (principal_node N ok v d) d, principal_node N ok v d)
      ends secondary_arc d = (node_secondary N ok v d, reticulation_node N ok v d)

  -- a secondary arc is never a cut arc
  pub secondary_not_cut : (v : ℕ) → ¬ (CutArc N secondary_arc v)
  secondary_not_cut v c = c.parted (spans (But secondary_arc v) (λ _ _. kind_not) c.one_in c.other_in)

  -- the arc into w is a cut arc exactly when w is a top
  module _ (w : ℕ) (q : principal w ≢ 0) where
    higher : (x : ℕ) → N.rank x < N.rank w → above N all_principal w x ≡ false
    higher x l = by_bool (above N all_principal w x) (λ a. by_eq w x (λ e. absurd (omega (arith, ap N.rank e))) (λ e. absurd (omega (arith, above_low N ok all_principal w x a e)))) (λ a. a)

    outside : above N all_principal w (principal w) ≡ false
    outside = higher (principal w) (fall_principal N ok w (omega (arith, principal_node N ok w q)))

    -- without the arc into w what is below w hangs on w, the rest on the root
    abbrev side : Bool → ℕ
    side b = cond b w ok.root

    sides : {x : ℕ} → Node N x → Joined N (But principal_arc w) (side (above N all_principal w x)) x
    sides = climb (But principal_arc w) (λ x. side (above N all_principal w x)) (λ x k. by_eq w x (λ e. stop (rw (← e, above_self N ok all_principal w)))
        (λ n. by_eq (principal x) 0
        (λ e. stop (rw (ok.root_one x k e, higher ok.root (above_low N ok all_principal ok.root w (root_above N ok w (principal_node N ok w q)) (λ u. q (rw (← u) ok.root_principal))))))
        (λ z. climbs z (λ e. absurd (n (sym e))) (rw (tree_not N ok w x n)))))

    -- a secondary arc from one side to the other joins the sides
    cross : (a b : Bool) → a ≢ b → Joined N (But principal_arc w) (side a) (side b) → Joined N (But principal_arc w) ok.root w
    cross true true n j = absurd (n refl)
    cross true false n j = back j
    cross false true n j = j
    cross false false n j = absurd (n refl)

    pub cut_is_top : CutArc N principal_arc w → is_top N w ≡ true
    unfolding is_top
    cut_is_top c = rw (not_same q) (is_every size _ (λ r l u. by_eq (secondary r) 0 (λ e. rw (is_same e)) (λ d. rw (not_same d) (is_beq (keeps r d)))))
      where
        keeps : (r : ℕ) → Reticulation N r → above N all_principal w r ≡ above N all_principal w (secondary r)
        keeps r d = by_dec (Bool-discrete (above N all_principal w r) (above N all_principal w (secondary r))) (λ e. e) (λ n.
            let j = cross (above N all_principal w r) (above N all_principal w (secondary r)) n
            (via (sides (reticulation_node N ok r d)) (via (back (arc secondary_arc r d (λ _ e. kind_not (sym e)))) (back (sides (node_secondary N ok r d))))) in
            absurd ((cut_iff_ends principal_arc w q).0 c (via (back (rw outside at (sides (node_principal N ok w (principal_node N ok w q) q)))) j)))

    pub top_is_cut : is_top N w ≡ true → CutArc N principal_arc w
    top_is_cut t = (cut_iff_ends principal_arc w q).1 (λ j. clash (invariant N (But principal_arc w) (above N all_principal w) keep j ∙ above_self N ok all_principal w) outside)
      where
        keep : (k : Kind) (v : ℕ) → tail N k v ≢ 0 → But principal_arc w k v → above N all_principal w (tail N k v) ≡ above N all_principal w v
        keep principal_arc v z b = sym (tree_not N ok w v (λ e. b (sym e) refl))
        keep secondary_arc v z b = sym (top_reticulation N ok w v (principal_node N ok w q) t z)

    pub cut_iff_top : CutArc N principal_arc w ↔ (is_top N w ≡ true)
    cut_iff_top = (cut_is_top, top_is_cut)

  -- no arc into a reticulation is a cut arc
  pub reticulation_not_cut : (v : ℕ) → Reticulation N v → (k : Kind) → ¬ (CutArc N k v)
  reticulation_not_cut v d principal_arc c = clash (cut_is_top v c.is_arc c) (reticulation_not_top N ok v d)
  reticulation_not_cut v d secondary_arc c = secondary_not_cut v c

  -- so the cut arcs are the principal arcs into tops
  pub cut_iff : (k : Kind) (v : ℕ) → CutArc N k v ↔ ((k ≡ principal_arc) × (principal v ≢ 0) × (is_top N v ≡ true))
  cut_iff principal_arc v = ((λ c. (refl, c.is_arc, cut_is_top v c.is_arc c)), λ h. top_is_cut v h.1 h.2)
  cut_iff secondary_arc v = ((λ c. absurd (secondary_not_cut v c)), λ h. absurd (kind_not (sym h.0)))

  pub top_iff : (v : ℕ) → Top N v ↔ (is_top N v ≡ true)
  top_iff v = ((λ t. by_eq (principal v) 0 (top_root N ok v) (λ q. cut_is_top v q (t principal_arc q))), arcs)
    where
      arcs : is_top N v ≡ true → Top N v
      arcs t principal_arc q = top_is_cut v q t
      arcs t secondary_arc d = clash t (reticulation_not_top N ok v d)

  -- linked without cut arcs exactly when in the same component
  to_component : {x : ℕ} → Node N x → Linked N (component N x) x
  to_component = climb _ (component N) (λ x k. by_bool (is_top N x) (λ t. stop (component_top N ok x t))
      (λ t. climbs (λ e. clash (top_root N ok x e) t) (λ c. clash (cut_is_top x c.is_arc c) t) (component_up N ok x t)))

  pub linked_iff : (v w : ℕ) → Node N v → Node N w → Linked N v w ↔ (component N v ≡ component N w)
  linked_iff v w kv kw = (invariant N _ (component N) keep, λ e. via (back (rw e at (to_component kv))) (to_component kw))
    where
      keep : (k : Kind) (v : ℕ) → tail N k v ≢ 0 → ¬ (CutArc N k v) → component N (tail N k v) ≡ component N v
      keep principal_arc v z c = by_bool (is_top N v) (λ t. absurd (c (top_is_cut v z t))) (λ t. sym (component_up N ok v t))
      keep secondary_arc v z c = component_secondary N ok v z

  -- each component has exactly one top node, and goes by it
  pub one_top : (v : ℕ) → Node N v → TopOf N v (component N v)
  one_top v k = record {
    is_node = component_node N ok v k;
    is_top_lem = (top_iff (component N v)).1 (top_component N ok v);
    linked = to_component k;
    alone = λ u ku t j. sym (component_top N ok u ((top_iff u).0 t)) ∙ (linked_iff u v ku k).0 j;
  }

  -- the reticulations that a node is linked with are the reticulations of its component
  pub member_iff : (v r : ℕ) → Node N v → (member_of N (component N v) r ≡ true) ↔ (Reticulation N r × Linked N v r)
  member_iff v r k = (
    (λ t. let m = member_is N (component N v) r t in (m.0, (linked_iff v r k (reticulation_node N ok r m.0)).1 (sym m.1))),
    λ m. is_member N (component N v) r m.0 (sym ((linked_iff v r k (reticulation_node N ok r m.0)).0 m.1)),
  )
