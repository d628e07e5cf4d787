-- Displayed trees of a network: each is a tree, and where its marks are near, two switchings that agree in v's component display trees that are alike
-- at v. So the last-common-ancestor cost is local under near marks; and the marks of 01 are near.
-- Assumes nothing.
use Rattle.std.proofs.Common.{◌≡◌, refl, sym, ◌∙◌, ap, ◌≢◌, ℕ, ◌+◌, ◌≤◌, arith}
use mathlib.Core.Bool.{and-false}
use Rattle.finite.specs.Tests.{same, tally}
use Rattle.finite.specs.Range.{count, children}
use Rattle.finite.proofs.Cases.{by_bool, by_eq}
use Rattle.finite.proofs.Tests.{is_same, not_same}
use Rattle.finite.proofs.Sum.{sum_le, sum_add}
use Rattle.finite.proofs.Count.{count_same, count_some, count_two, count_three}
use Rattle.topology.specs.Networks.{Network, Node, Sound, Reticulation, is_reticulation}
use Rattle.topology.specs.Switchings.{Switching, on_secondary, parent, above}
use Rattle.topology.specs.Components.{is_top, component, Agree}
use Rattle.topology.proofs.Above.{parent_agree, parent_cases, principal_node, reticulation_node, node_parent, falls}
use Rattle.topology.proofs.Components.{component_parent, top_root, top_parent, above_top, above_local, reticulation_not_top}
use Rattle.reconciliation.specs.GeneTrees.{GeneTree, Seated}
use Rattle.reconciliation.proofs.Agreement.{parent_same, secondary_same}
use Rattle.displayed.specs.Displayed.{Tree}
use Rattle.displayed.specs.Mapping.{SeatedIn}
use Rattle.displayed.specs.inner.Charges.{Alike}
use Rattle.displayed.specs.Displays.{switched, Marks, display, displayed, Near, two_arcs, base}

-- every switching displays a tree
pub display_tree : (N : Network) → Sound N → (M : Marks) (σ : Switching) → Tree (displayed N M σ)
unfolding display switched
display_tree N ok M σ = record {
  falls = falls N ok σ;
  inside = λ v k. by_eq (parent N σ v) 0 (λ e. rw e (omega arith)) (λ d. (node_parent N ok σ v (record { low = k.low; high = k.high }) d).high);
  root = ok.root;
  root_in = record { low = ok.root_in.low; high = ok.root_in.high };
  root_up = top_parent N ok σ ok.root (top_root N ok ok.root ok.root_principal) ∙ ok.root_principal;
  root_one = λ v k e. parent_cases N σ v (λ q. ok.root_one v (record { low = k.low; high = k.high }) (sym q ∙ e)) (λ d q. absurd (d (sym q ∙ e)));
}

-- an on arc that leaves a node enters a node
pub arc_node : (N : Network) → Sound N → (σ : Switching) (v x : ℕ) → Node N v → parent N σ x ≡ v → Node N x
arc_node N ok σ v x k e = parent_cases N σ x (λ u. principal_node N ok x (λ q. some (sym e ∙ u ∙ q))) (λ m _. reticulation_node N ok x m)
  where
    some : v ≢ 0
    some q = omega (arith, k.low)

module _ (N : Network) (ok : Sound N) (σ τ : Switching) (v : ℕ) (k : Node N v) (a : Agree N σ τ (component N v)) where
  -- the on arcs out of v are the same
  arc_local : (x : ℕ) → same (parent N σ x) v ≡ same (parent N τ x) v
  arc_local x = by_bool (is_top N x) (λ t. rw (top_parent N ok σ x t, top_parent N ok τ x t))
      (λ t. by_eq (component N x) (component N v) (λ q. rw (parent_agree N σ τ x (λ m. a x m q)))
      (λ q. not_same (λ u. q (sym (component_parent N ok σ x t) ∙ ap (component N) u)) ∙ sym (not_same (λ u. q (sym (component_parent N ok τ x t) ∙ ap (component N) u)))))

  -- and reach the same nodes: the target is in v's component, or a top
  arc_reaches : (x : ℕ) → Node N x → parent N τ x ≡ v → (l : ℕ) → above N σ x l ≡ above N τ x l
  arc_reaches x kx e l = by_bool (is_top N x)
      (λ t. above_top N ok σ x l kx t ∙ sym (above_top N ok τ x l kx t))
      (λ t. above_local N ok σ τ x l (λ r m q. a r m (q ∙ sym (component_parent N ok τ x t) ∙ ap (component N) e)))

  secondary_local : (x : ℕ) → parent N τ x ≡ v → on_secondary N σ x ≡ on_secondary N τ x
  unfolding on_secondary is_reticulation
  secondary_local x e = by_eq (N.secondary x) 0 (λ q. rw (is_same q, and-false (σ x), and-false (τ x)))
      (λ d. rw (a x d (sym (component_parent N ok τ x (reticulation_not_top N ok x d)) ∙ ap (component N) e)))

  two_local : two_arcs (switched N σ) v ≡ two_arcs (switched N τ) v
  unfolding two_arcs switched children
  two_local = rw (count_same N.size (λ x. same (parent N σ x) v) (λ x. same (parent N τ x) v) (λ x _ _. arc_local x))

  -- alike at v
  pub display_alike : (M : Marks) → Near N M → Alike (displayed N M σ) (displayed N M τ) v
  unfolding display switched above
  display_alike M n = record {
    size = refl;
    arcs = arc_local;
    beyond = λ c d e. arc_reaches c (arc_node N ok τ v c k e) e;
    lateral = λ c d e. n.lateral σ τ v c k a (arc_node N ok τ v c k e) e;
    forks = n.forks σ τ v k a;
  }

-- leaf genes that sit at leaves of the network sit at leaves of each tree, and no more than two on arcs leave a node
module _ (N : Network) (ok : Sound N) (σ : Switching) (G : GeneTree) (s : Seated N G) where
  -- each on arc is one of the two kinds
  pub on_arcs_lem : (v : ℕ) → children N.size (parent N σ) v ≤ children N.size N.principal v + children N.size N.secondary v
  unfolding children count
  on_arcs_lem v = omega (
    arith,
    sum_le N.size (λ x. tally (same (parent N σ x) v)) (λ x. tally (same (N.principal x) v) + tally (same (N.secondary x) v)) (λ x _ _. parent_cases N σ x
        (λ e. rw e (omega arith)) (λ _ e. rw e (omega arith))),
    sum_add N.size (λ x. tally (same (N.principal x) v)) (λ x. tally (same (N.secondary x) v)),
  )

  -- two on arcs out of one place leave a node, for one node alone has no parent
  fork_node : (c d : ℕ) → Node N c → Node N d → c ≢ d → parent N σ c ≡ parent N σ d → Node N (parent N σ c)
  unfolding display switched
  fork_node c d kc kd n q =
      let o = display_tree N ok base σ in
      node_parent N ok σ c kc (λ e. n (o.root_one c (omega (arith, kc.low, kc.high)) e ∙ sym (o.root_one d (omega (arith, kd.low, kd.high)) (sym q ∙ e))))

  -- so no three on arcs leave one place
  pub no_third : (c d e : ℕ) → Node N c → Node N d → Node N e → c ≢ d → e ≢ c → e ≢ d → parent N σ d ≡ parent N σ c → parent N σ e ≡ parent N σ c → ⊥
  unfolding children
  no_third c d e kc kd ke n a b q r = omega (
    arith,
    count_three N.size c d e (λ x. same (parent N σ x) (parent N σ c)) kc.low kc.high kd.low kd.high ke.low ke.high n (λ z. a (sym z)) (λ z. b (sym z)) (is_same refl) (is_same q) (is_same r),
    on_arcs_lem (parent N σ c),
    s.few (parent N σ c) (fork_node c d kc kd n (sym q)),
  )

  pub seated : SeatedIn (displayed N base σ) G
  unfolding display switched base two_arcs children
  seated = record {
    seat = λ g l u e. let k = s.seat g l u e in record { low = k.low; high = k.high };
    ends = λ g c l u e k q. omega (
      arith,
      on_arcs_lem (G.leaf g),
      s.no_principal g l u e,
      s.no_secondary g l u e,
      count_some N.size c (λ x. same (parent N σ x) (G.leaf g)) k.low k.high (is_same q),
    );
    two = λ c d kc kd n q. is_same (omega (
      arith,
      on_arcs_lem (parent N σ c),
      s.few (parent N σ c) (fork_node c d (record { low = kc.low; high = kc.high }) (record { low = kd.low; high = kd.high }) n q),
      count_two N.size c d (λ x. same (parent N σ x) (parent N σ c)) kc.low kc.high kd.low kd.high n (is_same refl) (is_same (sym q)),
    ));
  }

-- only what a switching says at reticulations counts
pub switched_agree : (N : Network) (σ τ : Switching) → ((r : ℕ) → Reticulation N r → σ r ≡ τ r) → switched N σ ≡ switched N τ
unfolding switched
switched_agree N σ τ a = rw (parent_same N σ τ a, secondary_same N σ τ a)

-- the marks are near
pub base_near : (N : Network) → Sound N → Near N base
unfolding base switched
base_near N ok = record {
  lateral = λ σ τ v c k a _ e. secondary_local N ok σ τ v k a c e;
  forks = λ σ τ v k a. two_local N ok σ τ v k a;
}
