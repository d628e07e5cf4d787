-- Each refusal's test says what 01 says: from the test to its reading by the clause that passed, and back clause by clause. So the verdict of the list
-- tells the first refusal that applies (`shapes_tell`).
-- Assumes nothing.
use Rattle.std.proofs.Common.{◌≡◌, ◌↔◌, Bool, true, false, not, ◌&&◌, ◌||◌, ℕ, ◌<◌, arith}
use Rattle.finite.specs.Tests.{same, under}
use Rattle.finite.specs.Range.{any, every, children}
use Rattle.finite.specs.Refusals.{AllTell, no_more, one_more}
use Rattle.finite.proofs.Cases.{by_bool, clash}
use Rattle.std.proofs.lemmas.Bool.{and_from, or_left, or_right, not-true, not-false, not_from_false, not_from_true}
use Rattle.finite.proofs.Tests.{is_same, same_is, not_same, same_not, is_under, under_is, and_l, and_r, or_r}
use Rattle.finite.proofs.Every.{every_at, is_every}
use Rattle.finite.proofs.Refusals.{tell}
use Rattle.topology.specs.Networks.{Network, Node}
use Rattle.topology.specs.Lines.{NodeLines, network}
use Rattle.topology.proofs.Lines.{node_of, node_high, some_node, by_some}
use Rattle.shapes.specs.Refusals.{reticulation_with, inner_with, leaf_with, shapeless, shapeless_at, refusal8, IsReticulation, IsInner, IsLeaf, Shape, reticulation, inner, leaf, Refusal8, leaf_at, refusal9, Refusal9, leaf_without, other_with_lem, two_alike, child_with, child_at, reticulation_if_child, only_reticulations_at, refusal10, Child, by_principal, by_secondary, Refusal10, after_eight, shape_refusals}

-- what a node is
module _ (N : Network) (v : ℕ) where
  abbrev a : ℕ
  a = children N.size N.principal v

  abbrev b : ℕ
  b = children N.size N.secondary v

  reticulation_is : reticulation_with (N.principal v) (N.secondary v) a b ≡ true → IsReticulation N v
  unfolding reticulation_with
  reticulation_is h = record {
    first_parent = same_not _ _ (not-true _ (search (and_l, and_r)));
    second_parent = same_not _ _ (not-true _ (search (and_l, and_r)));
    one_principal = same_is _ _ (search (and_l, and_r));
    no_secondary = same_is _ _ (search (and_l, and_r));
  }

  is_reticulation_lem : IsReticulation N v → reticulation_with (N.principal v) (N.secondary v) a b ≡ true
  unfolding reticulation_with
  is_reticulation_lem r = rw (not_same r.first_parent, not_same r.second_parent, is_same r.one_principal, is_same r.no_secondary)

  inner_is : inner_with (N.secondary v) a b ≡ true → IsInner N v
  unfolding inner_with
  inner_is h = record {
    one_parent = same_is _ _ (search (and_l, and_r));
    two_arcs_lem = same_is _ _ (search (and_l, and_r));
    some_principal = let l : 0 < a = under_is _ _ (search (and_l, and_r)) in omega arith;
  }

  is_inner : IsInner N v → inner_with (N.secondary v) a b ≡ true
  unfolding inner_with
  is_inner r = let l : under 0 a ≡ true = is_under {m = 0} {n = a} (omega (arith, r.some_principal)) in rw (is_same r.one_parent, is_same r.two_arcs_lem, l)

  leaf_is : leaf_with (N.secondary v) a b ≡ true → IsLeaf N v
  unfolding leaf_with
  leaf_is h = record {
    one_parent = same_is _ _ (search (and_l, and_r));
    no_principal = same_is _ _ (search (and_l, and_r));
    no_secondary = same_is _ _ (search (and_l, and_r));
  }

  is_leaf : IsLeaf N v → leaf_with (N.secondary v) a b ≡ true
  unfolding leaf_with
  is_leaf r = rw (is_same r.one_parent, is_same r.no_principal, is_same r.no_secondary)

  pub shape_is : shapeless (N.principal v) (N.secondary v) a b ≡ false → Shape N v
  unfolding shapeless
  shape_is h = by_bool (reticulation_with (N.principal v) (N.secondary v) a b) (λ t. reticulation (reticulation_is t))
      (λ q. by_bool (inner_with (N.secondary v) a b) (λ t. inner (inner_is t))
      (λ z. leaf (leaf_is (rw (q, z) at (not-false (reticulation_with (N.principal v) (N.secondary v) a b || inner_with (N.secondary v) a b || leaf_with (N.secondary v) a b) h)))))

  is_shape : Shape N v → shapeless (N.principal v) (N.secondary v) a b ≡ false
  unfolding shapeless
  is_shape (reticulation r) = rw (is_reticulation_lem r)
  is_shape (inner r) = not_from_true _ (or_left _ _ (or_right (reticulation_with (N.principal v) (N.secondary v) a b) _ (is_inner r)))
  is_shape (leaf r) = not_from_true _ (or_right (reticulation_with (N.principal v) (N.secondary v) a b || inner_with (N.secondary v) a b) _ (is_leaf r))

module _ (L : NodeLines) where
  -- 8
  pub shape_at : (v : ℕ) → shapeless_at L v ≡ false → Shape (network L) v
  unfolding shapeless_at network
  shape_at v t = shape_is (network L) v t

  at_shape : (v : ℕ) → Shape (network L) v → shapeless_at L v ≡ false
  unfolding shapeless_at network
  at_shape v s = is_shape (network L) v s

  pub reading_8 : (refusal8 L ≡ true) ↔ Refusal8 L
  unfolding refusal8
  reading_8 = (
    (λ h. by_some L (shapeless_at L) h (λ v k t. record { node = v; is_node = k; none = λ s. clash t (at_shape v s) })),
    λ r. some_node L (shapeless_at L) r.node r.is_node (by_bool (shapeless_at L r.node) (λ t. t) (λ t. absurd (r.none (shape_at r.node t)))),
  )

  -- 9
  pub leaf_at_is : (v : ℕ) → leaf_at L v ≡ true → IsLeaf (network L) v
  unfolding leaf_at network
  leaf_at_is v t = leaf_is (network L) v t

  pub is_leaf_at : (v : ℕ) → IsLeaf (network L) v → leaf_at L v ≡ true
  unfolding leaf_at network
  is_leaf_at v r = is_leaf (network L) v r

  pub not_leaf_at : (v : ℕ) → ¬ (IsLeaf (network L) v) → leaf_at L v ≡ false
  not_leaf_at v q = by_bool (leaf_at L v) (λ t. absurd (q (leaf_at_is v t))) (λ t. t)

  pub leaf_at_not : (v : ℕ) → leaf_at L v ≡ false → ¬ (IsLeaf (network L) v)
  leaf_at_not v t r = clash (is_leaf_at v r) t

  abbrev without : ℕ → Bool
  without v = leaf_at L v && same (L.species v) 0

  abbrev other_with : ℕ → Bool
  other_with v = not (leaf_at L v) && not (same (L.species v) 0)

  abbrev alike : ℕ → ℕ → Bool
  alike v w = leaf_at L v && leaf_at L w && not (same v w) && same (L.species v) (L.species w)

  alike_told : (v w : ℕ) → Node (network L) v → Node (network L) w → alike v w ≡ true → Refusal9 L
  alike_told v w k j t = two_alike v w k j (same_not _ _ (not-true (same v w) (search (and_l, and_r))))
      (leaf_at_is v (search (and_l, and_r))) (leaf_at_is w (search (and_l, and_r))) (same_is _ _ (search (and_l, and_r)))

  from_9 : refusal9 L ≡ true → Refusal9 L
  unfolding refusal9
  from_9 h = by_bool (any L.size without)
      (λ t. by_some L without t (λ v k q. leaf_without v k (leaf_at_is v (and_l _ (same (L.species v) 0) q)) (same_is _ _ (and_r (leaf_at L v) _ q))))
      (λ a. by_bool (any L.size other_with)
      (λ t. by_some L other_with t (λ v k q. other_with_lem v k (leaf_at_not v (not-true _ (and_l _ (not (same (L.species v) 0)) q))) (same_not _ _ (not-true _ (and_r (not (leaf_at L v)) _ q)))))
      (λ b. let t : any L.size (λ v. any L.size (alike v)) ≡ true = rw (a, b) at h in
      by_some L (λ v. any L.size (alike v)) t (λ v k q. by_some L (alike v) q (λ w j z. alike_told v w k j z))))

  to_9 : Refusal9 L → refusal9 L ≡ true
  unfolding refusal9
  to_9 (leaf_without v k f e) = or_left _ _ (or_left _ _ (some_node L without v k (rw (is_leaf_at v f, is_same e))))
  to_9 (other_with_lem v k f d) = or_left _ _ (or_right (any L.size without) _ (some_node L other_with v k (rw (not_leaf_at v f, not_same d))))
  to_9 (two_alike v w k j d f g e) = or_right (any L.size without || any L.size other_with) _
      (some_node L (λ v. any L.size (alike v)) v k (some_node L (alike v) w j (rw (is_leaf_at v f, is_leaf_at w g, not_same d, is_same e))))

  pub reading_9 : (refusal9 L ≡ true) ↔ Refusal9 L
  reading_9 = (from_9, to_9)

  -- 10
  pub child_is : (v w : ℕ) → child_at L v w ≡ true → Child L v w
  unfolding child_at child_with
  child_is v w t = by_bool (same (L.principal w) v) (λ q. by_principal (same_is _ _ q)) (λ q. by_secondary (same_is _ _ (rw q at t)))

  pub is_child : (v w : ℕ) → Child L v w → child_at L v w ≡ true
  unfolding child_at child_with
  is_child v w (by_principal e) = or_left _ _ (is_same e)
  is_child v w (by_secondary e) = or_right (same (L.principal w) v) _ (is_same e)

  only_told : (v : ℕ) → Node (network L) v → only_reticulations_at L v ≡ true → Refusal10 L
  unfolding only_reticulations_at reticulation_if_child
  only_told v k t = by_some L (child_at L v) (and_l _ (every L.size (reticulation_if_child L v)) t) (λ w j q. record {
    node = v;
    is_node = k;
    child = w;
    child_node = j;
    is_child = child_is v w q;
    all_reticulations = λ x i f. same_not _ _ (not-true _ (or_r (not (child_at L v x)) _
        (every_at L.size (reticulation_if_child L v) (and_r (any L.size (child_at L v)) _ t) x i.low (node_high L x i)) (not_from_true _ (is_child v x f))));
  })

  only_is : (r : Refusal10 L) → only_reticulations_at L r.node ≡ true
  unfolding only_reticulations_at reticulation_if_child
  only_is r = and_from _ _ (some_node L (child_at L r.node) r.child r.child_node (is_child r.node r.child r.is_child))
      (is_every L.size (reticulation_if_child L r.node) (λ w l u. by_bool (child_at L r.node w)
      (λ t. or_right (not (child_at L r.node w)) _ (not_from_false _ (not_same (r.all_reticulations w (node_of L w l u) (child_is r.node w t)))))
      (λ t. or_left _ _ (not_from_false _ t))))

  pub reading_10 : (refusal10 L ≡ true) ↔ Refusal10 L
  unfolding refusal10
  reading_10 = (
    (λ h. by_some L (only_reticulations_at L) h only_told),
    λ r. some_node L (only_reticulations_at L) r.node r.is_node (only_is r),
  )

  -- the three one after the other
  pub shapes_tell : AllTell (shape_refusals L)
  unfolding shape_refusals after_eight
  shapes_tell = one_more (tell 8 (omega arith, omega arith) reading_8) (λ _. one_more (tell 9 (omega arith, omega arith) reading_9) (λ _. one_more (tell 10 (omega arith, omega arith) reading_10) (λ _. no_more)))
