-- Refusals 8, 9 and 10 asked node by node, as the code asks. A leaf's species is borne by one node alone exactly when no other leaf bears it, once no node
-- but a leaf has one; a child that is no reticulation is one by a principal arc.
-- Assumes nothing.
use Rattle.std.proofs.Common.{◌≡◌, refl, sym, ◌∙◌, ap, ◌≢◌, Bool, true, false, not, ◌&&◌, ◌||◌, ℕ, ◌+◌, ◌≤◌, arith}
use mathlib.Core.Bool.{and_comm, or-false}
use Rattle.finite.specs.Tests.{same, under}
use Rattle.finite.specs.Range.{any, every, children}
use Rattle.finite.proofs.Cases.{by_bool, by_eq, clash}
use Rattle.std.proofs.lemmas.Bool.{or_left, or_right, not-true, not_from_false, not_from_true}
use Rattle.finite.proofs.Tests.{is_same, same_is, not_same, same_not, is_under, not_under, test_iff, or_r}
use Rattle.finite.proofs.Every.{some_at, is_some, every_at, is_every}
use Rattle.finite.proofs.Count.{count_two, count_some, count_find, count_zero, zero_count, count_another}
use Rattle.topology.specs.Networks.{Node}
use Rattle.topology.specs.Lines.{NodeLines, network}
use Rattle.topology.proofs.Lines.{node_of, node_high}
use Rattle.shapes.specs.Refusals.{reticulation_with, inner_with, leaf_with, shapeless, leaf_at, refusal9, Refusal9, leaf_without, other_with_lem, two_alike, child_at, reticulation_if_child, only_reticulations_at, Child, by_principal, by_secondary}
use Rattle.shapes.specs.inner.ShortForms.{wrong_species, wrong_species_at, plain_parent, plain_parent_at, only_reticulations}
use Rattle.shapes.proofs.Readings.{leaf_at_is, is_leaf_at, leaf_at_not, not_leaf_at, reading_9, child_is, is_child}

-- 8: a node with a secondary parent is a reticulation or nothing, any other is an inner node or a leaf
module _ (p s a b : ℕ) where
  pub with_secondary : s ≢ 0 → shapeless p s a b ≡ not (not (same p 0) && same a 1 && same b 0)
  unfolding shapeless reticulation_with inner_with leaf_with
  with_secondary d = by_bool (same p 0) (λ t. rw (not_same d, t))
      (λ t. rw (not_same d, t) (ap not (or-false ((same a 1 && same b 0) || false) ∙ or-false (same a 1 && same b 0))))

  module _ (e : s ≡ 0) where
    without : shapeless p s a b ≡ not ((same (a + b) 2 && under 0 a) || (same a 0 && same b 0))
    unfolding shapeless reticulation_with inner_with leaf_with
    without = by_bool (same p 0) (λ t. rw (is_same e, t)) (λ t. rw (is_same e, t))

    pub no_principal : a ≡ 0 → shapeless p s a b ≡ not (same b 0)
    no_principal z = without ∙ rw (is_same z, not_under {m = 0} {n = a} (omega arith)) (by_bool (same (a + b) 2) (λ t. rw t) (λ t. rw t))

    pub some_principal : a ≢ 0 → shapeless p s a b ≡ not (same (a + b) 2)
    some_principal d = without ∙ rw (not_same d, is_under {m = 0} {n = a} (omega arith)) (by_bool (same (a + b) 2) (λ t. rw t) (λ t. rw t))

module _ (L : NodeLines) where
  abbrev bears : ℕ → ℕ → Bool
  bears k w = same (L.species w) k

  wrong_told : (v : ℕ) → Node (network L) v → wrong_species_at L v ≡ true → Refusal9 L
  unfolding wrong_species_at wrong_species children
  wrong_told v k h = by_bool (leaf_at L v)
      (λ t. by_eq (L.species v) 0 (leaf_without v k (leaf_at_is L v t))
      (λ d. shared t d (count_another L.size v (bears (L.species v)) k.low (node_high L v k) (is_same {m = L.species v} refl) (same_not _ _ (not-true _ (rw (t, not_same d) at h))))))
      (λ t. other_with_lem v k (leaf_at_not L v t) (same_not _ _ (not-true _ (rw t at h))))
    where
      shared : leaf_at L v ≡ true → L.species v ≢ 0 → (w : ℕ) × (1 ≤ w) × (w ≤ L.size) × (v ≢ w) × (bears (L.species v) w ≡ true) → Refusal9 L
      shared t d r = let j : Node (network L) r.0 = node_of L r.0 r.1 r.2 in
          let e : L.species r.0 ≡ L.species v = same_is _ _ r.4 in
          by_bool (leaf_at L r.0)
          (λ q. two_alike v r.0 k j r.3 (leaf_at_is L v t) (leaf_at_is L r.0 q) (sym e))
          (λ q. other_with_lem r.0 j (leaf_at_not L r.0 q) (λ z. d (sym e ∙ z)))

  wrong_is : Refusal9 L → any L.size (wrong_species_at L) ≡ true
  unfolding wrong_species_at wrong_species children
  wrong_is (leaf_without v k f e) = is_some L.size v (wrong_species_at L) k.low (node_high L v k) (rw (is_leaf_at L v f, is_same e))
  wrong_is (other_with_lem v k f d) = is_some L.size v (wrong_species_at L) k.low (node_high L v k) (rw (not_leaf_at L v f, not_same d))
  wrong_is (two_alike v w k j d f g e) = is_some L.size v (wrong_species_at L) k.low (node_high L v k)
      (rw (is_leaf_at L v f) (or_right (same (L.species v) 0) _ (not_from_false _ (not_same (λ q. omega (
        arith,
        count_two L.size v w (bears (L.species v)) k.low (node_high L v k) j.low (node_high L w j) d (is_same {m = L.species v} refl) (is_same (sym e)),
      ))))))

  pub wrong_iff : any L.size (wrong_species_at L) ≡ refusal9 L
  wrong_iff = test_iff (any L.size (wrong_species_at L)) (refusal9 L)
      (λ t. let r = some_at L.size (wrong_species_at L) t in (reading_9 L).1 (wrong_told r.0 (node_of L r.0 r.1 r.2) r.3))
      (λ t. wrong_is ((reading_9 L).0 t))

-- 10: by the arcs out of v, and those that lead to no reticulation
module _ (L : NodeLines) (v : ℕ) (l : 1 ≤ v) where
  abbrev a : ℕ
  a = children L.size L.principal v

  abbrev b : ℕ
  b = children L.size L.secondary v

  abbrev k : ℕ
  k = children L.size (plain_parent_at L) v

  -- a node that is no reticulation has v as its plain parent if it is a child of v
  plain_is : (w : ℕ) → L.secondary w ≡ 0 → Child L v w → plain_parent_at L w ≡ v
  unfolding plain_parent_at plain_parent
  plain_is w z (by_principal e) = rw (is_same z) e
  plain_is w z (by_secondary e) = absurd (omega arith)

  is_plain : (w : ℕ) → plain_parent_at L w ≡ v → (L.secondary w ≡ 0) × Child L v w
  unfolding plain_parent_at plain_parent
  is_plain w e = by_eq (L.secondary w) 0 (λ z. (z, by_principal (rw (is_same z) at e)))
      (λ d. absurd (let q : 0 ≡ v = rw (not_same d) at e in omega arith))

  has_child : any L.size (child_at L v) ≡ (not (same a 0) || not (same b 0))
  unfolding children
  has_child = test_iff (any L.size (child_at L v)) (not (same a 0) || not (same b 0))
      (λ t. let r = some_at L.size (child_at L v) t in counted r.0 r.1 r.2 (child_is L v r.0 r.3))
      (λ t. by_eq a 0
      (λ z. found L.secondary (λ w e. by_secondary e) (same_not _ _ (not-true _ (rw (is_same z) at t))))
      (found L.principal (λ w e. by_principal e)))
    where
      one : (parent : ℕ → ℕ) (w : ℕ) → 1 ≤ w → w ≤ L.size → parent w ≡ v → not (same (children L.size parent v) 0) ≡ true
      one parent w lw uw e = not_from_false _ (not_same (λ z. omega (arith, count_some L.size w (λ x. same (parent x) v) lw uw (is_same e))))

      counted : (w : ℕ) → 1 ≤ w → w ≤ L.size → Child L v w → (not (same a 0) || not (same b 0)) ≡ true
      counted w lw uw (by_principal e) = or_left _ _ (one L.principal w lw uw e)
      counted w lw uw (by_secondary e) = or_right (not (same a 0)) _ (one L.secondary w lw uw e)

      found : (parent : ℕ → ℕ) → ((w : ℕ) → parent w ≡ v → Child L v w) → children L.size parent v ≢ 0 → any L.size (child_at L v) ≡ true
      found parent child d = let f = count_find L.size (λ x. same (parent x) v) (omega arith) in is_some L.size f.0 (child_at L v) f.1 f.2 (is_child L v f.0 (child f.0 (same_is _ _ f.3)))

  none_plain : every L.size (reticulation_if_child L v) ≡ same k 0
  unfolding reticulation_if_child children
  none_plain = test_iff (every L.size (reticulation_if_child L v)) (same k 0)
      (λ t. is_same (count_zero L.size (λ w. same (plain_parent_at L w) v) (λ w lw uw. not_same (λ e. let p = is_plain w e in
      clash (or_r (not (child_at L v w)) _ (every_at L.size (reticulation_if_child L v) t w lw uw) (not_from_true _ (is_child L v w p.1))) (not_from_true _ (is_same p.0))))))
      (λ t. is_every L.size (reticulation_if_child L v) (λ w lw uw. by_bool (child_at L v w)
      (λ q. or_right (not (child_at L v w)) _ (not_from_false _ (not_same (λ z. same_not _ _ (zero_count L.size (λ x. same (plain_parent_at L x) v) (same_is _ _ t) w lw uw) (plain_is w z (child_is L v w q))))))
      (λ q. or_left _ _ (not_from_false _ q))))

  pub only_iff : only_reticulations a b k ≡ only_reticulations_at L v
  unfolding only_reticulations only_reticulations_at
  only_iff = rw (has_child, none_plain) (and_comm (same k 0) (not (same a 0) || not (same b 0)))
