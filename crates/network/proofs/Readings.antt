-- Each refusal's test says what 01 says: from the test to its reading by the clause that passed, and back clause by clause. So the verdict of the list
-- tells the first refusal that applies (`network_tells`).
-- Assumes nothing.
use Rattle.std.proofs.Common.{◌≡◌, ◌≢◌, ◌↔◌, true, not, ◌&&◌, ℕ, arith}
use Rattle.finite.specs.Tests.{same, under}
use Rattle.finite.specs.Range.{any, children}
use Rattle.finite.specs.Refusals.{AllTell, one_more}
use Rattle.finite.proofs.Cases.{by_bool, clash}
use Rattle.std.proofs.lemmas.Bool.{or_left, or_right, not-true}
use Rattle.finite.proofs.Tests.{is_same, same_is, not_same, same_not, under_is, under_not, and_l, and_r, test_laws}
use Rattle.finite.proofs.Count.{count_find, count_one, count_alone}
use Rattle.finite.proofs.Refusals.{tell}
use Rattle.topology.specs.Networks.{Node}
use Rattle.topology.specs.Lines.{NodeLines, network}
use Rattle.topology.proofs.Lines.{node_of, node_high, some_node, by_some}
use Rattle.shapes.proofs.Readings.{shapes_tell}
use Rattle.network.specs.Refusals.{bad_parents, bad_parents_at, refusal6, OneRoot, Refusal6, principal_above, secondary_above, principal_itself, secondary_itself, not_one_root, root_secondary, bad_stamps, bad_stamps_at, refusal7, Refusal7, principal_not_below, secondary_not_equal, after_six, network_refusals}

module _ (L : NodeLines) where
  -- 6
  parents_told : (v : ℕ) → Node (network L) v → bad_parents_at L v ≡ true → Refusal6 L
  unfolding bad_parents_at bad_parents
  parents_told v k h = by_bool (under L.size (L.principal v)) (λ t. principal_above v k (under_is _ _ t))
      (λ a. by_bool (under L.size (L.secondary v)) (λ t. secondary_above v k (under_is _ _ t))
      (λ b. by_bool (same (L.principal v) v) (λ t. principal_itself v k (same_is _ _ t))
      (λ c. by_bool (same (L.secondary v) v) (λ t. secondary_itself v k (same_is _ _ t))
      (λ d. let z : (same (L.principal v) 0 && not (same (L.secondary v) 0)) ≡ true = rw (a, b, c, d) at h in
      root_secondary v k (same_is _ _ (and_l _ (not (same (L.secondary v) 0)) z)) (same_not _ _ (not-true _ (and_r (same (L.principal v) 0) _ z)))))))

  pub one_root : children L.size L.principal 0 ≡ 1 → OneRoot L
  unfolding children
  one_root e = let r = count_find L.size (λ v. same (L.principal v) 0) (omega arith) in record {
    root = r.0;
    is_node = node_of L r.0 r.1 r.2;
    no_parent = same_is _ _ r.3;
    alone = λ v k q. count_one L.size v r.0 (λ v. same (L.principal v) 0) (omega arith) k.low (node_high L v k) r.1 r.2 (is_same q) r.3;
  }

  root_count : OneRoot L → children L.size L.principal 0 ≡ 1
  unfolding children
  root_count o = count_alone L.size o.root (λ v. same (L.principal v) 0) o.is_node.low (node_high L o.root o.is_node) (is_same o.no_parent)
      (λ v l u t. o.alone v (node_of L v l u) (same_is _ _ t))

  from_6 : refusal6 L ≡ true → Refusal6 L
  unfolding refusal6
  from_6 h = by_bool (any L.size (bad_parents_at L)) (λ t. by_some L _ t parents_told)
      (λ t. not_one_root (λ o. clash (is_same (root_count o)) (not-true _ (rw t at h))))

  node_6 : (v : ℕ) → Node (network L) v → bad_parents L.size (L.principal v) (L.secondary v) v ≡ true → refusal6 L ≡ true
  unfolding refusal6 bad_parents_at
  node_6 v k t = or_left _ _ (some_node L (bad_parents_at L) v k t)

  pub roots_6 : children L.size L.principal 0 ≢ 1 → refusal6 L ≡ true
  unfolding refusal6
  roots_6 d = or_right (any L.size (bad_parents_at L)) _ (rw (not_same d))

  to_6 : Refusal6 L → refusal6 L ≡ true
  unfolding bad_parents
  to_6 (principal_above v k l) = node_6 v k (search test_laws depth 9)
  to_6 (secondary_above v k l) = node_6 v k (search test_laws depth 9)
  to_6 (principal_itself v k e) = node_6 v k (search test_laws depth 9)
  to_6 (secondary_itself v k e) = node_6 v k (search test_laws depth 9)
  to_6 (root_secondary v k e d) = node_6 v k (search test_laws depth 9)
  to_6 (not_one_root q) = roots_6 (λ e. q (one_root e))

  pub reading_6 : (refusal6 L ≡ true) ↔ Refusal6 L
  reading_6 = (from_6, to_6)

  -- 7
  stamps_told : (v : ℕ) → Node (network L) v → bad_stamps_at L v ≡ true → Refusal7 L
  unfolding bad_stamps_at bad_stamps
  stamps_told v k h = by_bool (not (same (L.principal v) 0) && not (under (L.stamp (L.principal v)) (L.stamp v)))
      (λ t. principal_not_below v k (same_not _ _ (not-true _ (and_l _ _ t))) (under_not _ _ (not-true _ (and_r (not (same (L.principal v) 0)) _ t))))
      (λ q. let t : (not (same (L.secondary v) 0) && not (same (L.stamp (L.secondary v)) (L.stamp v))) ≡ true = rw q at h in
      secondary_not_equal v k (same_not _ _ (not-true _ (and_l _ _ t))) (same_not _ _ (not-true _ (and_r (not (same (L.secondary v) 0)) _ t))))

  from_7 : refusal7 L ≡ true → Refusal7 L
  unfolding refusal7
  from_7 h = by_some L _ h stamps_told

  node_7 : (v : ℕ) → Node (network L) v → bad_stamps (L.principal v) (L.secondary v) (L.stamp (L.principal v)) (L.stamp (L.secondary v)) (L.stamp v) ≡ true → refusal7 L ≡ true
  unfolding refusal7 bad_stamps_at
  node_7 v k t = some_node L (bad_stamps_at L) v k t

  to_7 : Refusal7 L → refusal7 L ≡ true
  unfolding bad_stamps
  to_7 (principal_not_below v k d l) = node_7 v k (search test_laws depth 9)
  to_7 (secondary_not_equal v k d e) = node_7 v k (search test_laws depth 9)

  pub reading_7 : (refusal7 L ≡ true) ↔ Refusal7 L
  reading_7 = (from_7, to_7)

  -- the five one after the other
  pub network_tells : AllTell (network_refusals L)
  unfolding network_refusals after_six
  network_tells = one_more (tell 6 (omega arith, omega arith) reading_6) (λ _. one_more (tell 7 (omega arith, omega arith) reading_7) (λ _. shapes_tell L))
