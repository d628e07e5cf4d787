-- The tests of refusals 12 and 13 say what 01 says: a test over the genes that passes passes at some gene, and there one of its clauses applies; where it
-- fails, each gene is free of all clauses.
-- Assumes nothing.
use Rattle.std.proofs.Common.{◌≡◌, refl, ◌≢◌, true, false, ◌||◌, not, ℕ, ◌≤◌, ◌<◌, arith}
use Rattle.finite.specs.Tests.{same, under}
use Rattle.finite.specs.Refusals.{verdict, AllTell, no_more, one_more}
use Rattle.finite.proofs.Cases.{by_bool, by_eq}
use Rattle.std.proofs.lemmas.Bool.{not-true, not-false}
use Rattle.finite.proofs.Tests.{is_same, same_is, not_same, same_not, under_is, under_not, or_r, or_no_l, or_no_r}
use Rattle.finite.proofs.Every.{some_at, not_some}
use Rattle.finite.proofs.Refusals.{verdict_here, verdict_later}
use Rattle.tables.proofs.Nexts.{next_is, next_none}
use Rattle.topology.specs.Lines.{Gene, NodeLines, GeneLines}
use Rattle.gene_tree.specs.Refusals.{child_count, bad_parent, bad_count, bad_gene_at, refusal12, Refusal12, bearer, bad_species, bad_species_at, refusal13, Refusal13, species_refusals, gene_refusals}
use Rattle.gene_tree.specs.Refusals.Refusal12.{first_has_parent, no_parent, parent_not_below, children_amiss}
use Rattle.gene_tree.specs.Refusals.Refusal13.{leaf_without_species, leaf_unknown, inner_with_species}

-- 12: where it does not apply, a gene's parent and its number of children are as a tree has them
module _ {K : GeneLines} (t : refusal12 K ≡ false) (g : ℕ) (k : Gene K g) where
  gene_passes : bad_gene_at K g ≡ false
  unfolding refusal12
  gene_passes = not_some K.count (bad_gene_at K) t g k.low k.high

  parent_passes : bad_parent g (K.parent g) ≡ false
  unfolding bad_gene_at
  parent_passes = or_no_l (bad_parent g (K.parent g)) (bad_count (child_count K g)) gene_passes

  pub gene_first : g ≡ 1 → K.parent g ≡ 0
  unfolding bad_parent
  gene_first e = let q : not (same (K.parent g) 0) ≡ false = rw (is_same e) at parent_passes in same_is _ _ (not-false _ q)

  other_passes : g ≢ 1 → (same (K.parent g) 0 || not (under (K.parent g) g)) ≡ false
  unfolding bad_parent
  other_passes d = rw (not_same d) at parent_passes

  pub gene_some : g ≢ 1 → K.parent g ≢ 0
  gene_some d = same_not _ _ (or_no_l (same (K.parent g) 0) (not (under (K.parent g) g)) (other_passes d))

  pub gene_below : g ≢ 1 → K.parent g < g
  gene_below d = under_is _ _ (not-false _ (or_no_r (same (K.parent g) 0) (not (under (K.parent g) g)) (other_passes d)))

  pub gene_two : child_count K g ≢ 0 → child_count K g ≡ 2
  unfolding bad_gene_at bad_count
  gene_two d =
      let c = child_count K g in
      same_is _ _ (or_r (same c 0) (same c 2) (not-false _ (or_no_r (bad_parent g (K.parent g)) (not (same c 0 || same c 2)) gene_passes)) (not_same d))

module _ (K : GeneLines) where
  parent_told : (g : ℕ) → Gene K g → bad_parent g (K.parent g) ≡ true → Refusal12 K
  unfolding bad_parent
  parent_told g k h = by_eq g 1
      (λ e. let q : not (same (K.parent g) 0) ≡ true = rw (is_same e) at h in
      first_has_parent (rw e at k) (rw e at (same_not _ _ (not-true _ q))))
      (λ d. let q : (same (K.parent g) 0 || not (under (K.parent g) g)) ≡ true = rw (not_same d) at h in
      by_eq (K.parent g) 0 (λ e. no_parent g k d e) (λ z. parent_not_below g k d (under_not _ _ (not-true _ (or_r (same (K.parent g) 0) _ q (not_same z))))))

  count_told : (g : ℕ) → Gene K g → bad_count (child_count K g) ≡ true → Refusal12 K
  unfolding bad_count
  count_told g k h =
      let c = child_count K g in
      let q = not-true (same c 0 || same c 2) h in
      children_amiss g k (same_not _ _ (or_no_l (same c 0) (same c 2) q)) (same_not _ _ (or_no_r (same c 0) (same c 2) q))

  gene_told : (g : ℕ) → Gene K g → bad_gene_at K g ≡ true → Refusal12 K
  unfolding bad_gene_at
  gene_told g k h = by_bool (bad_parent g (K.parent g)) (λ p. parent_told g k p) (λ p. count_told g k (or_r (bad_parent g (K.parent g)) (bad_count (child_count K g)) h p))

  pub from_12 : refusal12 K ≡ true → Refusal12 K
  unfolding refusal12
  from_12 h = let r = some_at K.count (bad_gene_at K) h in gene_told r.0 (record { low = r.1; high = r.2 }) r.3

  denied_12 : refusal12 K ≡ false → Refusal12 K → ⊥
  denied_12 t (first_has_parent k d) = d (gene_first t 1 k refl)
  denied_12 t (no_parent g k d e) = gene_some t g k d e
  denied_12 t (parent_not_below g k d l) = omega (arith, gene_below t g k d)
  denied_12 t (children_amiss g k d e) = e (gene_two t g k d)

  to_12 : Refusal12 K → refusal12 K ≡ true
  to_12 x = by_bool (refusal12 K) (λ t. t) (λ t. absurd (denied_12 t x))

-- a species has a bearer just where it is one and some node bears it
module _ (L : NodeLines) (s : ℕ) where
  pub bearer_zero : s ≡ 0 → bearer L s ≡ 0
  unfolding bearer
  bearer_zero e = rw (is_same e)

  pub bearer_some : bearer L s ≢ 0 → s ≢ 0
  bearer_some d e = d (bearer_zero e)

  pub bearer_in : bearer L s ≢ 0 → (bearer L s ≤ L.size) × (L.species (bearer L s) ≡ s)
  unfolding bearer
  bearer_in d = by_eq s 0 (λ e. absurd (bearer_some d e)) (λ z. rw (not_same z) (let r = next_is L.size L.species 0 s (rw (not_same z) at d) in (r.0, r.2)))

  bearer_none : s ≢ 0 → bearer L s ≡ 0 → (v : ℕ) → 1 ≤ v → v ≤ L.size → L.species v ≢ s
  unfolding bearer
  bearer_none z e v l u = next_none L.size L.species 0 s (rw (not_same z) at e) v l u

-- 13: where it does not apply, a leaf gene's species has a bearer, and an inner gene has none
module _ (L : NodeLines) {K : GeneLines} (t : refusal13 L K ≡ false) (g : ℕ) (k : Gene K g) where
  species_passes : bad_species_at L K g ≡ false
  unfolding refusal13
  species_passes = not_some K.count (bad_species_at L K) t g k.low k.high

  pub seat_leaf : child_count K g ≡ 0 → bearer L (K.species g) ≢ 0
  unfolding bad_species_at bad_species
  seat_leaf z = let q : same (bearer L (K.species g)) 0 ≡ false = rw (is_same z) at species_passes in same_not _ _ q

  pub seat_inner : child_count K g ≢ 0 → K.species g ≡ 0
  unfolding bad_species_at bad_species
  seat_inner d = let q : not (same (K.species g) 0) ≡ false = rw (not_same d) at species_passes in same_is _ _ (not-false _ q)

module _ (L : NodeLines) (K : GeneLines) where
  species_told : (g : ℕ) → Gene K g → bad_species_at L K g ≡ true → Refusal13 L K
  unfolding bad_species_at bad_species
  species_told g k h = by_eq (child_count K g) 0
      (λ z. by_eq (K.species g) 0 (λ e. leaf_without_species g k z e)
      (λ d. let q : same (bearer L (K.species g)) 0 ≡ true = rw (is_same z) at h in
      leaf_unknown g k z (bearer_none L (K.species g) d (same_is _ _ q))))
      (λ d. let q : not (same (K.species g) 0) ≡ true = rw (not_same d) at h in inner_with_species g k d (same_not _ _ (not-true _ q)))

  from_13 : refusal13 L K ≡ true → Refusal13 L K
  unfolding refusal13
  from_13 h = let r = some_at K.count (bad_species_at L K) h in species_told r.0 (record { low = r.1; high = r.2 }) r.3

  denied_13 : refusal13 L K ≡ false → Refusal13 L K → ⊥
  denied_13 t (leaf_without_species g k z e) = seat_leaf L t g k z (bearer_zero L (K.species g) e)
  denied_13 t (leaf_unknown g k z h) =
      let d = seat_leaf L t g k z in
      let r = bearer_in L (K.species g) d in
      h (bearer L (K.species g)) (omega arith) r.0 r.1
  denied_13 t (inner_with_species g k z d) = d (seat_inner L t g k z)

  to_13 : Refusal13 L K → refusal13 L K ≡ true
  to_13 x = by_bool (refusal13 L K) (λ t. t) (λ t. absurd (denied_13 t x))

  -- each test tells its condition
  pub species_tell : AllTell (species_refusals L K)
  unfolding species_refusals
  species_tell = one_more (record { some = λ e. let z : ◌≡◌ {A = ℕ} 13 0 = e in omega arith; small = omega arith; yes = from_13; refused = to_13 }) (λ _. no_more)

  pub gene_tell : AllTell (gene_refusals L K)
  unfolding gene_refusals
  gene_tell = one_more (record { some = λ e. let z : ◌≡◌ {A = ℕ} 12 0 = e in omega arith; small = omega arith; yes = from_12 K; refused = to_12 K }) (λ _. species_tell)

  -- the verdict by its tests, as the code finds it
  pub verdict_12 : refusal12 K ≡ true → verdict (gene_refusals L K) ≡ 12
  unfolding gene_refusals
  verdict_12 t = verdict_here _ _ t

  pub past_12 : refusal12 K ≡ false → verdict (gene_refusals L K) ≡ verdict (species_refusals L K)
  unfolding gene_refusals
  past_12 t = verdict_later _ _ t

  pub verdict_13 : refusal13 L K ≡ true → verdict (species_refusals L K) ≡ 13
  unfolding species_refusals
  verdict_13 t = verdict_here _ _ t

  pub past_13 : refusal13 L K ≡ false → verdict (species_refusals L K) ≡ 0
  unfolding species_refusals verdict
  past_13 t = rw t

-- verdict 0: neither applies
module _ (L : NodeLines) (K : GeneLines) (ok : verdict (gene_refusals L K) ≡ 0) where
  pub accept_12 : refusal12 K ≡ false
  accept_12 = by_bool (refusal12 K) (λ t. absurd (omega (arith, verdict_12 L K t))) (λ t. t)

  pub accept_13 : refusal13 L K ≡ false
  accept_13 = by_bool (refusal13 L K) (λ t. absurd (omega (arith, past_12 L K accept_12, verdict_13 L K t))) (λ t. t)
