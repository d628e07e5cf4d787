-- What the refusals that did not apply say of the network. 6, 7 and 8 together make the rank rise along every arc: a principal arc raises the
-- stamp; a secondary arc keeps it, leads into a reticulation and leaves a node that is none, since a reticulation's only arc out is principal.
-- Assumes nothing.
use Rattle.std.proofs.Common.{◌≡◌, ◌≢◌, ℕ, ◌≤◌, ◌<◌, [], true, false, not, refl, arith}
use Rattle.finite.specs.Tests.{same}
use Rattle.finite.specs.Range.{any, every, children}
use Rattle.finite.specs.Refusals.{verdict}
use Rattle.finite.proofs.Cases.{by_eq, by_less, clash}
use Rattle.std.proofs.lemmas.Bool.{not-false}
use Rattle.finite.proofs.Tests.{is_same, same_is, not_same, or_no_l, or_no_r, tally_le}
use Rattle.finite.proofs.Every.{is_some, not_every, not_some}
use Rattle.finite.proofs.Count.{count_some, count_find}
use Rattle.finite.specs.Tables.{within}
use Rattle.finite.proofs.Tables.{within_zero, within_out}
use Rattle.finite.proofs.Refusals.{verdict_none}
use Rattle.topology.specs.Networks.{Node, Sound}
use Rattle.topology.specs.Lines.{NodeLines, rank_of, network}
use Rattle.topology.proofs.Lines.{rank_none, rank_is, rank_some, node_of, node_high}
use Rattle.layout.specs.declared.lines.NodeColumns.{NodeColumns}
use Rattle.layout.specs.Lines.{nodes_in}
use Rattle.shapes.specs.Refusals.{refusal8, IsLeaf, Shape, reticulation, inner, leaf, shapeless_at, refusal9, Refusal9, leaf_without, other_with_lem, two_alike, child_at, reticulation_if_child, only_reticulations_at, refusal10, Child, by_principal, by_secondary, after_eight, shape_refusals}
use Rattle.shapes.proofs.Readings.{shape_at, reading_9, child_is, is_child}
use Rattle.network.specs.Refusals.{refusal6, OneRoot, Refusal6, principal_above, secondary_above, root_secondary, refusal7, principal_not_below, secondary_not_equal, after_six, network_refusals}
use Rattle.network.specs.inner.Accepted.{NoOthers, PlainChild, AcceptedNetwork}
use Rattle.network.proofs.Readings.{one_root, roots_6, reading_6, reading_7}

-- a child is counted
child_counted : (n : ℕ) (parent : ℕ → ℕ) (u v : ℕ) → 1 ≤ v → v ≤ n → parent v ≡ u → 1 ≤ children n parent u
unfolding children
child_counted n parent u v l h e = count_some n v (λ x. same (parent x) u) l h (is_same e)

module _ (L : NodeLines) where
  module _ (six : refusal6 L ≡ false) where
    no_6 : ¬ (Refusal6 L)
    no_6 r = clash ((reading_6 L).1 r) six

    inside : (p : ℕ) → (L.size < p → Refusal6 L) → p ≤ L.size
    inside p above = by_less L.size p (λ l. absurd (no_6 (above l))) (λ g. g)

    pub principal_in : (v : ℕ) → Node (network L) v → L.principal v ≤ L.size
    principal_in v k = inside (L.principal v) (principal_above v k)

    pub secondary_in : (v : ℕ) → Node (network L) v → L.secondary v ≤ L.size
    secondary_in v k = inside (L.secondary v) (secondary_above v k)

    both_parents : (v : ℕ) → Node (network L) v → L.secondary v ≢ 0 → L.principal v ≢ 0
    both_parents v k d e = no_6 (root_secondary v k e d)

    the_root : OneRoot L
    the_root = by_eq (children L.size L.principal 0) 1 (one_root L) (λ d. clash (roots_6 L d) six)

    module _ (seven : refusal7 L ≡ false) (eight : refusal8 L ≡ false) where
      below_principal : (v : ℕ) → Node (network L) v → L.principal v ≢ 0 → L.stamp (L.principal v) < L.stamp v
      below_principal v k d = by_less (L.stamp (L.principal v)) (L.stamp v) (λ l. l) (λ g. clash ((reading_7 L).1 (principal_not_below v k d g)) seven)

      equal_secondary : (v : ℕ) → Node (network L) v → L.secondary v ≢ 0 → L.stamp (L.secondary v) ≡ L.stamp v
      equal_secondary v k d = by_eq (L.stamp (L.secondary v)) (L.stamp v) (λ e. e) (λ q. clash ((reading_7 L).1 (secondary_not_equal v k d q)) seven)

      shape : (v : ℕ) → Node (network L) v → Shape (network L) v
      unfolding refusal8
      shape v k = shape_at L v (not_some L.size (shapeless_at L) eight v k.low (node_high L v k))

      -- a node with a secondary arc out is no reticulation
      source_plain : (u v : ℕ) → Node (network L) u → Node (network L) v → L.secondary v ≡ u → L.secondary u ≡ 0
      unfolding network
      source_plain u v ku kv e = go (shape u ku)
        where
          go : Shape (network L) u → L.secondary u ≡ 0
          go (reticulation r) = absurd (omega (arith, child_counted L.size L.secondary u v kv.low kv.high e, r.no_secondary))
          go (inner r) = r.one_parent
          go (leaf r) = r.one_parent

      rises_principal : (v : ℕ) → Node (network L) v → L.principal v ≢ 0 → (network L).rank (L.principal v) < (network L).rank v
      unfolding rank_of
      rises_principal v k d = rw (rank_is L v (λ e. omega (arith, k.low)), rank_is L (L.principal v) d) (omega (arith, below_principal v k d, tally_le (not (same (L.secondary (L.principal v)) 0))))

      rises_secondary : (v : ℕ) → Node (network L) v → L.secondary v ≢ 0 → (network L).rank (L.secondary v) < (network L).rank v
      unfolding rank_of
      rises_secondary v k d = rw (
        rank_is L v (λ e. omega (arith, k.low)),
        rank_is L (L.secondary v) d,
        is_same (source_plain (L.secondary v) v (node_of L (L.secondary v) (omega arith) (secondary_in v k)) k refl),
        not_same d,
        equal_secondary v k d,
      ) (omega arith)

      pub sound : NoOthers L → Sound (network L)
      unfolding network
      sound o = record {
        zero_principal = o.zero_principal;
        zero_secondary = o.zero_secondary;
        out_principal = o.out_principal;
        out_secondary = o.out_secondary;
        in_principal = principal_in;
        in_secondary = secondary_in;
        rank_none = rank_none L;
        rank_some = rank_some L;
        rank_principal = rises_principal;
        rank_secondary = rises_secondary;
        both = both_parents;
        root = the_root.root;
        root_in = the_root.is_node;
        root_principal = the_root.no_parent;
        root_one = the_root.alone;
      }

      module _ (ten : refusal10 L ≡ false) where
        -- a node with an arc out has a child that is no reticulation, hence by a principal arc
        plain_at : (v : ℕ) → Node (network L) v → 1 ≤ children L.size L.principal v → PlainChild (network L) v
        unfolding refusal10 only_reticulations_at reticulation_if_child children network
        plain_at v k l = let f = count_find L.size (λ x. same (L.principal x) v) l in
            let c : any L.size (child_at L v) ≡ true = is_some L.size f.0 (child_at L v) f.1 f.2 (is_child L v f.0 (by_principal (same_is _ _ f.3))) in
            let q : every L.size (reticulation_if_child L v) ≡ false = rw c at (not_some L.size (only_reticulations_at L) ten v k.low k.high) in
            found (not_every L.size (reticulation_if_child L v) q)
          where
            parent_of : (w : ℕ) → Node (network L) w → L.secondary w ≡ 0 → Child L v w → PlainChild (network L) v
            parent_of w j z (by_principal e) = record { child = w; is_node = j; is_child = e; plain = z }
            parent_of w j z (by_secondary e) = absurd (omega (arith, k.low))

            found : (w : ℕ) × (1 ≤ w) × (w ≤ L.size) × (reticulation_if_child L v w ≡ false) → PlainChild (network L) v
            found r = parent_of r.0 (record { low = r.1; high = r.2 })
                (same_is _ _ (not-false _ (or_no_r (not (child_at L v r.0)) _ r.3)))
                (child_is L v r.0 (not-false _ (or_no_l _ (not (same (L.secondary r.0) 0)) r.3)))

        pub plain_child : (v : ℕ) → Node (network L) v → ¬ (IsLeaf (network L) v) → PlainChild (network L) v
        unfolding network
        plain_child v k f = go (shape v k)
          where
            go : Shape (network L) v → PlainChild (network L) v
            go (reticulation r) = plain_at v k (omega (arith, r.one_principal))
            go (inner r) = plain_at v k r.some_principal
            go (leaf r) = absurd (f r)

  -- verdict 0: no refusal applies
  pub record NoRefusal : Type 0 where
    pub six : refusal6 L ≡ false
    pub seven : refusal7 L ≡ false
    pub eight : refusal8 L ≡ false
    pub nine : refusal9 L ≡ false
    pub ten : refusal10 L ≡ false

  pub none_applies : verdict (network_refusals L) ≡ 0 → NoRefusal
  unfolding network_refusals after_six shape_refusals after_eight
  none_applies e =
      let t₆ = verdict_none _ (after_six L) (λ q. omega arith) e in
      let t₇ = verdict_none _ (shape_refusals L) (λ q. omega arith) t₆.1 in
      let t₈ = verdict_none _ (after_eight L) (λ q. omega arith) t₇.1 in
      let t₉ = verdict_none _ _ (λ q. omega arith) t₈.1 in
      let t₁₀ = verdict_none _ [] (λ q. omega arith) t₉.1 in
      record { six = t₆.0; seven = t₇.0; eight = t₈.0; nine = t₉.0; ten = t₁₀.0 }

  pub accepted : NoOthers L → verdict (network_refusals L) ≡ 0 → AcceptedNetwork L
  accepted o e = facts (none_applies e)
    where
      facts : NoRefusal → AcceptedNetwork L
      facts z = record {
        sound = sound z.six z.seven z.eight o;
        shape = shape z.six z.seven z.eight;
        leaf_species = λ v k f q. no_9 (leaf_without v k f q);
        other_species = λ v k f. by_eq (L.species v) 0 (λ q. q) (λ d. absurd (no_9 (other_with_lem v k f d)));
        distinct = λ v w k j f g q. by_eq v w (λ s. s) (λ d. absurd (no_9 (two_alike v w k j d f g q)));
        plain_child = plain_child z.six z.seven z.eight z.ten;
      }
        where
          no_9 : ¬ (Refusal9 L)
          no_9 r = clash ((reading_9 L).1 r) z.nine

-- in the columns a number that is no node has no parents
-- lines that have parents within 1..n alone
pub none_outside : (n : ℕ) (p q x s : ℕ → ℕ) → NoOthers (record { size = n; principal = within n p; secondary = within n q; stamp = x; species = s })
none_outside n p q x s = record {
  zero_principal = within_zero n p;
  zero_secondary = within_zero n q;
  out_principal = within_out n p;
  out_secondary = within_out n q;
}

pub no_others : (n : ℕ) (l : NodeColumns) → NoOthers (nodes_in n l)
unfolding nodes_in
no_others n l = none_outside n _ _ _ _
