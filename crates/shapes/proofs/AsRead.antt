-- What the code reads of the lines and of the counts is what the refusals say of them: at a node a column is read. Each law has its premises as a
-- function's calls give them.
-- Assumes nothing.
use Rattle.std.proofs.Common.{◌≡◌, ◌≢◌, ℕ, ◌≤◌, List, true, false, not, sym, ◌∙◌, arith, refl}
use Rattle.finite.specs.Tests.{same}
use Rattle.finite.specs.Range.{any, children}
use Rattle.finite.proofs.Tests.{is_same, not_same}
use Rattle.finite.proofs.Every.{some_same}
use Rattle.finite.specs.Tables.{at, zeros, filled}
use Rattle.finite.proofs.Count.{children_same}
use Rattle.finite.proofs.Tables.{filled_in, zeros_long}
use Rattle.topology.specs.Lines.{NodeLines}
use Rattle.layout.specs.declared.lines.NodeColumns.{NodeColumns}
use Rattle.layout.specs.Lines.{nodes_in}
use Rattle.layout.proofs.Numbered.{size_in, principal_in, secondary_in, species_in, principals_in, secondaries_in, bearers_in}
use Rattle.shapes.specs.Refusals.{leaf_with, leaf_at, shapeless, shapeless_at, refusal8, refusal10}
use Rattle.shapes.specs.inner.ShortForms.{wrong_species, wrong_species_at, plain_parent, plain_parent_at, only_reticulations}
use Rattle.shapes.specs.declared.counts.Counts.{Counts}
use Rattle.shapes.specs.inner.Counts.{Counted}
use Rattle.shapes.proofs.ShortForms.{only_iff}

only_is : (L : NodeLines) (c : Counts) → Counted L c → any L.size (λ v. only_reticulations (at c.principals v) (at c.secondaries v) (at c.plains v)) ≡ refusal10 L
unfolding refusal10
only_is L c counted = some_same L.size _ _ (λ v a b. rw (counted.principal_arcs v a b, counted.secondary_arcs v a b, counted.plain_arcs v a b) (only_iff L v a))

module _ (l : NodeColumns) (n : ℕ) where
  -- of node v
  module _ (v : ℕ) (low : 1 ≤ v) (high : v ≤ n) where
    pub plain_read : {r : ℕ} → r ≡ plain_parent (at l.principal v) (at l.secondary v) → r ≡ plain_parent_at (nodes_in n l) v
    unfolding plain_parent_at
    plain_read e = e ∙ rw (principal_in n l v low high, secondary_in n l v low high)

  module _ (c : Counts) (counted : Counted (nodes_in n l) c) where
    -- with the arcs out of it
    module _ (v : ℕ) (low : 1 ≤ v) (high : v ≤ n) where
      a_is : at c.principals v ≡ children (nodes_in n l).size (nodes_in n l).principal v
      a_is = counted.principal_arcs v low (rw (size_in n l) high)

      b_is : at c.secondaries v ≡ children (nodes_in n l).size (nodes_in n l).secondary v
      b_is = counted.secondary_arcs v low (rw (size_in n l) high)

      shapeless_is : shapeless (at l.principal v) (at l.secondary v) (at c.principals v) (at c.secondaries v) ≡ shapeless_at (nodes_in n l) v
      unfolding shapeless_at
      shapeless_is = rw (a_is, b_is, principal_in n l v low high, secondary_in n l v low high)

      leaf_is : leaf_with (at l.secondary v) (at c.principals v) (at c.secondaries v) ≡ leaf_at (nodes_in n l) v
      unfolding leaf_at
      leaf_is = rw (a_is, b_is, secondary_in n l v low high)

      -- whether v is a leaf, its species, and how many nodes bear that
      pub wrong_other : leaf_with (at l.secondary v) (at c.principals v) (at c.secondaries v) ≡ false → not (same (at l.species v) 0) ≡ wrong_species_at (nodes_in n l) v
      unfolding wrong_species_at wrong_species
      wrong_other f = rw (sym leaf_is ∙ f, species_in n l v low high)

      pub wrong_bare : leaf_with (at l.secondary v) (at c.principals v) (at c.secondaries v) ≡ true → at l.species v ≡ 0 → true ≡ wrong_species_at (nodes_in n l) v
      unfolding wrong_species_at wrong_species
      wrong_bare f z = rw (sym leaf_is ∙ f, is_same (species_in n l v low high ∙ z))

      pub wrong_borne : leaf_with (at l.secondary v) (at c.principals v) (at c.secondaries v) ≡ true → at l.species v ≢ 0 → not (same (children n (at l.species) (at l.species v)) 1) ≡ wrong_species_at (nodes_in n l) v
      unfolding wrong_species_at wrong_species
      wrong_borne f d = rw (sym leaf_is ∙ f, species_in n l v low high, not_same d, bearers_in n l (at l.species v))

    -- a species of a number up to n is counted in the table
    pub bearers_read : (k : ℕ) → k ≢ 0 → k ≤ n → at c.bearers k ≡ children n (at l.species) k
    bearers_read k d u = counted.same_species k (omega arith) (rw (size_in n l) u) ∙ bearers_in n l k

    -- 8 and 10 by the counts of each node
    pub shapes_read : any n (λ v. shapeless (at l.principal v) (at l.secondary v) (at c.principals v) (at c.secondaries v)) ≡ refusal8 (nodes_in n l)
    unfolding refusal8 nodes_in
    shapes_read = some_same n _ _ shapeless_is

    pub only_read : any n (λ v. only_reticulations (at c.principals v) (at c.secondaries v) (at c.plains v)) ≡ refusal10 (nodes_in n l)
    unfolding nodes_in
    only_read = only_is (nodes_in n l) c counted

-- the columns of the counts; p has the principal parents of the nodes that are no reticulations
pub counts_are : (l : NodeColumns) (n : ℕ) (a b p k s : List ℕ) → n ≤ 127
    → a ≡ filled n zeros (children n (at l.principal)) → b ≡ filled n zeros (children n (at l.secondary))
    → p ≡ filled n zeros (λ v. plain_parent (at l.principal v) (at l.secondary v)) → k ≡ filled n zeros (children n (at p)) → s ≡ filled n zeros (children n (at l.species))
    → Counted (nodes_in n l) (record { principals = a; secondaries = b; plains = k; bearers = s })
unfolding nodes_in
counts_are l n a b p k s few ea eb ep ek es = record {
  principal_arcs = λ v u w. rw ea (held _ v u w) ∙ sym (principals_in n l v);
  secondary_arcs = λ v u w. rw eb (held _ v u w) ∙ sym (secondaries_in n l v);
  plain_arcs = λ v u w. rw ek (held _ v u w) ∙ children_same n (at p) (plain_parent_at (nodes_in n l)) v (λ x y z. rw ep (held _ x y z) ∙ plain_read l n x y z refl);
  same_species = λ v u w. rw es (held _ v u w) ∙ sym (bearers_in n l v);
}
  where
    held : (f : ℕ → ℕ) (v : ℕ) → 1 ≤ v → v ≤ n → at (filled n zeros f) v ≡ f v
    held f v u w = filled_in n zeros f v u w (omega (arith, zeros_long))
