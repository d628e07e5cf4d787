-- What the code reads of the lines is what the refusals say of them: at a node a column is read, and a parent whose stamp is asked is a node. Each law
-- has its premises as a function's calls give them.
-- Assumes nothing.
use Rattle.std.proofs.Common.{◌≡◌, ◌≢◌, ℕ, ◌≤◌, false, sym, arith}
use Rattle.finite.specs.Range.{any, children}
use Rattle.finite.specs.Tables.{at}
use Rattle.finite.proofs.Cases.{by_eq}
use Rattle.finite.proofs.Tests.{is_same}
use Rattle.finite.proofs.Every.{some_same}
use Rattle.layout.specs.declared.lines.NodeColumns.{NodeColumns}
use Rattle.layout.specs.Lines.{nodes_in}
use Rattle.layout.proofs.Numbered.{node_in, size_in, principal_in, secondary_in, stamp_in, principals_in}
use Rattle.network.specs.Refusals.{bad_parents, bad_parents_at, refusal6, bad_stamps, bad_stamps_at}
use Rattle.network.proofs.Acceptance.{principal_in as parent_in, secondary_in as other-parent-in}

-- a parent that is no node has no stamp to ask for
stamps_same : (p s tp ts t up us : ℕ) → (p ≢ 0 → tp ≡ up) → (s ≢ 0 → ts ≡ us) → bad_stamps p s tp ts t ≡ bad_stamps p s up us t
unfolding bad_stamps
stamps_same p s tp ts t up us f g = by_eq p 0
    (λ e. by_eq s 0 (λ z. rw (is_same e, is_same z)) (λ z. rw (is_same e, g z)))
    (λ d. by_eq s 0 (λ z. rw (is_same z, f d)) (λ z. rw (f d, g z)))

module _ (l : NodeColumns) (n v : ℕ) (low : 1 ≤ v) (high : v ≤ n) (six : refusal6 (nodes_in n l) ≡ false) where
  pub principal_low : at l.principal v ≤ n
  principal_low = omega (arith, parent_in (nodes_in n l) six v (node_in n l v low high), principal_in n l v low high, size_in n l)

  pub secondary_low : at l.secondary v ≤ n
  secondary_low = omega (arith, other-parent-in (nodes_in n l) six v (node_in n l v low high), secondary_in n l v low high, size_in n l)

  pub stamps_read : bad_stamps (at l.principal v) (at l.secondary v) (at l.stamp (at l.principal v)) (at l.stamp (at l.secondary v)) (at l.stamp v) ≡ bad_stamps_at (nodes_in n l) v
  unfolding bad_stamps_at
  stamps_read = rw (principal_in n l v low high, secondary_in n l v low high, stamp_in n l v low high)
      (stamps_same (at l.principal v) (at l.secondary v) _ _ (at l.stamp v) ((nodes_in n l).stamp (at l.principal v)) ((nodes_in n l).stamp (at l.secondary v))
      (λ d. sym (stamp_in n l (at l.principal v) (omega arith) principal_low))
      (λ d. sym (stamp_in n l (at l.secondary v) (omega arith) secondary_low)))

module _ (n : ℕ) (l : NodeColumns) where
  -- the parents of each node, and the nodes without a principal one
  pub parents_read : any n (λ v. bad_parents n (at l.principal v) (at l.secondary v) v) ≡ any n (bad_parents_at (nodes_in n l))
  unfolding bad_parents_at
  parents_read = some_same n _ _ (λ v a b. rw (size_in n l, principal_in n l v a b, secondary_in n l v a b))

  pub roots_read : children (nodes_in n l).size (nodes_in n l).principal 0 ≡ children n (at l.principal) 0
  roots_read = principals_in n l 0
