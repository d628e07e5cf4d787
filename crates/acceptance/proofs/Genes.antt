-- The gene tree of an admitted sheet is the one of its gene lines: a rooted tree has each gene below its parent once, the two children of a gene are found
-- by rising number, and what bears a leaf gene's species is a leaf.
-- Assumes nothing.
use Rattle.std.proofs.Common.{◌≡◌, sym, ◌∙◌, ◌≢◌, ◌⊎◌, inl, inr, ⊎_elim, ℕ, ◌≤◌, arith}
use Rattle.finite.specs.Range.{children}
use Rattle.finite.specs.Tests.{same}
use Rattle.finite.proofs.Tests.{is_same}
use Rattle.finite.proofs.Count.{count_some}
use Rattle.topology.specs.Networks.{Network, NoArcs}
use Rattle.topology.specs.Lines.{NodeLines, GeneLines, Gene, network}
use Rattle.reconciliation.specs.GeneTrees.{GeneTree}
use Rattle.reconciliation.specs.Costs.{Costs}
use Rattle.gene_tree.specs.Genes.{gene_tree_of}
use Rattle.gene_tree.proofs.Refusals.{accept_12}
use Rattle.gene_tree.proofs.Genes.{count_at, left_at, right_at, parent_at, right_after}
use Rattle.readings.specs.Genes.{GenesOf}
use Rattle.acceptance.specs.inner.Admitted.{Admitted}
use Rattle.acceptance.proofs.Mapped.{rooted, seat_at, seat_node, leaf_at_lem}

-- a node that no parent counts as a child has no arc out
childless : (N : Network) (v : ℕ) → children N.size N.principal v ≡ 0 → children N.size N.secondary v ≡ 0 → NoArcs N v
unfolding children
childless N v p s = record {
  principal = λ x k e. omega (arith, count_some N.size x (λ w. same (N.principal w) v) k.low k.high (is_same e));
  secondary = λ x k e. omega (arith, count_some N.size x (λ w. same (N.secondary w) v) k.low k.high (is_same e));
}

module _ (L : NodeLines) (K : GeneLines) (C : Costs) (ok : Admitted L K C) where
  abbrev G : GeneTree
  G = gene_tree_of L K

  high : {g : ℕ} → Gene K g → g ≤ G.count
  high k = omega (arith, k.high, count_at L K)

  -- a child in the lines is a child in the tree
  has_parent : (g a : ℕ) → Gene K g → Gene K a → K.parent a ≡ g → G.parent a ≡ g
  has_parent g a kg ka e = parent_at L K a ka ∙ e

  child_inner : (g a : ℕ) → Gene K g → Gene K a → K.parent a ≡ g → G.left g ≢ 0
  child_inner g a kg ka e z =
      let p = has_parent g a kg ka e in
      (rooted L K C ok).parent_inner a (λ q. omega (arith, kg.low)) (rw p z)

  child_of : (g a : ℕ) → Gene K g → Gene K a → K.parent a ≡ g → (a ≡ G.left g) ⊎ (a ≡ G.right g)
  child_of g a kg ka e =
      let p = has_parent g a kg ka e in
      ⊎_elim (λ q. inl (sym q ∙ rw p)) (λ q. inr (sym q ∙ rw p)) ((rooted L K C ok).is_child a (λ q. omega (arith, kg.low)))

  left_of_lem : (g : ℕ) → G.left g ≢ 0 → Gene K (G.left g) × (K.parent (G.left g) ≡ g)
  left_of_lem g d =
      let t = rooted L K C ok in
      let k : Gene K (G.left g) = record { low = omega arith; high = omega (arith, t.left_in g d, count_at L K) } in
      (k, sym (parent_at L K (G.left g) k) ∙ t.left_parent g d)

  right_of_lem : (g : ℕ) → G.left g ≢ 0 → Gene K (G.right g) × (K.parent (G.right g) ≡ g)
  right_of_lem g d =
      let t = rooted L K C ok in
      let k : Gene K (G.right g) = record { low = omega (arith, t.right_more g d); high = omega (arith, t.right_in g d, count_at L K) } in
      (k, sym (parent_at L K (G.right g) k) ∙ t.right_parent g d)

  pub genes_of_lem : GenesOf L K G
  genes_of_lem = record {
    number = count_at L K;
    parents = parent_at L K;
    leaf_genes = λ g a kg z ka e. child_inner g a kg ka e z;
    children = λ g a kg d. (
      (λ h. child_of g a kg h.0 h.1),
      λ h. ⊎_elim (λ q. rw q (left_of_lem g d)) (λ q. rw q (right_of_lem g d)) h,
    );
    rising = λ g kg d. rw (left_at L K g kg, right_at L K g kg) (right_after (accept_12 L K ok.genes) g kg (λ z. d (left_at L K g kg ∙ z)));
    seats = λ g kg z.
        let l = leaf_at_lem L K C ok g kg.low (high kg) z in
        (seat_node L K C ok g kg.low (high kg) z, childless (network L) (G.leaf g) l.no_principal l.no_secondary, (seat_at L K C ok g kg.low (high kg) z).bears);
  }
