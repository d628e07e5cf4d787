-- An admitted sheet has what the telling of a history takes: a node's level is one more than the number of nodes of higher rank, and each gene from 2 on
-- is a child of its parent. So the lines of the chosen history are those to write.
-- Assumes nothing.
use Rattle.std.proofs.Common.{◌≡◌, refl, sym, ◌∙◌, subst, ◌≢◌, inl, inr, ⊎_elim, ℕ, suc, ◌≤◌, ◌<◌, arith}
use Rattle.finite.specs.Tests.{under, tally}
use Rattle.finite.specs.Range.{count}
use Rattle.finite.proofs.Tests.{is_under, not_under, under_is, tally_le, tally_no}
use Rattle.finite.proofs.Sum.{sum_short}
use Rattle.finite.proofs.Count.{count_less}
use Rattle.topology.specs.Networks.{Network, Node, Sound}
use Rattle.topology.specs.Lines.{NodeLines, GeneLines, Gene, network}
use Rattle.reconciliation.specs.GeneTrees.{GeneTree, Rooted}
use Rattle.reconciliation.specs.Costs.{Costs}
use Rattle.gene_tree.specs.Genes.{gene_tree_of}
use Rattle.gene_tree.proofs.Refusals.{gene_some, accept_12}
use Rattle.histories.specs.Histories.{Out, leaf, one, two, mixed, pair, Family}
use Rattle.histories.specs.Families.{PrincipalEnd, SecondaryEnd, Describes, family_of}
use Rattle.histories.specs.inner.Grades.{Leads}
use Rattle.histories.proofs.Sizes.{up_falls}
use Rattle.histories.proofs.Accepted.{graded, whole_limits}
use Rattle.histories.proofs.Small.{overall_exists}
use Rattle.histories.proofs.Describes.{describes}
use Rattle.acceptance.specs.inner.Admitted.{Admitted}
use Rattle.acceptance.proofs.Mapped.{sound, rooted}
use Rattle.acceptance.proofs.Whole.{whole_accepted}
use Rattle.acceptance.proofs.Genes.{genes_of_lem}
use Rattle.tellings.specs.Chosen.{history_lines}
use Rattle.tellings.specs.Shown.{HistoryShown}
use Rattle.tellings.specs.inner.Lineages.{Lineage, Levels}
use Rattle.tellings.proofs.Listing.{shown_lines}

-- what holds of the ends of principal and of secondary arcs holds wherever arcs out lead
by_ends : (P : ℕ → Type 0) (A : Out) → ((x : ℕ) → PrincipalEnd A x → P x) → ((x : ℕ) → SecondaryEnd A x → P x) → Leads P A
unfolding Leads PrincipalEnd SecondaryEnd
by_ends P (leaf s) p q = tt
by_ends P (one x) p q = p x refl
by_ends P (two x y) p q = (p x (inl refl), p y (inr refl))
by_ends P (mixed x y) p q = (p x refl, q y refl)

-- one more than the number of nodes of higher rank
module _ (N : Network) where
  level : ℕ → ℕ
  level v = suc (count N.size (λ w. under (N.rank v) (N.rank w)))

  level_low : (v : ℕ) → 1 ≤ level v
  unfolding level
  level_low v = omega arith

  level_high : (v : ℕ) → Node N v → level v ≤ N.size
  unfolding level count
  level_high v k = sum_short N.size v (λ w. tally (under (N.rank v) (N.rank w))) k.low k.high (λ w. tally_le (under (N.rank v) (N.rank w)))
      (tally_no (under (N.rank v) (N.rank v)) (not_under {m = N.rank v} {n = N.rank v} (omega arith)))

  level_falls : (v x : ℕ) → Node N x → N.rank v < N.rank x → level x < level v
  unfolding level
  level_falls v x k r = omega (
    arith,
    count_less N.size x (λ w. under (N.rank x) (N.rank w)) (λ w. under (N.rank v) (N.rank w)) (λ w q. is_under (omega (arith, under_is (N.rank x) (N.rank w) q))) k.low k.high
        (not_under {m = N.rank x} {n = N.rank x} (omega arith)) (is_under r),
  )

module _ (L : NodeLines) (K : GeneLines) (G : GeneTree) (C : Costs) (F : Family) (sees : Describes L K G C F) where
  abbrev N : Network
  N = network L

  node : (v : ℕ) → 1 ≤ v → v ≤ F.nodes → Node N v
  node v l u = record { low = l; high = omega (arith, sees.nodes) }

  module _ (s : Sound N) where
    below : (v x : ℕ) → Node N x → N.rank v < N.rank x → (1 ≤ x) × (x ≤ F.nodes) × (level N x < level N v)
    below v x k r = (k.low, omega (arith, k.high, sees.nodes), level_falls N v x k r)

    pub levels : Levels F
    levels = record {
      level = level N;
      level_low = λ v l u. level_low N v;
      level_high = λ v l u. omega (arith, level_high N v (node v l u), sees.nodes);
      lower = λ v l u. by_ends _ (F.out v)
          (λ x e. let q = (sees.principal v x (node v l u)).0 e in below v x q.0 (subst (λ (p : ℕ). N.rank p < N.rank x) q.1 (s.rank_principal x q.0 (λ z. omega arith))))
          (λ x e. let q = (sees.secondary v x (node v l u)).0 e in below v x q.0 (subst (λ (p : ℕ). N.rank p < N.rank x) q.1 (s.rank_secondary x q.0 (λ z. omega arith))));
    }

  module _ (t : Rooted G) (rising : (g : ℕ) → G.left g ≢ 0 → G.left g < G.right g) (has_parent : (g : ℕ) → 2 ≤ g → g ≤ G.count → G.parent g ≢ 0) where
    parted : (g a b : ℕ) → F.gene g ≡ pair a b → (G.left g ≢ 0) × (a ≡ G.left g) × (b ≡ G.right g)
    parted g a b e = (sees.pairs g a b).0 e

    pub lineage : Lineage F
    lineage = record {
      up = G.parent;
      falls = up_falls G t;
      left_up = λ g a b e. let q = parted g a b e in rw q.1 (t.left_parent g q.0);
      right_up = λ g a b e. let q = parted g a b e in rw q.2 (t.right_parent g q.0);
      lower_first = λ g a b e. let q = parted g a b e in rw (q.1, q.2) (rising g q.0);
      up_low = λ x l u. let d = has_parent x l (omega (arith, sees.genes)) in omega arith;
      child = λ x l u.
          let d = has_parent x l (omega (arith, sees.genes)) in
          let p = G.parent x in
          (G.left p, G.right p, (sees.pairs p (G.left p) (G.right p)).1 (t.parent_inner x d, refl, refl), ⊎_elim (λ e. inl (sym e)) (λ e. inr (sym e)) (t.is_child x d));
    }

module _ (L : NodeLines) (K : GeneLines) (C : Costs) (ok : Admitted L K C) where
  abbrev G : GeneTree
  G = gene_tree_of L K

  abbrev F : Family
  F = family_of L K G C

  sees : Describes L K G C F
  sees = describes L K G C (whole_accepted L K C ok)

  pub admitted_levels : Levels F
  admitted_levels = levels L K G C F sees (sound L K C ok)

  pub admitted_lineage : Lineage F
  admitted_lineage = lineage L K G C F sees (rooted L K C ok)
      (λ g d. (genes_of_lem L K C ok).rising g (record { low = (rooted L K C ok).inner_low g d; high = omega (arith, (rooted L K C ok).inner_high g d, (genes_of_lem L K C ok).number) }) d)
      (λ g l u e. let k : Gene K g = record { low = omega arith; high = omega (arith, (genes_of_lem L K C ok).number) } in gene_some (accept_12 L K ok.genes) g k (λ q. omega arith) (sym ((genes_of_lem L K C ok).parents g k) ∙ e))

  -- the lines of the chosen history are those to write
  pub history_shown : HistoryShown F (history_lines F)
  history_shown =
      let w = whole_accepted L K C ok in
      let r = overall_exists L K G C w in
      shown_lines F (graded L K G C w) (whole_limits L K G C w) admitted_levels admitted_lineage r.0 r.1
