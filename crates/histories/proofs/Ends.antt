-- The family says exactly what leaves each node of an accepted network: at most two principal arcs, a secondary one only beside a single principal one,
-- so no arc out is left out.
-- Assumes nothing.
use Rattle.std.proofs.Common.{◌≡◌, sym, ◌∙◌, ap, ◌≢◌, inl, inr, ◌↔◌, ⊎_elim, ℕ, ◌≤◌, arith}
use Rattle.finite.specs.Tests.{same}
use Rattle.finite.specs.Range.{children}
use Rattle.finite.proofs.Cases.{by_eq}
use Rattle.finite.proofs.Tests.{is_same, same_is}
use Rattle.finite.proofs.Count.{count_some, count_two, count_one, count_find}
use Rattle.tables.proofs.Nexts.{next_is, next_none}
use Rattle.topology.specs.Networks.{Node, NoArcs}
use Rattle.topology.specs.Lines.{NodeLines, GeneLines, network}
use Rattle.reconciliation.specs.GeneTrees.{GeneTree}
use Rattle.reconciliation.specs.Costs.{Costs}
use Rattle.histories.specs.Histories.{Family, leaf, one, two, mixed}
use Rattle.histories.specs.Families.{first_child, second_child, other_child, out_by, PrincipalEnd, SecondaryEnd}
use Rattle.histories.specs.inner.Accepted.{Accepted}
use Rattle.histories.proofs.Outs.{out_leaf, out_two, out_mixed, out_one, by_out}
use Rattle.histories.proofs.Accepted.{Whole, out_at, node_of}
use Rattle.histories.proofs.Small.{has_first, only_first, first_or_second}

module _ (L : NodeLines) (K : GeneLines) (G : GeneTree) (C : Costs) (ok : Accepted L K G C) (v : ℕ) (lv : 1 ≤ v) (uv : v ≤ L.size) where
  abbrev F : Family
  F = Whole L K G C

  abbrev x₁ : ℕ
  x₁ = first_child L v

  abbrev x₂ : ℕ
  x₂ = second_child L v

  abbrev x₃ : ℕ
  x₃ = other_child L v

  out_is : F.out v ≡ out_by x₁ x₂ x₃ (L.species v)
  out_is = out_at L K G C v lv uv

  node : Node (network L) v
  node = node_of L K G C v lv uv

  few : children L.size L.principal v ≤ 2
  few = ok.two_principal v node

  -- the ends of the principal arcs are the nodes whose principal parent is v
  pub principal_ends : (x : ℕ) → 1 ≤ x → x ≤ L.size → (L.principal x ≡ v) ↔ PrincipalEnd (F.out v) x
  unfolding PrincipalEnd first_child second_child
  principal_ends x lx ux = (λ e. rw out_is (to e), λ e. from (rw out_is at e))
    where
      to : L.principal x ≡ v → PrincipalEnd (out_by x₁ x₂ x₃ (L.species v)) x
      to e = by_eq x₂ 0
          (λ q. by_eq x₃ 0
          (λ r. rw (out_one x₁ x₂ x₃ (L.species v) (has_first L.size L.principal v x few lx ux e) q r) (only_first L.size L.principal v x few lx ux e q))
          (λ r. rw (out_mixed x₁ x₂ x₃ (L.species v) (has_first L.size L.principal v x few lx ux e) q r) (only_first L.size L.principal v x few lx ux e q)))
          (λ q. rw (out_two x₁ x₂ x₃ (L.species v) (has_first L.size L.principal v x few lx ux e) q) (by_eq x x₁ inl (λ r. inr (first_or_second L.size L.principal v x few lx ux e r))))

      from : PrincipalEnd (out_by x₁ x₂ x₃ (L.species v)) x → L.principal x ≡ v
      from = by_out x₁ x₂ x₃ (L.species v)
          (λ q e. absurd (rw q at e))
          (λ a b q e. ⊎_elim (λ r. rw r (next_is L.size L.principal 0 v a).2) (λ r. rw r (next_is L.size L.principal x₁ v b).2) (rw q at e))
          (λ a b c q e. let r : x ≡ x₁ = rw q at e in rw r (next_is L.size L.principal 0 v a).2)
          (λ a q e. let r : x ≡ x₁ = rw q at e in rw r (next_is L.size L.principal 0 v a).2)

  -- and the end of the secondary arc is the node whose secondary parent is v
  pub secondary_ends : (x : ℕ) → 1 ≤ x → x ≤ L.size → (L.secondary x ≡ v) ↔ SecondaryEnd (F.out v) x
  unfolding SecondaryEnd children first_child second_child other_child
  secondary_ends x lx ux = (λ e. rw out_is (to e), λ e. from (rw out_is at e))
    where
      to : L.secondary x ≡ v → SecondaryEnd (out_by x₁ x₂ x₃ (L.species v)) x
      to e =
          let s = ok.one_principal v node (count_some L.size x (λ w. same (L.secondary w) v) lx ux (is_same e)) in
          let w = count_find L.size (λ w. same (L.principal w) v) (omega arith) in
          let a : x₁ ≢ 0 = λ q. next_none L.size L.principal 0 v q w.0 (omega arith) w.2 (same_is (L.principal w.0) v w.3) in
          let f = next_is L.size L.principal 0 v a in
          let b : x₂ ≡ 0 = by_eq x₂ 0 (λ q. q) (λ q. let g = next_is L.size L.principal x₁ v q in
          absurd (omega (arith, count_two L.size x₁ x₂ (λ w. same (L.principal w) v) (omega arith) f.0 (omega arith) g.0 (λ z. omega arith) (is_same f.2) (is_same g.2)))) in
          let c : x₃ ≢ 0 = λ q. next_none L.size L.secondary 0 v q x (omega arith) ux e in
          let i = next_is L.size L.secondary 0 v c in
          rw (out_mixed x₁ x₂ x₃ (L.species v) a b c) (count_one L.size x x₃ (λ w. same (L.secondary w) v) (ok.one_secondary v node) lx ux (omega arith) i.0 (is_same e) (is_same i.2))

      from : SecondaryEnd (out_by x₁ x₂ x₃ (L.species v)) x → L.secondary x ≡ v
      from = by_out x₁ x₂ x₃ (L.species v)
          (λ q e. absurd (rw q at e))
          (λ a b q e. absurd (rw q at e))
          (λ a b c q e. let r : x ≡ x₃ = rw q at e in rw r (next_is L.size L.secondary 0 v c).2)
          (λ a q e. absurd (rw q at e))

  -- ends of arcs are nodes
  pub principal_inside : (x : ℕ) → PrincipalEnd (F.out v) x → (1 ≤ x) × (x ≤ L.size)
  unfolding PrincipalEnd first_child second_child
  principal_inside x e = by_out x₁ x₂ x₃ (L.species v)
      (λ q. absurd (rw (out_is ∙ q) at e))
      (λ a b q. ⊎_elim (λ r. first r a) (λ r. second r b) (rw (out_is ∙ q) at e))
      (λ a b c q. first (rw (out_is ∙ q) at e) a)
      (λ a q. first (rw (out_is ∙ q) at e) a)
    where
      first : x ≡ x₁ → x₁ ≢ 0 → (1 ≤ x) × (x ≤ L.size)
      first r a = let n = next_is L.size L.principal 0 v a in (omega arith, omega (arith, n.0))

      second : x ≡ x₂ → x₂ ≢ 0 → (1 ≤ x) × (x ≤ L.size)
      second r b = let n = next_is L.size L.principal x₁ v b in (omega arith, omega (arith, n.0))

  pub secondary_inside : (x : ℕ) → SecondaryEnd (F.out v) x → (1 ≤ x) × (x ≤ L.size)
  unfolding SecondaryEnd other_child
  secondary_inside x e = by_out x₁ x₂ x₃ (L.species v)
      (λ q. absurd (rw (out_is ∙ q) at e))
      (λ a b q. absurd (rw (out_is ∙ q) at e))
      (λ a b c q. let r : x ≡ x₃ = rw (out_is ∙ q) at e in let n = next_is L.size L.secondary 0 v c in (omega arith, omega (arith, n.0)))
      (λ a q. absurd (rw (out_is ∙ q) at e))

  -- a leaf is a node that no arc leaves, of its line's species
  pub leaf_arcs : (s : ℕ) → F.out v ≡ leaf s → NoArcs (network L) v × (L.species v ≡ s)
  unfolding PrincipalEnd SecondaryEnd network
  leaf_arcs s e = (
    record {
      principal = λ x k q. rw e at ((principal_ends x k.low k.high).0 q);
      secondary = λ x k q. rw e at ((secondary_ends x k.low k.high).0 q);
    },
    by_out x₁ x₂ x₃ (L.species v)
        (λ q. let r : leaf (L.species v) ≡ leaf s = sym (out_is ∙ q) ∙ e in cc)
        (λ a b q. absurd (let r : two x₁ x₂ ≡ leaf s = sym (out_is ∙ q) ∙ e in let z : ◌≡◌ {A = ℕ} 0 1 = cc in omega arith))
        (λ a b c q. absurd (let r : mixed x₁ x₃ ≡ leaf s = sym (out_is ∙ q) ∙ e in let z : ◌≡◌ {A = ℕ} 0 1 = cc in omega arith))
        (λ a q. absurd (let r : one x₁ ≡ leaf s = sym (out_is ∙ q) ∙ e in let z : ◌≡◌ {A = ℕ} 0 1 = cc in omega arith)),
  )

  pub arcs_leaf : (s : ℕ) → NoArcs (network L) v → L.species v ≡ s → F.out v ≡ leaf s
  unfolding first_child network
  arcs_leaf s n q = out_is ∙ out_leaf x₁ x₂ x₃ (L.species v) none ∙ ap leaf q
    where
      none : x₁ ≡ 0
      none = by_eq x₁ 0 (λ e. e) (λ d. let c = next_is L.size L.principal 0 v d in
          absurd (n.principal x₁ (record { low = omega arith; high = c.0 }) c.2))
