-- An accepted family sees the network and the gene tree of its lines: arcs by the laws of their ends (proofs/Ends), genes by their definition.
-- Assumes nothing.
use Rattle.std.proofs.Common.{◌≡◌, refl, sym, ◌∙◌, ◌≢◌, ℕ, arith}
use Rattle.finite.proofs.Cases.{by_eq}
use Rattle.topology.specs.Lines.{NodeLines, GeneLines, network}
use Rattle.reconciliation.specs.GeneTrees.{GeneTree}
use Rattle.reconciliation.specs.Costs.{Costs}
use Rattle.histories.specs.Histories.{tip, pair}
use Rattle.histories.specs.Families.{family_of, Describes}
use Rattle.histories.specs.inner.Accepted.{Accepted}
use Rattle.histories.proofs.Accepted.{inner_is, gene_tip, gene_pair}
use Rattle.histories.proofs.Ends.{principal_ends, secondary_ends, principal_inside, secondary_inside, leaf_arcs, arcs_leaf}

module _ (L : NodeLines) (K : GeneLines) (G : GeneTree) (C : Costs) (ok : Accepted L K G C) where
  tip_is : (g s : ℕ) → (family_of L K G C).gene g ≡ tip s → (G.left g ≡ 0) × (s ≡ K.species g)
  tip_is g s e = by_eq (G.left g) 0
      (λ q. let r : tip (K.species g) ≡ tip s = sym (gene_tip L K G C g q) ∙ e in (q, cc))
      (λ q. absurd (let r = sym (gene_pair L K G C g q) ∙ e in let z : ◌≡◌ {A = ℕ} 0 1 = cc in omega arith))

  is_tip : (g s : ℕ) → G.left g ≡ 0 → s ≡ K.species g → (family_of L K G C).gene g ≡ tip s
  is_tip g s q e = rw e (gene_tip L K G C g q)

  is_pair : (g a b : ℕ) → G.left g ≢ 0 → a ≡ G.left g → b ≡ G.right g → (family_of L K G C).gene g ≡ pair a b
  is_pair g a b d p q = rw (p, q) (gene_pair L K G C g d)

  nodes_are : (family_of L K G C).nodes ≡ L.size
  unfolding family_of
  nodes_are = refl

  genes_are : (family_of L K G C).genes ≡ G.count
  unfolding family_of
  genes_are = refl

  costs_are : (family_of L K G C).costs ≡ C
  unfolding family_of
  costs_are = refl

  pub describes : Describes L K G C (family_of L K G C)
  unfolding network
  describes = record {
    nodes = nodes_are;
    genes = genes_are;
    costs = costs_are;
    principal = λ v x k. (
      (λ e. let i = principal_inside L K G C ok v k.low k.high x e in (record { low = i.0; high = i.1 }, (principal_ends L K G C ok v k.low k.high x i.0 i.1).1 e)),
      λ e. (principal_ends L K G C ok v k.low k.high x e.0.low e.0.high).0 e.1,
    );
    secondary = λ v x k. (
      (λ e. let i = secondary_inside L K G C ok v k.low k.high x e in (record { low = i.0; high = i.1 }, (secondary_ends L K G C ok v k.low k.high x i.0 i.1).1 e)),
      λ e. (secondary_ends L K G C ok v k.low k.high x e.0.low e.0.high).0 e.1,
    );
    leaves = λ v s k. (leaf_arcs L K G C ok v k.low k.high s, λ e. arcs_leaf L K G C ok v k.low k.high s e.0 e.1);
    pairs = λ g a b. (inner_is L K G C ok g a b, λ e. is_pair g a b e.0 e.1 e.2);
    tips = λ g s. (tip_is g s, λ e. is_tip g s e.0 e.1);
  }
