-- What the passes over the lines give is what the definitions say, since parents and species are read at genes and nodes alone: the bearers, the numbers of
-- children, and the four columns of the gene tree.
-- Assumes nothing.
use Rattle.std.proofs.Common.{◌≡◌, ℕ, ◌≤◌, List, refl, sym, ap, ◌∙◌, arith}
use Rattle.finite.specs.Range.{children}
use Rattle.finite.specs.Tables.{at, zeros, filled, within}
use Rattle.finite.proofs.Tables.{filled_in, filled_zero, filled_within, within_in, within_same, zeros_at, zeros_long}
use Rattle.finite.proofs.Cases.{by_eq}
use Rattle.finite.proofs.Tests.{not_same}
use Rattle.finite.proofs.Count.{children_same}
use Rattle.tables.specs.Children.{next}
use Rattle.tables.proofs.Nexts.{next_same}
use Rattle.topology.specs.Lines.{NodeLines, GeneLines}
use Rattle.layout.specs.declared.lines.NodeColumns.{NodeColumns}
use Rattle.layout.specs.declared.lines.GeneColumns.{GeneColumns}
use Rattle.layout.specs.declared.genes.Genes.{Genes}
use Rattle.layout.specs.Lines.{nodes_in, genes_in}
use Rattle.layout.specs.inner.Genes.{gene_tree}
use Rattle.layout.proofs.Numbered.{species_in, gene_parent_in}
use Rattle.gene_tree.specs.Refusals.{child_count, bearer}
use Rattle.gene_tree.specs.Genes.{left_of, right_of, leaf_of, gene_tree_of}
use Rattle.gene_tree.specs.inner.Work.{ChildCounts, Bearers, blank}
use Rattle.gene_tree.proofs.Refusals.{bearer_zero}
use Rattle.gene_tree.proofs.Reading.{count_is}

-- the bearers of the numbers up to n
pub bearers_noted : (n : ℕ) (l : NodeColumns) (c : List ℕ) → n ≤ 127 → c ≡ filled n zeros (λ v. next n (at l.species) (at zeros v) v) → Bearers (nodes_in n l) c
unfolding bearer nodes_in
bearers_noted n l c few e = record {
  bearers = λ s u. rw e (by_eq s 0
      (λ z. rw z (filled_zero n zeros _ ∙ zeros_at 0 ∙ sym (bearer_zero (nodes_in n l) 0 refl)))
      (λ d. filled_in n zeros _ s (omega arith) u (omega (arith, zeros_long))
      ∙ rw (not_same d, zeros_at s) (sym (next_same n (nodes_in n l).species (at l.species) 0 s (species_in n l)))));
}

-- the numbers of children
pub counts_noted : (m : ℕ) (l : GeneColumns) (c : List ℕ) → m ≤ 127 → c ≡ filled m zeros (children m (at l.parent)) → ChildCounts (genes_in m l) c
unfolding child_count
counts_noted m l c few e = record {
  counts = λ g k. rw e (filled_in m zeros _ g k.low (omega (arith, k.high, count_is m l)) (omega (arith, zeros_long))
      ∙ sym (rw (count_is m l) (children_same m (genes_in m l).parent (at l.parent) g (gene_parent_in m l))));
}

-- the columns of the gene tree over a table lent blank: the second pass finds each gene's child after the one that the first found
module _ (m : ℕ) (L : NodeLines) (l : GeneColumns) (left right leaf parent : List ℕ) (few : m ≤ 127) (t : Genes) (b : t ≡ blank)
    (e1 : left ≡ filled m zeros (λ v. next m (at l.parent) (at zeros v) v)) (e2 : right ≡ filled m zeros (λ v. next m (at l.parent) (at left v) v))
    (e3 : leaf ≡ filled m t.leaf (leaf_of L (genes_in m l))) (e4 : parent ≡ filled m t.parent (genes_in m l).parent) where
  abbrev K : GeneLines
  K = genes_in m l

  held : (c : List ℕ) (f g : ℕ → ℕ) → c ≡ filled m zeros f → ((v : ℕ) → 1 ≤ v → v ≤ m → f v ≡ g v) → at c ≡ within m g
  held c f g e s = rw e (filled_within m zeros f (omega (arith, zeros_long)) zeros_at ∙ within_same m f g s)

  next_is : (a g : ℕ) → next m (at l.parent) a g ≡ next m K.parent a g
  next_is a g = sym (next_same m K.parent (at l.parent) a g (gene_parent_in m l))

  left_held : at left ≡ within m (left_of K)
  unfolding left_of genes_in
  left_held = held left _ (left_of K) e1 (λ v _ _. rw (zeros_at v) (next_is 0 v))

  right_held : at right ≡ within m (right_of K)
  unfolding right_of genes_in
  right_held = held right _ (right_of K) e2 (λ v a b.
      let q : at left v ≡ left_of K v = ap (λ (f : ℕ → ℕ). f v) left_held ∙ within_in m (left_of K) v a b in
      rw q (next_is (left_of K v) v))

  leaf_held : at leaf ≡ within m (leaf_of L K)
  leaf_held = held leaf _ (leaf_of L K) (rw b at e3) (λ v _ _. refl)

  parent_held : at parent ≡ within m K.parent
  parent_held = held parent _ K.parent (rw b at e4) (λ v _ _. refl)

  pub tree_is : gene_tree m (record { left = left; right = right; leaf = leaf; parent = parent }) ≡ gene_tree_of L K
  unfolding gene_tree gene_tree_of genes_in
  tree_is = rw (left_held, right_held, leaf_held, parent_held)
