-- What is read of the columns is what the definitions ask for: at a number of a gene or a node the lines by number are read where they stand.
-- Assumes nothing.
use Rattle.std.proofs.Common.{◌≡◌, ℕ, ◌≤◌, ◌<◌, List, Option, Some, None, cond, ◌||◌, refl, ap, ◌∙◌, arith}
use Rattle.std.specs.Prelude.{unwrap_or}
use Rattle.finite.specs.Tests.{same}
use Rattle.finite.specs.Range.{any, first}
use Rattle.finite.specs.Tables.{at}
use Rattle.finite.proofs.Cases.{by_eq}
use Rattle.finite.proofs.Tests.{not_same, is_under}
use Rattle.finite.proofs.Every.{first_same, some_same}
use Rattle.finite.proofs.Upto.{found_or}
use Rattle.tables.specs.Children.{is_next, next}
use Rattle.layout.specs.declared.lines.NodeColumns.{NodeColumns}
use Rattle.layout.specs.declared.lines.GeneColumns.{GeneColumns}
use Rattle.layout.specs.Lines.{nodes_in, genes_in}
use Rattle.layout.proofs.Numbered.{species_in, gene_parent_in, gene_species_in}
use Rattle.topology.specs.Lines.{NodeLines, Gene}
use Rattle.gene_tree.specs.Refusals.{bad_parent, bad_count, bad_gene_at, refusal12, bearer, bad_species, bad_species_at, refusal13}
use Rattle.gene_tree.specs.Genes.{leaf_of}
use Rattle.gene_tree.specs.inner.Work.{ChildCounts, Bearers}
use Rattle.gene_tree.proofs.Refusals.{bearer_in}

-- a species' bearer, looked up for each number up to n, and sought; it is a node, or 0
module _ (n : ℕ) (l : NodeColumns) (s : ℕ) where
  pub sought_read : (o : Option ℕ) → o ≡ cond (same (first n (λ v. same (at l.species v) s)) 0) None (Some (first n (λ v. same (at l.species v) s)))
      → unwrap_or o 0 ≡ next n (nodes_in n l).species 0 s
  unfolding next is_next
  sought_read o e = ap (λ (q : Option ℕ). unwrap_or q 0) e ∙ found_or (first n (λ v. same (at l.species v) s))
      ∙ first_same n _ _ (λ v a b. rw (species_in n l v a b, is_under {m = 0} {n = v} (omega arith)))

  pub bearer_noted : (c : List ℕ) → Bearers (nodes_in n l) c → s ≤ n → at c s ≡ bearer (nodes_in n l) s
  unfolding nodes_in
  bearer_noted c b u = b.bearers s u

  pub bearer_sought : n < s → next n (nodes_in n l).species 0 s ≡ bearer (nodes_in n l) s
  unfolding bearer nodes_in
  bearer_sought u = rw (not_same {m = s} {n = 0} (λ z. omega arith))

  pub bearer_low : bearer (nodes_in n l) s ≤ n
  unfolding nodes_in
  bearer_low = by_eq (bearer (nodes_in n l) s) 0 (λ z. omega arith) (λ d. (bearer_in (nodes_in n l) s d).0)

-- the genes
module _ (m : ℕ) (l : GeneColumns) where
  pub count_is : (genes_in m l).count ≡ m
  unfolding genes_in
  count_is = refl

  module _ (g : ℕ) (low : 1 ≤ g) (high : g ≤ m) where
    gene_is : Gene (genes_in m l) g
    gene_is = record { low = low; high = rw count_is high }

    -- the leaf of gene g
    pub leaf_read : (L : NodeLines) → bearer L (at l.species g) ≡ leaf_of L (genes_in m l) g
    unfolding leaf_of
    leaf_read L = rw (gene_species_in m l g low high)

  all_12 : any m (bad_gene_at (genes_in m l)) ≡ refusal12 (genes_in m l)
  unfolding refusal12 genes_in
  all_12 = refl

  all_13 : (L : NodeLines) → any m (bad_species_at L (genes_in m l)) ≡ refusal13 L (genes_in m l)
  unfolding refusal13 genes_in
  all_13 L = refl

  module _ (c : List ℕ) (counted : ChildCounts (genes_in m l) c) where
    pub twelve_read : any m (λ g. bad_parent g (at l.parent g) || bad_count (at c g)) ≡ refusal12 (genes_in m l)
    unfolding bad_gene_at
    twelve_read = some_same m _ (bad_gene_at (genes_in m l)) (λ g a b. rw (gene_parent_in m l g a b, counted.counts g (gene_is g a b))) ∙ all_12

    pub thirteen_read : (L : NodeLines) → any m (λ g. bad_species L (at c g) (at l.species g)) ≡ refusal13 L (genes_in m l)
    unfolding bad_species_at
    thirteen_read L = some_same m _ (bad_species_at L (genes_in m l)) (λ g a b. rw (gene_species_in m l g a b, counted.counts g (gene_is g a b))) ∙ all_13 L
