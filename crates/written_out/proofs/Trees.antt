-- The gene lines of a tree can be written out: a gene's parent is 0 or a gene before it, its species is 0 or a leaf's number, which has six digits at
-- most, and the lines are 0 for what is no gene.
-- Assumes nothing.
use Rattle.std.proofs.Common.{ℕ, suc, ◌+◌, ◌≤◌, ◌<◌, ◌≡◌, refl, ap, arith}
use Rattle.finite.proofs.Cases.{by_eq, by_less}
use Rattle.topology.specs.Lines.{GeneLines}
use Rattle.newick.specs.Trees.{Tree, leaf, pair, Proper, genes, no_line, line_at, gene_lines_of}
use Rattle.newick.specs.Numbering.{Numbered}
use Rattle.newick.proofs.Writing.{some_gene, lines_held}
use Rattle.newick.proofs.Numbering.{numbered, root_parent, parent_below}
use Rattle.written_out.specs.inner.Conditions.{Writable}

-- the species of a subtree that is numbered from g on
species_in : (K : GeneLines) (t : Tree) (g up : ℕ) → Numbered K g up t → Proper t → (x : ℕ) → g ≤ x → x < g + genes t → K.species x < 1000000
unfolding Numbered Proper genes
species_in K (leaf s) g up h p x a b = let e : x ≡ g = omega arith in rw e (omega (arith, h.2))
species_in K (pair l r) g up h p x a b = by_eq x g
    (λ e. rw e (omega (arith, h.2)))
    (λ d. by_less x (suc g + genes l)
    (λ c. species_in K l (suc g) g h.3 p.0 x (omega arith) c)
    (λ c. species_in K r (suc g + genes l) g h.4 p.1 x c (omega arith)))

pub tree_writable : (t : Tree) → Proper t → genes t ≤ 127 → Writable (gene_lines_of t)
unfolding gene_lines_of line_at no_line
tree_writable t p few = let next : (i : ℕ) → 1 + i ≡ suc i = λ i. omega arith in
    record {
      some_gene = some_gene t;
      few_genes = few;
      parent_small = λ g k. by_eq g 1 (λ e. rw e (omega (arith, root_parent t))) (λ d. omega (arith, (parent_below t g k d).1, k.high));
      species_small = λ g k. species_in (gene_lines_of t) t 1 0 (numbered t) p g k.low (omega (arith, k.high));
      parent_within = lines_held t (λ x. x.parent) _ refl (λ i h. ap (λ (j : ℕ). (line_at t j).parent) (next i));
      species_within = lines_held t (λ x. x.species) _ refl (λ i h. ap (λ (j : ℕ). (line_at t j).species) (next i));
    }
