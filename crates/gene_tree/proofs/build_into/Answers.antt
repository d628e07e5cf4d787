-- `gene_tree::build_into` meets its contract. Each column is filled as the definition says.
-- Assumes nothing.
use Rattle.std.proofs.Common.{◌≡◌, sym, ap, ◌∙◌, rules}
use Rattle.finite.specs.Tables.{at, zeros}
use Rattle.layout.specs.declared.genes.Genes.{Genes}
use Rattle.layout.specs.Lines.{nodes_of, genes_of}
use Rattle.gene_tree.specs.Refusals.{bearer}
use Rattle.gene_tree.specs.Genes.{leaf_of}
use Rattle.layout.proofs.Numbered.{gene_parent_in}
use Rattle.gene_tree.proofs.Reading.{leaf_read}
use Rattle.gene_tree.proofs.Filling.{tree_is}
use Rattle.gene_tree.proofs.build_into.Goals as goal

pub next_children-requires : goal.next_children-requires
next_children-requires c = (c.args.lines.now.within.few_genes, ap (λ (t : Genes). t.left) c.requires)

pub next_children-requires-2 : goal.next_children-requires-2
next_children-requires-2 c = (c.args.lines.now.within.few_genes, ap (λ (t : Genes). t.right) c.requires)

pub returns : goal.returns
unfolding zeros
returns c = let s = c.args.lines.now in
    let L = nodes_of s in
    let K = genes_of s in
    tree_is _ L s.genes _ _ _ _ s.within.few_genes _ c.requires c.next_children.ensures c.next_children-2.ensures
    (c.fill.ensures (leaf_of L K) (λ g r low high k.
    let e : r ≡ bearer L (at s.genes.species g) = search rules in e ∙ leaf_read _ _ g low high L))
    (c.fill-2.ensures K.parent (λ g r low high k. let e : r ≡ at s.genes.parent g = search rules in e ∙ sym (gene_parent_in _ _ g low high)))
