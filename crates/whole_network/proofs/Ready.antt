-- An accepted sheet is ready to be filled once its arcs are laid out: they are what the family says, and their order is a schedule.
-- Assumes nothing.
use Rattle.std.proofs.Common.{◌≡◌, ◌∙◌, List, ℕ, ◌*◌, ◌≤◌, length, arith, mul-le-mul_right}
use Rattle.layout.specs.declared.lines.Lines.{Lines}
use Rattle.layout.specs.declared.genes.Genes.{Genes}
use Rattle.layout.specs.Lines.{nodes_in, nodes_of}
use Rattle.layout.specs.Headers.{WithinLimits}
use Rattle.layout.specs.inner.Genes.{gene_tree}
use Rattle.layout.proofs.Numbered.{species_in}
use Rattle.histories.specs.Histories.{least_over}
use Rattle.histories.specs.Words.{cost_of}
use Rattle.histories.specs.inner.Grades.{Prepared}
use Rattle.histories.specs.inner.Rows.{row, Rows, Kept}
use Rattle.histories.specs.Families.{family_of}
use Rattle.histories.specs.inner.Promise.{WholeNetwork}
use Rattle.histories.proofs.Accepted.{out_at, prepared}
use Rattle.histories.proofs.Promise.{promise}
use Rattle.arcs.specs.declared.Arcs.{Arcs}
use Rattle.arcs.specs.inner.Arcs.{leaving_in, order, Laid}
use Rattle.whole_network.specs.declared.source.Source.{Source}
use Rattle.whole_network.specs.declared.lent.LentSource.{LentSource}
use Rattle.whole_network.specs.inner.Stages.{family_in, AcceptedIn, header, family, lent_family}

module _ (lines : Lines) (genes : Genes) (ok : AcceptedIn lines genes) where
  abbrev n : ℕ
  n = lines.header.nodes

  abbrev m : ℕ
  m = lines.header.genes

  pub limits : WithinLimits lines.header
  unfolding nodes_in gene_tree
  limits = ok.limits

  pub kept_promise : {s u : List ℕ} {r : ℕ} → m * n ≤ length s → Rows (family_in lines genes) u 0 → Kept (family_in lines genes) s u → cost_of r ≡ least_over n (row n u 1)
      → WholeNetwork (family_in lines genes) s u r
  unfolding family_of nodes_in gene_tree
  kept_promise {s} {u} {r} l rows kept e = promise _ _ _ _ ok s u l rows kept r e

  -- gene 1's row lies within
  pub row_within : {s u : List ℕ} → m * n ≤ length s → Kept (family_in lines genes) s u → n ≤ length u
  row_within l k = omega (arith, k.long, mul-le-mul_right n limits.some_gene)

  pub within_limits : WithinLimits lines.header
  within_limits = limits

  -- over arcs that are laid out
  module _ (a : Arcs) (laid : Laid (nodes_of lines) a) where
    pub ready_in : Prepared (family_in lines genes) (order a)
    ready_in = prepared _ _ _ _ ok (order a) laid.ordered.places

    pub out_in : (v : ℕ) → 1 ≤ v → v ≤ n → (family_in lines genes).out v ≡ leaving_in lines.nodes a v
    unfolding nodes_in
    out_in v l u = out_at _ _ _ _ v l u ∙ rw (laid.firsts v l u, laid.seconds v l u, laid.others v l u, species_in n lines.nodes v l u)

-- what the table of a source is filled by
module _ (f : Source) where
  pub within : WithinLimits (header f)
  within = within_limits f.lines.now f.genes.now f.accepted

  pub ready : Prepared (family f) (order f.arcs)
  ready = ready_in f.lines.now f.genes.now f.accepted f.arcs f.laid

  pub out_is : (v : ℕ) → 1 ≤ v → v ≤ (header f).nodes → (family f).out v ≡ leaving_in f.lines.now.nodes f.arcs v
  out_is = out_in f.lines.now f.genes.now f.accepted f.arcs f.laid

-- and of one that is lent
module _ (f : LentSource) where
  pub lent_within : WithinLimits f.lines.now.header
  lent_within = within_limits f.lines.now f.genes.now f.accepted

  pub lent_ready : Prepared (lent_family f) (order f.arcs.now)
  lent_ready = ready_in f.lines.now f.genes.now f.accepted f.arcs.now f.laid

  pub lent_out : (v : ℕ) → 1 ≤ v → v ≤ f.lines.now.header.nodes → (lent_family f).out v ≡ leaving_in f.lines.now.nodes f.arcs.now v
  lent_out = out_in f.lines.now f.genes.now f.accepted f.arcs.now f.laid
