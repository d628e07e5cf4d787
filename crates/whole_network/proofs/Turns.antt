-- The turns of filling the table: at the next node of the order the words that the clauses read are small, and the word of the clauses is the least cost.
-- Assumes nothing.
use Rattle.std.proofs.Common.{◌≡◌, ◌≢◌, ◌∙◌, refl, List, ℕ, ◌+◌, ◌-◌, ◌*◌, ◌≤◌, ◌<◌, length, take, drop, length-drop, arith, mul-le-mul}
use Rattle.std.proofs.lemmas.List.{take_rest}
use Rattle.std.proofs.Math.ListN.{set}
use Rattle.finite.proofs.Cases.{by_less}
use Rattle.finite.specs.Tables.{at}
use Rattle.layout.specs.declared.lines.Lines.{Lines}
use Rattle.layout.specs.declared.genes.Genes.{Genes}
use Rattle.layout.specs.Lines.{nodes_in}
use Rattle.layout.specs.inner.Genes.{left, right, gene_tree}
use Rattle.layout.proofs.Numbered.{gene_species_in}
use Rattle.histories.specs.Histories.{Cost, ending, stepping, least, Out, tip, pair, Family}
use Rattle.histories.specs.inner.Grades.{Leads}
use Rattle.histories.specs.Words.{cost_of, cell}
use Rattle.histories.specs.inner.Rows.{row, cost_at, Cell}
use Rattle.histories.specs.Families.{family_of}
use Rattle.histories.proofs.Cells.{cell_in, row_costs}
use Rattle.histories.proofs.Accepted.{gene_tip, gene_pair}
use Rattle.histories.proofs.Filling.{turn_low, turn_high, stepping_least, own_cells, child_cells, partly_more, kept_more, kept_none, partly_start, partly_end, rows_none}
use Rattle.arcs.specs.inner.Arcs.{order, leaving_in}
use Rattle.cell_costs.proofs.Sums.{leads_both}
use Rattle.cell_costs.specs.inner.Costs.{tip_cost, inner_cost}
use Rattle.whole_network.specs.declared.Kind.TheVariants.{Tip, Pair}
use Rattle.whole_network.specs.declared.Row.{Row}
use Rattle.whole_network.specs.declared.lent.LentSource.{LentSource}
use Rattle.whole_network.specs.inner.Stages.{family_in, lent_family, RowIn, RowsIn, PartlyIn, KeptIn, Next}
use Rattle.whole_network.proofs.Ready.{lent_ready, lent_out}

-- a leaf gene's step and an inner gene's are those of the clauses
tip_step : (d t l : ℕ) (W : ℕ → ℕ → Cost) (g k v : ℕ) (o : Out) → tip_cost t l k (W g) o ≡ stepping d t l W g (tip k) v o
unfolding tip_cost stepping ending
tip_step d t l W g k v o = refl

inner_step : (d t l : ℕ) (W : ℕ → ℕ → Cost) (g a b v : ℕ) (o : Out) → inner_cost d t l (W a) (W b) (W g) v o ≡ stepping d t l W g (pair a b) v o
unfolding inner_cost stepping ending
inner_step d t l W g a b v o = refl

-- the gene of a row
module _ {l : Lines} {t : Genes} {r : Row} (R : RowIn l t r) where
  -- a leaf gene of a species
  module _ (k : ℕ) (is : r.kind ≡ Tip k) where
    tip_kind : (left t r.gene ≡ 0) × (k ≡ at l.genes.species r.gene)
    tip_kind = rw is at R.kind

    pub tip_is : (family_in l t).gene r.gene ≡ tip k
    unfolding gene_tree
    tip_is = gene_tip _ _ _ _ r.gene tip_kind.0 ∙ rw (gene_species_in l.header.genes l.genes r.gene R.low R.high, tip_kind.1)

  -- an inner gene whose children's rows begin at a and b
  module _ (a b : ℕ) (is : r.kind ≡ Pair a b) where
    pub pair_kind : (left t r.gene ≢ 0) × (a ≡ (left t r.gene - 1) * l.header.nodes) × (b ≡ (right t r.gene - 1) * l.header.nodes)
    pair_kind = rw is at R.kind

    pub pair_is : (family_in l t).gene r.gene ≡ pair (left t r.gene) (right t r.gene)
    unfolding gene_tree
    pair_is = gene_pair _ _ _ _ r.gene pair_kind.0

-- the place of the order that is next in the row of a gene
module _ {f : LentSource} {s : List ℕ} {r : Row} {i : ℕ} (T : Next f s r i) where
  abbrev F : Family
  F = lent_family f

  abbrev n : ℕ
  n = f.lines.now.header.nodes

  abbrev g : ℕ
  g = r.gene

  abbrev v : ℕ
  v = order f.arcs.now i

  abbrev out : Out
  out = leaving_in f.lines.now.nodes f.arcs.now (order f.arcs.now i)

  -- what is lent of the words, from a row's start on
  abbrev lent : ℕ → List ℕ
  lent k = take (length s - k) (drop k s)

  pub node_low : 1 ≤ order f.arcs.now i
  unfolding family_of nodes_in gene_tree
  node_low = turn_low (lent_ready f) T.room T.row.low T.row.high T.part T.low T.high refl

  node_high : order f.arcs.now i ≤ f.lines.now.header.nodes
  unfolding family_of nodes_in gene_tree
  node_high = turn_high (lent_ready f) T.room T.row.low T.row.high T.part T.low T.high refl

  pub node_few : order f.arcs.now i ≤ 127
  node_few = omega (arith, node_high, f.lines.now.within.few_nodes)

  at_cell : r.start + (order f.arcs.now i - 1) ≡ cell n g v
  unfolding cell
  at_cell = omega (arith, T.row.starts)

  pub word_inside : r.start + (order f.arcs.now i - 1) < length s
  word_inside = omega (arith, at_cell, T.room, cell_in n f.lines.now.header.genes g v T.row.low T.row.high node_low node_high)

  pub word_low : r.start + (order f.arcs.now i - 1) < 16129
  word_low = omega (
    arith,
    at_cell,
    cell_in n f.lines.now.header.genes g v T.row.low T.row.high node_low node_high,
    mul-le-mul {n₂ = 127} {m₂ = 127} f.lines.now.within.few_genes f.lines.now.within.few_nodes,
  )

  pub row_starts : r.start ≤ length s
  row_starts = omega (arith, word_inside)

  outs : F.out v ≡ out
  outs = lent_out f v node_low node_high

  -- its own row may be read where the arcs out lead
  pub own_ends : Leads (Cell (lent r.start)) (leaving_in f.lines.now.nodes f.arcs.now (order f.arcs.now i))
  unfolding family_of nodes_in gene_tree
  own_ends = rw (take_rest s r.start) (rw outs at (own_cells (lent_ready f) T.room T.row.low T.row.high T.part T.low T.high refl r.start T.row.starts))

  -- a word that stands for the least cost is put in its place
  pub word_put : (w : ℕ) → cost_of w ≡ least (lent_family f) r.gene (order f.arcs.now i)
      → PartlyIn f (set s (r.start + (order f.arcs.now i - 1)) w) r.gene (i - 1) × KeptIn f s (set s (r.start + (order f.arcs.now i - 1)) w)
  unfolding family_of nodes_in gene_tree
  word_put w e = rw at_cell (
    partly_more (lent_ready f) T.room T.row.low T.row.high T.part T.low T.high refl w e,
    kept_more (lent_ready f) T.room T.row.low T.row.high T.part T.low T.high refl s w (kept_none F s),
  )

  step_least : stepping f.lines.now.header.duplication f.lines.now.header.transfer f.lines.now.header.loss (row n s) g (F.gene g) v (F.out v) ≡ least F g v
  unfolding family_of nodes_in gene_tree
  step_least = stepping_least (lent_ready f) T.room T.row.low T.row.high T.part T.low T.high refl

  -- of a leaf gene
  module _ (k : ℕ) (is : r.kind ≡ Tip k) where
    pub tip_least : tip_cost f.lines.now.header.transfer f.lines.now.header.loss k (cost_at (lent r.start)) (leaving_in f.lines.now.nodes f.arcs.now (order f.arcs.now i)) ≡ least (lent_family f) r.gene (order f.arcs.now i)
    tip_least = rw (take_rest s r.start, row_costs n s g r.start T.row.starts, ← outs) (tip_step f.lines.now.header.duplication f.lines.now.header.transfer f.lines.now.header.loss (row n s) g k v (F.out v) ∙ rw (tip_is T.row k is) at step_least)

  -- of an inner gene whose children's rows begin at a and b
  module _ (a b : ℕ) (is : r.kind ≡ Pair a b) where
    abbrev kind : (left f.genes.now g ≢ 0) × (a ≡ (left f.genes.now g - 1) * n) × (b ≡ (right f.genes.now g - 1) * n)
    kind = pair_kind T.row a b is

    abbrev gene : F.gene g ≡ pair (left f.genes.now g) (right f.genes.now g)
    gene = pair_is T.row a b is

    -- the rows of its children may be read there and at the node itself
    left_row : Cell (lent a) v × Leads (Cell (lent a)) (F.out v)
    unfolding family_of nodes_in gene_tree
    left_row = rw (take_rest s a) (child_cells (lent_ready f) T.room T.row.low T.row.high T.part T.low T.high refl (left f.genes.now g) a kind.1
        ((lent_ready f).graded.left_more g _ _ gene) ((lent_ready f).graded.left_in g _ _ gene))

    right_row : Cell (lent b) v × Leads (Cell (lent b)) (F.out v)
    unfolding family_of nodes_in gene_tree
    right_row = rw (take_rest s b) (child_cells (lent_ready f) T.room T.row.low T.row.high T.part T.low T.high refl (right f.genes.now g) b kind.2
        ((lent_ready f).graded.right_more g _ _ gene) ((lent_ready f).graded.right_in g _ _ gene))

    abbrev cells : ℕ → Type 0
    cells x = Cell (lent a) x × Cell (lent b) x

    pub child_rows : cells (order f.arcs.now i) × Leads cells (leaving_in f.lines.now.nodes f.arcs.now (order f.arcs.now i))
    child_rows = ((left_row.0, right_row.0), rw outs at (leads_both _ _ _ left_row.1 right_row.1))

    -- a row that begins past the words would hold no word
    begins : (k : ℕ) → Cell (lent k) v → k ≤ length s
    begins k c = by_less (length s) k (λ l. absurd (omega (arith, (rw (take_rest s k) at c).inside, length-drop k s))) (λ l. l)

    pub left_starts : a ≤ length s
    left_starts = begins a left_row.0

    pub right_starts : b ≤ length s
    right_starts = begins b right_row.0

    pub inner_least : inner_cost f.lines.now.header.duplication f.lines.now.header.transfer f.lines.now.header.loss (cost_at (lent a)) (cost_at (lent b)) (cost_at (lent r.start)) (order f.arcs.now i) (leaving_in f.lines.now.nodes f.arcs.now (order f.arcs.now i))
        ≡ least (lent_family f) r.gene (order f.arcs.now i)
    inner_least = rw (take_rest s r.start, take_rest s a, take_rest s b, row_costs n s g r.start T.row.starts, row_costs n s (left f.genes.now g) a kind.1, row_costs n s (right f.genes.now g) b kind.2, ← outs)
        (inner_step f.lines.now.header.duplication f.lines.now.header.transfer f.lines.now.header.loss (row n s) g (left f.genes.now g) (right f.genes.now g) v (F.out v) ∙ rw gene at step_least)

-- a row begins, and is done
module _ (f : LentSource) {s : List ℕ} where
  pub row_begun : {g : ℕ} → RowsIn f s g → PartlyIn f s g f.lines.now.header.nodes
  unfolding family_of nodes_in
  row_begun {g} R = partly_start (lent_ready f) s g R

  pub row_done : {g i : ℕ} → i ≤ 0 → PartlyIn f s g i → RowsIn f s (g - 1)
  row_done {g} {i} l p = let e : i ≡ 0 = omega arith in partly_end (lent_ready f) s g (rw e at p)

-- so is the table, from no row on
pub rows_begun : (f : LentSource) (s : List ℕ) → RowsIn f s f.lines.now.header.genes
unfolding family_of gene_tree
rows_begun f s = rows_none (lent_family f) s

-- the places where rows begin are low, and an inner gene's children are genes
module _ (f : LentSource) where
  pub row_low : (g : ℕ) → g ≤ f.lines.now.header.genes → (g - 1) * f.lines.now.header.nodes ≤ 16129
  row_low g u = omega (arith, f.lines.now.within.few_nodes, f.lines.now.within.few_genes, mul-le-mul {n₂ = 127} {m₂ = 127} (less g u) f.lines.now.within.few_nodes)
    where
      less : (g : ℕ) → g ≤ f.lines.now.header.genes → g - 1 ≤ 127
      less g u = omega (arith, f.lines.now.within.few_genes)

  module _ (g : ℕ) (d : left f.genes.now g ≢ 0) where
    inner_pair : (lent_family f).gene g ≡ pair (left f.genes.now g) (right f.genes.now g)
    unfolding gene_tree
    inner_pair = gene_pair _ _ _ _ g d

    pub left_high : left f.genes.now g ≤ f.lines.now.header.genes
    unfolding family_of gene_tree
    left_high = (lent_ready f).graded.left_in g _ _ inner_pair

    pub right_low : 1 ≤ right f.genes.now g
    right_low = omega (arith, (lent_ready f).graded.right_more g _ _ inner_pair)

    pub right_high : right f.genes.now g ≤ f.lines.now.header.genes
    unfolding family_of gene_tree
    right_high = (lent_ready f).graded.right_in g _ _ inner_pair
