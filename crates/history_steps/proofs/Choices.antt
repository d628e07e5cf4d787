-- The choice by the words of the table judges the steps as the least costs do: its rows are those of the gene and of its children, and they may be read
-- wherever a step leads. So the lowest number that it finds is that of the step to take.
-- Assumes nothing.
use Rattle.std.proofs.Common.{◌≡◌, refl, sym, ap, ◌∙◌, subst, ◌≢◌, Bool, true, false, cond, List, [], ◌∷◌, ◌++◌, ℕ, ◌+◌, ◌-◌, ◌*◌, ◌/◌, ◌%◌, ◌≤◌, ◌<◌, arith, length, length-drop, drop, get_or}
use mathlib.Core.Option.{some}
use Rattle.finite.specs.Tests.{same}
use Rattle.finite.proofs.Cases.{by_less}
use Rattle.layout.specs.Lines.{nodes_in}
use Rattle.layout.specs.inner.Genes.{left, right, gene_tree}
use Rattle.histories.specs.Histories.{Out, leaf, one, two, mixed, tip, pair, Cost, Family, least}
use Rattle.histories.specs.Families.{family_of}
use Rattle.histories.specs.Words.{word, cell}
use Rattle.histories.specs.inner.Rows.{row, cost_at, Cell}
use Rattle.histories.proofs.Words.{word_cost}
use Rattle.histories.proofs.Cells.{row_costs}
use Rattle.histories.proofs.Bound.{least_bound}
use Rattle.histories.proofs.Filling.{cell_least}
use Rattle.arcs.specs.inner.Arcs.{leaving, leaving_in}
use Rattle.arcs.specs.declared.Out.{Out as Arcs_out}
use Rattle.cell_costs.specs.inner.Costs.{left_cost, right_cost}
use Rattle.tellings.specs.Steps.{Step, rests}
use Rattle.tellings.specs.Chosen.{moves, restings, endings, options, Onward, ends, splits, goes, onward, beyond, total, same_cost, choice}
use Rattle.tellings.specs.inner.Walks.{MayStart, Low, Each, step_by, step_number, number_or, no_step, offers}
use Rattle.tellings.proofs.Options.{Among, each_of}
use Rattle.tellings.proofs.Leads.{To, Lower, leads_lower, near_node}
use Rattle.tellings.proofs.StepNumbers.{each_from, low_options, choice_number, offers_same, read_back}
use Rattle.tellings.proofs.Turns.{Taken, takes_end, takes_parts, takes_move, taken, choice_same}
use Rattle.whole_network.specs.declared.Kind.{Kind}
use Rattle.whole_network.specs.declared.Kind.TheVariants.{Tip, Pair}
use Rattle.whole_network.specs.declared.Row.{Row}
use Rattle.whole_network.specs.declared.source.Source.{Source}
use Rattle.whole_network.specs.inner.Stages.{header, family, RowOf}
use Rattle.whole_network.proofs.Ready.{within, ready, out_is}
use Rattle.whole_network.proofs.Turns.{tip_is, pair_kind, pair_is}
use Rattle.history_steps.specs.declared.StepChoice.{StepChoice}
use Rattle.history_steps.specs.inner.Tables.{Tabled}
use Rattle.history_steps.specs.inner.StepChoices.{following, spent, attains, Readable, Fit, Ready, gene_by, open_to, BeginIn, Within, ChoiceAt}

-- no step of a leaf gene parts children
tip_follows : (own left right : ℕ → Cost) (W : ℕ → ℕ → Cost) (g k : ℕ) → W g ≡ own → (v : ℕ) (o : Out)
    → Each (λ s. following own left right (onward s) ≡ beyond W g (tip k) (onward s)) (endings (tip k) v o ++ moves o)
unfolding Each following beyond onward endings moves restings
tip_follows own left right W g k e v (leaf t) = at (same k t)
  where
    at : (q : Bool) → Each (λ s. following own left right (onward s) ≡ beyond W g (tip k) (onward s)) (cond q (rests ∷ []) [] ++ [])
    at true = (refl, tt)
    at false = tt
tip_follows own left right W g k e v (one x) = (rw e, tt)
tip_follows own left right W g k e v (two x y) = (rw e, (rw e, tt))
tip_follows own left right W g k e v (mixed x y) = (rw e, (rw e, tt))

-- and of a gene with two children the rows tell all that follows a step
pair_follows : (own left right : ℕ → Cost) (W : ℕ → ℕ → Cost) (g a b : ℕ) → W g ≡ own → left ≡ W a → right ≡ W b → (e : Onward) → following own left right e ≡ beyond W g (pair a b) e
unfolding following beyond
pair_follows own left right W g a b x y z ends = refl
pair_follows own left right W g a b x y z (splits p q) = rw (y, z)
pair_follows own left right W g a b x y z (goes w) = rw x

module _ (f : Source) (s : List ℕ) (T : Tabled f s) (r : Row) (R : RowOf f r) (v : ℕ) (M : MayStart (family f) r.gene v) where
  abbrev F : Family
  F = family f

  abbrev g : ℕ
  g = r.gene

  abbrev n : ℕ
  n = (header f).nodes

  abbrev W : ℕ → ℕ → Cost
  W = row n s

  node_high : v ≤ n
  unfolding family_of nodes_in
  node_high = M.high

  gene_high : g ≤ F.genes
  unfolding family_of gene_tree
  gene_high = R.high

  -- the words from where a gene's row begins may be read at every node
  cells : (h k : ℕ) → k ≡ (h - 1) * n → 1 ≤ h → h ≤ (header f).genes → (x : ℕ) → 1 ≤ x → x ≤ n → Cell (drop k s) x
  unfolding family_of gene_tree nodes_in
  cells h k e lh uh x lx ux = cell_least (ready f) s h k x e T.room lh uh lx ux (T.rows.holds h x (omega arith) uh lx ux)

  own_cells : (x : ℕ) → 1 ≤ x → x ≤ n → Cell (drop r.start s) x
  own_cells = cells g r.start R.starts R.low R.high

  -- a row that begins past the words would hold no word
  begins : (k : ℕ) → Cell (drop k s) v → k ≤ length s
  begins k c = by_less (length s) k (λ l. absurd (omega (arith, c.inside, length-drop k s))) (λ l. l)

  pub node_few : v ≤ 127
  node_few = omega (arith, node_high, f.lines.now.within.few_nodes)

  module _ (a b : ℕ) (is : r.kind ≡ Pair a b) where
    kind : (left f.genes.now g ≢ 0) × (a ≡ (left f.genes.now g - 1) * n) × (b ≡ (right f.genes.now g - 1) * n)
    kind = pair_kind R a b is

    gene : F.gene g ≡ pair (left f.genes.now g) (right f.genes.now g)
    gene = pair_is R a b is

    left_cells : (x : ℕ) → 1 ≤ x → x ≤ n → Cell (drop a s) x
    unfolding family_of gene_tree nodes_in
    left_cells = cells (left f.genes.now g) a kind.1 (omega (arith, (ready f).graded.left_more g _ _ gene)) ((ready f).graded.left_in g _ _ gene)

    right_cells : (x : ℕ) → 1 ≤ x → x ≤ n → Cell (drop b s) x
    unfolding family_of gene_tree nodes_in
    right_cells = cells (right f.genes.now g) b kind.2 (omega (arith, (ready f).graded.right_more g _ _ gene)) ((ready f).graded.right_in g _ _ gene)

  -- its rows begin in the table, and the node's word stands there
  begun : (k : Kind) → r.kind ≡ k → BeginIn s k
  begun (Tip j) is = tt
  begun (Pair a b) is = (begins a (left_cells a b is v M.low node_high), begins b (right_cells a b is v M.low node_high))

  pub choice_asks : Within s r × (1 ≤ v) × (r.start + (v - 1) < length s)
  unfolding family_of nodes_in
  choice_asks =
      let c = own_cells v M.low M.high in
      let l = begins r.start c in
      (record { own = l; others = begun r.kind refl }, M.low, omega (arith, c.inside, length-drop r.start s))

  -- the table holds the least costs
  held : (h x : ℕ) → 1 ≤ h → h ≤ F.genes → 1 ≤ x → x ≤ F.nodes → W h x ≡ least F h x
  unfolding family_of nodes_in
  held h x lh uh lx ux = T.rows.holds h x lh uh lx ux

  word_is : W g v ≡ some M.cost
  word_is = held g v R.low gene_high M.low M.high ∙ M.finite

  -- what leaves the node, and the gene's kind
  module _ (o : Arcs_out) (leaves : leaving o ≡ leaving_in f.lines.now.nodes f.arcs v) where
    outs : F.out v ≡ leaving o
    outs = out_is f v M.low node_high ∙ sym leaves

    same_endings : (k : Kind) → r.kind ≡ k → endings (F.gene g) v (leaving o) ≡ endings (gene_by k) v (leaving o)
    unfolding endings
    same_endings (Tip j) is = rw (tip_is R j is)
    same_endings (Pair a b) is = rw (pair_is R a b is)

    opens : options F g v ≡ open_to r.kind v (leaving o)
    unfolding options
    opens = rw (outs, same_endings r.kind refl)

    module _ (t : StepChoice) (U : ChoiceAt (header f) s r v t) where
      -- the least cost there is the word's
      least_word : t.least ≡ M.cost
      unfolding row cell word
      least_word = U.least ∙ ap (λ (i : ℕ). get_or s (i + (v - 1)) 0) R.starts ∙ sym (word_cost _) ∙ ap word word_is

      pub choice_ready : Ready t
      unfolding family_of gene_tree nodes_in
      choice_ready = record {
        limits = rw U.header (within f);
        least_low = omega (arith, least_word, least_bound F (ready f).graded (ready f).limits g v M.cost M.finite);
      }

      -- its rows are those of the gene and of its children
      own_is : W g ≡ cost_at t.own.now
      unfolding family_of nodes_in
      own_is = sym (ap cost_at U.own ∙ row_costs n s g r.start R.starts)

      -- so what follows a step costs what the table says
      follows : (k : Kind) → r.kind ≡ k → Each (λ u. following (cost_at t.own.now) (left_cost t.children) (right_cost t.children) (onward u) ≡ beyond W g (F.gene g) (onward u)) (options F g v)
      follows (Tip j) is = rw (opens, is, tip_is R j is) (tip_follows _ _ _ W g j own_is v (leaving o))
      follows (Pair a b) is = each_from _ (options F g v) (λ u m. rw (pair_is R a b is) (pair_follows _ _ _ W g _ _ own_is left_is right_is (onward u)))
        where
          rows : (t.children.left.now ≡ drop a s) × (t.children.right.now ≡ drop b s)
          rows = rw is at U.children

          left_is : left_cost t.children ≡ W (left f.genes.now g)
          left_is = ap cost_at rows.0 ∙ row_costs n s (left f.genes.now g) a (kind a b is).1

          right_is : right_cost t.children ≡ W (right f.genes.now g)
          right_is = ap cost_at rows.1 ∙ row_costs n s (right f.genes.now g) b (kind a b is).2

      judges : Each (λ u. attains t u ≡ same_cost (total F W g u) (W g v)) (options F g v)
      unfolding attains spent total family_of
      judges = each_from _ (options F g v) (λ u m. rw (each_of _ (follows r.kind refl) m, U.header, least_word, word_is))

      -- and the rows may be read where the steps lead
      readable : (k : Kind) → r.kind ≡ k → (e : Onward) → To F (Lower F T.levels v M.low M.high) v e → Readable t e
      unfolding To Readable family_of nodes_in
      readable k is ends h = tt
      readable (Tip j) is (splits p q) h =
          let rows = rw is at U.children in
          let y = near_node F T.levels v M.low M.high p h.0 in let z = near_node F T.levels v M.low M.high q h.1 in
          (subst (λ (l : List ℕ). Cell l p) (sym rows.0) (own_cells p y.0 y.1), subst (λ (l : List ℕ). Cell l q) (sym rows.1) (own_cells q z.0 z.1))
      readable (Pair a b) is (splits p q) h =
          let rows = rw is at U.children in
          let y = near_node F T.levels v M.low M.high p h.0 in let z = near_node F T.levels v M.low M.high q h.1 in
          (subst (λ (l : List ℕ). Cell l p) (sym rows.0) (left_cells a b is p y.0 y.1), subst (λ (l : List ℕ). Cell l q) (sym rows.1) (right_cells a b is q z.0 z.1))
      readable k is (goes w) h = subst (λ (l : List ℕ). Cell l w) (sym U.own) (own_cells w h.0 h.1)

      pub choice_fit : Each (Fit t) (open_to r.kind v (leaving o))
      choice_fit = rw opens at (each_from (Fit t) (options F g v) (λ u m. record {
        low = each_of Low (low_options F (ready f).limits T.levels v M.low M.high g) m;
        readable = readable r.kind refl (onward u) (leads_lower F T.levels v M.low M.high g m);
      }))

      -- the step of the lowest number is the choice
      module _ (k : ℕ) (found : k ≡ offers (attains t) (open_to r.kind v (leaving o)) no_step) where
        number_is : k ≡ number_or (choice F (least F) g v)
        number_is = found ∙ ap (λ (l : List Step). offers (attains t) l no_step) (sym opens)
            ∙ offers_same (attains t) (λ u. same_cost (total F W g u) (W g v)) (options F g v) judges no_step
            ∙ choice_number F (ready f).limits T.levels v M.low M.high W g
            ∙ ap number_or (choice_same F (ready f).graded T.levels W (least F) held g v R.low gene_high M.low M.high)

        step_taken : (u : Step) → choice F (least F) g v ≡ some u → Among u (options F g v) → step_by (k / 16384) (k / 128 % 128) (k % 128) ≡ u
        unfolding number_or
        step_taken u is m =
            let e : k ≡ step_number u = number_is ∙ ap number_or is in
            rw e (read_back u (each_of Low (low_options F (ready f).limits T.levels v M.low M.high g) m))

        pub chosen : (u : Step) → u ≡ step_by (k / 16384) (k / 128 % 128) (k % 128) → choice F (least F) g v ≡ some u
        chosen u e = by (taken F (ready f).graded T.levels g v M)
          where
            by : Taken F (ready f).graded T.levels g v → choice F (least F) g v ≡ some u
            by (takes_end z is m _) = is ∙ ap some (sym (e ∙ step_taken z is m))
            by (takes_parts z is m _ _ _ _) = is ∙ ap some (sym (e ∙ step_taken z is m))
            by (takes_move z is m _ _ _) = is ∙ ap some (sym (e ∙ step_taken z is m))
