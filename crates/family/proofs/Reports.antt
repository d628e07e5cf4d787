-- The report of a family that no refusal applies to. Its network and gene tree are what the search asks for; the last state of the search is the chosen
-- switching, so the tables that are written hold the report's numbers, each of which has a field.
-- Assumes nothing.
use Rattle.std.proofs.Common.{◌≡◌, ℕ, ◌*◌, ◌≤◌, ◌<◌, List, ◌++◌, length, drop, false, not, refl, sym, ap, ◌∙◌, subst, arith}
use mathlib.Core.Path.{fun_ext}
use Rattle.finite.specs.Tests.{same, tally}
use Rattle.finite.specs.Range.{count}
use Rattle.finite.proofs.Cases.{by_eq}
use Rattle.finite.proofs.Tests.{is_same}
use Rattle.finite.proofs.Count.{count_same, count_le}
use Rattle.columns.specs.Writing.{written}
use Rattle.topology.specs.Networks.{Network, Node, Sound, is_reticulation, reticulations}
use Rattle.topology.specs.Switchings.{Switching, on_secondary, parent}
use Rattle.topology.specs.Components.{component, reticulation_count, component_count, member_of, setting_of}
use Rattle.topology.specs.Lines.{NodeLines, GeneLines, network as network_by}
use Rattle.topology.proofs.Above.{reticulation_node}
use Rattle.topology.proofs.Components.{component_node}
use Rattle.layout.specs.Lines.{nodes_in, genes_in, nodes_of, genes_of}
use Rattle.layout.specs.inner.Parts.{top, reticulation_count as count_at_top}
use Rattle.layout.specs.inner.Tree.{Held}
use Rattle.layout.specs.inner.Genes.{gene_tree}
use Rattle.layout.specs.Headers.{costs}
use Rattle.layout.specs.declared.Header.{Header}
use Rattle.layout.specs.declared.lines.Lines.{Lines}
use Rattle.layout.specs.declared.choices.Choices.{Choices}
use Rattle.layout.specs.declared.tree.Tree.{Tree}
use Rattle.layout.specs.declared.results.Placed.{Placed}
use Rattle.layout.specs.inner.Choices.{best as chosen_setting}
use Rattle.layout.specs.declared.networks.PartedNetwork.{PartedNetwork}
use Rattle.layout.specs.declared.parts.Parts.{Parts}
use Rattle.layout.specs.declared.genes.Genes.{Genes}
use Rattle.network.proofs.Acceptance.{no_others}
use Rattle.reconciliation.specs.GeneTrees.{GeneTree}
use Rattle.reconciliation.specs.Costs.{Costs}
use Rattle.displayed.specs.Model.{place, event, transfers, losses}
use Rattle.gene_tree.specs.Genes.{gene_tree_of}
use Rattle.gene_tree.proofs.Genes.{count_at}
use Rattle.optimum.specs.Optimum.{assembled, chosen, best}
use Rattle.search.specs.inner.Prepared.{Prepared, score_under, Reconciled}
use Rattle.search.specs.inner.Searched.{Searched}
use Rattle.search.specs.declared.Found.{Found}
use Rattle.histories.specs.Words.{word, words}
use Rattle.histories.specs.Histories.{overall}
use Rattle.histories.specs.Families.{family_of}
use Rattle.histories.specs.inner.Promise.{WholeNetwork}
use Rattle.whole_network.specs.declared.source.Source.{Source}
use Rattle.whole_network.specs.declared.lent.LentSource.{LentSource}
use Rattle.whole_network.specs.inner.Stages.{AcceptedIn}
use Rattle.whole_network.specs.inner.Stages as W
use Rattle.acceptance.specs.inner.Admitted.{Admitted}
use Rattle.acceptance.proofs.Mapped.{sound, rooted, seated, component_few, cost_small, duplications_small, transfers_small, losses_small, trials_small, reticulations_small, parent_small, place_small, event_few, gene_transfers_small, gene_losses_small}
use Rattle.acceptance.proofs.Whole.{whole_accepted}
use Rattle.report.specs.declared.Totals.{Totals}
use Rattle.report.specs.Reports.{SmallTotals, report_length}
use Rattle.report.specs.inner.Tables.{reticulation_in, tabled_report, SmallNodes, SmallGenes}
use Rattle.report.proofs.Writing.{length_report, report_same}
use Rattle.family.specs.Families.{Contents, network_in, gene_tree_in, family_in, reported}
use Rattle.family.specs.Reports.{totals_in, report_in}
use Rattle.family.specs.inner.Stages.{contents_by, Sized, Passed, totals_by, SourceOf, LentOf, Written}

-- what is no reticulation is set by no setting
plain : (N : Network) (r : ℕ) → N.secondary r ≡ 0 → (c y : ℕ) → setting_of N c y r ≡ false
unfolding setting_of member_of is_reticulation
plain N r e c y = rw (is_same e)

-- a source of the lines and of the genes that are built from them
pub is_source : (lines : Lines) (genes : Genes) (f : Source) → (f.lines.now ≡ lines) × (f.genes.now ≡ genes)
    → gene_tree lines.header.genes genes ≡ gene_tree_of (nodes_of lines) (genes_of lines) → SourceOf lines f
is_source lines genes f e t = record { same_lines = e.0; tree = rw e.1 t }

-- what is filled from a source of the lines is theirs
pub filled_from : (lines : Lines) (f : LentSource) → LentOf lines f → {y z : List ℕ} {r : ℕ} → WholeNetwork (W.lent_family f) y z r → WholeNetwork (W.family_in lines f.genes.now) y z r
filled_from lines f s {y} {z} {r} t = subst (λ (l : Lines). WholeNetwork (W.family_in l f.genes.now) y z r) s.same_lines t

module _ (network : PartedNetwork) (b w : ℕ) (S : Sized network.lines.now.header b w) (P : Passed (contents_by network.lines.now)) where
  abbrev lines : Lines
  lines = network.lines.now

  abbrev parts : Parts
  parts = network.parts.now

  abbrev h : Header
  h = lines.header

  abbrev L : NodeLines
  L = nodes_of lines

  abbrev K : GeneLines
  K = genes_of lines

  abbrev N : Network
  N = network_by L

  abbrev G : GeneTree
  G = gene_tree_of L K

  abbrev C : Costs
  C = costs h

  abbrev X : Contents
  X = contents_by lines

  pub admitted : Admitted L K C
  unfolding nodes_in genes_in
  admitted = record {
    limits = S.limits;
    others = no_others h.nodes lines.nodes;
    network = P.network;
    component = P.component;
    genes = P.genes;
  }

  size_is : N.size ≡ h.nodes
  unfolding network_by nodes_in
  size_is = refl

  is_sound : Sound N
  is_sound = sound L K C admitted

  -- the tables that do not depend on the switching
  module _ (genes : Genes) (tree_is : gene_tree h.genes genes ≡ G) where
    pub prepares : Prepared lines genes
    prepares = record {
      limits = S.limits;
      few = component_few L K C admitted;
      rooted = rw tree_is (rooted L K C admitted);
      seated = rw tree_is (seated L K C admitted);
    }

    -- the whole-network table
    pub whole_ready : AcceptedIn lines genes
    whole_ready = rw tree_is (whole_accepted L K C admitted)

    module _ (y z : List ℕ) (r : ℕ) (T : WholeNetwork (W.family_in lines genes) y z r) where
      whole_network : WholeNetwork (family_in X) y z r
      unfolding family_in
      whole_network = rw tree_is at T

      whole_is : r ≡ word (overall (family_in X))
      whole_is = whole_network.answer

      whole_low : r < 1000000
      whole_low = whole_network.six_columns

      table_is : z ≡ words (family_in X) ++ drop (X.genes.count * X.nodes.size) y
      unfolding family_in family_of genes_in nodes_in gene_tree_of
      table_is = whole_network.table

      -- what the search found: its switching is the one reported
      module _ (choices : Choices) (tree : Tree) (results : List Placed) (f : Found) (F : Searched lines genes choices tree results f) where
        searched_bests : (c : ℕ) → 1 ≤ c → c ≤ h.nodes → chosen_setting choices c ≡ best N G C c
        searched_bests = rw tree_is at F.bests

        abbrev σ : Switching
        σ = chosen N G C

        -- the bests agree with the chosen settings, so the switchings are the same function
        same_switching : assembled N (chosen_setting choices) ≡ σ
        unfolding assembled
        same_switching = fun_ext (λ r. by_eq (N.secondary r) 0
            (λ e. plain N r e (component N r) (chosen_setting choices (component N r)) ∙ sym (plain N r e (component N r) (best N G C (component N r))))
            (λ d. let n = component_node N is_sound r (reticulation_node N is_sound r d) in
            ap (λ (y : ℕ). setting_of N (component N r) y r) (searched_bests (component N r) n.low (omega (arith, n.high, size_is)))))

        held : Held N σ tree
        held = rw same_switching at F.assembly.held

        scored : f.score ≡ score_under N G C σ
        scored = rw (tree_is, same_switching) at F.assembly.score

        mapped : Reconciled N G σ results
        mapped = rw (tree_is, same_switching) at F.assembly.mapped

        gene_in : (g : ℕ) → g ≤ h.genes → g ≤ G.count
        unfolding genes_in
        gene_in g l = omega (arith, count_at L K)

        gene_low : (g : ℕ) → g ≤ h.genes → g ≤ K.count
        unfolding genes_in
        gene_low g l = l

        few : count h.nodes (is_reticulation N) ≤ 63
        unfolding nodes_in
        few = reticulations_small L K C admitted

        node_in : (v : ℕ) → 1 ≤ v → v ≤ h.nodes → Node N v
        node_in v a l = record { low = a; high = omega (arith, size_is) }

        top_at : (v : ℕ) → 1 ≤ v → v ≤ h.nodes → top parts v ≡ component N v
        top_at v a l = network.parted.tops v (node_in v a l)

        top_in : (v : ℕ) → 1 ≤ v → v ≤ h.nodes → Node N (component N v)
        top_in v a l = component_node N is_sound v (node_in v a l)

        count_in : (c : ℕ) → Node N c → count_at_top parts c ≡ reticulation_count N c
        count_in c k = network.parted.counts c k

        components_are : count h.nodes (λ c. not (same (count_at_top parts c) 0)) ≡ component_count N
        unfolding component_count network_by nodes_in
        components_are = count_same h.nodes _ _ (λ v a l. rw (count_in v (node_in v a l)))

        reticulations_are : count h.nodes (is_reticulation N) ≡ reticulations N
        unfolding reticulations network_by nodes_in
        reticulations_are = refl

        abbrev totals : Totals
        totals = totals_by lines parts f r

        totals_are : totals ≡ totals_in X
        unfolding totals_by totals_in network_in gene_tree_in reported score_under nodes_in genes_in
        totals_are = rw (scored, F.count, whole_is, reticulations_are, components_are)

        -- every number of the report has a field
        totals_small : SmallTotals totals
        unfolding totals_by score_under
        totals_small = record {
          cost = rw scored (cost_small L K C admitted);
          duplications = rw scored (duplications_small L K C admitted);
          transfers = rw scored (transfers_small L K C admitted);
          losses = rw scored (losses_small L K C admitted);
          trials = rw F.count (trials_small L K C admitted);
          whole = whole_low;
          nodes = omega (arith, lines.within.few_nodes);
          genes = omega (arith, lines.within.few_genes);
          reticulations = omega (arith, lines.within.few_nodes, count_le h.nodes (is_reticulation N));
          components = omega (arith, lines.within.few_nodes, count_le h.nodes (λ c. not (same (count_at_top parts c) 0)));
        }

        pub nodes_small : SmallNodes h.nodes tree parts
        nodes_small = record {
          each = λ v a l. record {
            taken = omega (arith, held.ups v, parent_small L K C admitted σ v);
            top_row = omega (arith, top_at v a l, (top_in v a l).high, size_is, lines.within.few_nodes);
            count = rw (top_at v a l) (omega (arith, count_in (component N v) (top_in v a l), component_few L K C admitted (component N v)));
          };
        }

        pub genes_small : SmallGenes h.genes results
        genes_small = record {
          each = λ g a l. record {
            place = omega (arith, mapped.places g a (gene_in g l), place_small L K C admitted σ g a (gene_low g l));
            event = omega (arith, mapped.events g a (gene_in g l), event_few L K C admitted σ g a (gene_low g l));
            transfers = omega (arith, mapped.ways g a (gene_in g l), gene_transfers_small L K C admitted σ g a (gene_low g l));
            losses = omega (arith, mapped.lost g a (gene_in g l), gene_losses_small L K C admitted σ g a (gene_low g l));
          };
        }

        pub report_room : report_length h.nodes h.genes (reticulation_in lines) ≤ b
        unfolding report_length
        report_room = omega (arith, S.room, lines.within.few_genes, few)

        -- the report is that of the contents
        report_is : tabled_report totals lines tree parts results ≡ report_in X
        unfolding report_in network_in gene_tree_in reported nodes_in genes_in
        report_is = report_same totals (totals_in X) h.nodes h.genes (is_reticulation N) (is_reticulation N) _ _ _ _ (parent N σ) (λ v. tally (on_secondary N σ v)) (component N) (reticulation_count N)
            _ _ _ _ (place N G σ) (event N G σ) (transfers N G σ) (losses N G σ) totals_are (λ v a l. refl)
            (λ v a l. rw (held.ups v, held.laterals v, top_at v a l, count_in (component N v) (top_in v a l)))
            (λ g a l. rw (mapped.places g a (gene_in g l), mapped.events g a (gene_in g l), mapped.ways g a (gene_in g l), mapped.lost g a (gene_in g l)))

        report_length_lem : report_length h.nodes h.genes (reticulation_in lines) ≡ length (report_in X)
        report_length_lem = sym (length_report totals h.nodes h.genes (is_reticulation N) _ _ _ _ _ _ _ _) ∙ ap length report_is

        -- so what is written with totals that are these is the outcome
        module _ (q : Totals) (e : q ≡ totals) where
          pub totals_fit : SmallTotals q
          totals_fit = rw e totals_small

          pub written_family : (d x : List ℕ) (k : ℕ) → x ≡ written d (tabled_report q lines tree parts results)
              → k ≡ report_length h.nodes h.genes (reticulation_in lines) → Written X d x y z k
          written_family d x k v l = record {
            result = v ∙ ap (λ (a : Totals). written d (tabled_report a lines tree parts results)) e ∙ ap (written d) report_is;
            scratch = table_is;
            bytes = l ∙ report_length_lem;
          }
