-- The loops of the search over what is prepared: the facts of crate optimum's machine and of the mapping, as the functions ask for them. A tree that holds the
-- network under a switching is one that the mapping can climb, for no more than two on arcs leave a node, and what the mapping finds in it is what the model
-- says of the network under that switching.
-- Assumes nothing.
use Rattle.std.proofs.Common.{◌≡◌, ℕ, ◌+◌, ◌≤◌, ◌<◌, List, None, length, set, refl, ap, arith, ◌≢◌, sym, ◌∙◌, ◌⊎◌, inl, inr}
use Rattle.finite.specs.Tables.{at}
use Rattle.layout.specs.Lines.{nodes_in, network_of}
use Rattle.layout.specs.inner.Tree.{Held, up, lateral, rank}
use Rattle.layout.specs.inner.Choices.{best, blank}
use Rattle.layout.specs.inner.Genes.{left, leaf, gene_tree}
use Rattle.layout.specs.Headers.{costs}
use Rattle.layout.specs.declared.lines.Lines.{Lines}
use Rattle.layout.specs.declared.choices.Choices.{Choices}
use Rattle.layout.specs.declared.tree.Tree.{Tree}
use Rattle.layout.specs.declared.genes.Genes.{Genes}
use Rattle.layout.specs.declared.results.Placed.{Placed}
use Rattle.topology.specs.Networks.{Network, Sound, Node}
use Rattle.topology.specs.Switchings.{Switching, on_arcs}
use Rattle.topology.specs.Lines.{network}
use Rattle.reconciliation.specs.GeneTrees.{GeneTree}
use Rattle.reconciliation.specs.Costs.{Costs}
use Rattle.displayed.specs.Model.{lca_cost}
use Rattle.optimum.specs.Optimum.{assembled, trials_of, settings}
use Rattle.optimum.proofs.Search.{search_state, last_count, last_best, last_optimal}
use Rattle.switching.proofs.Turning.{some_held}
use Rattle.mapping.specs.inner.Climbs.{tree_of, fork_in, Climbable}
use Rattle.mapping.specs.inner.Evaluation.{Family, Lent, score_of, Evaluated}
use Rattle.mapping.specs.declared.Score.{Score}
use Rattle.search.specs.inner.Prepared.{Prepared, Working, Assembled, score_under, Reconciled}
use Rattle.search.specs.inner.Steps.{fresh, Settling, SettledBy, Finished, Reached, Awaiting, Last}
use Rattle.search.specs.inner.Searched.{Searched}
use Rattle.search.specs.declared.given.Given.{Given}
use Rattle.search.specs.declared.Stage.{Stage}
use Rattle.search.specs.declared.Found.{Found}
use Rattle.finite.specs.Tests.{same, tally}
use Rattle.finite.proofs.Cases.{by_eq, by_bool}
use Rattle.topology.proofs.Above.{parent_cases, by_node}
use Rattle.displayed.specs.Displayed.{Displayed, NodeOf}
use Rattle.displayed.specs.Displays.{switched, display, base, two_arcs}
use Rattle.displayed.specs.inner.Tabled.{tree_in, Holds}
use Rattle.displayed.proofs.Model.{table_tree, table_seated, table_place, table_event, table_transfers, table_losses, table_duplication_count, table_transfer_count, table_loss_count, table_cost}
use Rattle.displayed.proofs.Displays.{no_third}
use Rattle.layout.specs.inner.Parts as Q
use Rattle.search.proofs.Steps as S
use Rattle.displayed.specs.Model as D

module _ (given : Given) where
  abbrev lines : Lines
  lines = given.network.lines.now

  abbrev genes : Genes
  genes = given.genes.now

  abbrev ok : Sound (network_of lines)
  ok = given.network.sound

  abbrev P : Prepared lines genes
  P = given.prepared

  abbrev N : Network
  N = network_of lines

  abbrev G : GeneTree
  G = gene_tree lines.header.genes genes

  abbrev C : Costs
  C = costs lines.header

  abbrev n : ℕ
  n = lines.header.nodes

  size_is : N.size ≡ n
  unfolding network nodes_in
  size_is = refl

  low : N.size ≤ 127
  low = omega (arith, size_is, lines.within.few_nodes)

  -- the tree of a switching, as the table holds it: what the mapping asks of it, and what its results say
  module _ (σ : Switching) (t : Tree) (H : Held N σ t) where
    -- the secondary arcs that are on, as numbers
    abbrev marks : ℕ → ℕ
    marks v = tally (lateral t v)

    holds : Holds (D.tree_of N σ) n (up t) (rank t) marks (fork_in t)
    unfolding display switched base two_arcs fork_in on_arcs
    holds = record {
      size = sym size_is;
      ups = λ v _. H.ups v;
      ranks = λ v k. H.ranks v k.high;
      laterals = λ v _. ap tally (H.laterals v);
      forked = λ v k. ap (λ (x : ℕ). tally (same x 2)) (H.counts v (record { low = k.low; high = k.high }));
    }

    up_few : (v : ℕ) → up t v ≤ n
    up_few v = rw (H.ups v) (parent_cases N σ v
        (λ e. by_node N ok v (λ k. omega (arith, e, size_is, ok.in_principal v k)) (λ z _. omega (arith, e)))
        (λ _ e. by_node N ok v (λ k. omega (arith, e, size_is, ok.in_secondary v k)) (λ _ z. omega (arith, e))))

    rank_some : (v : ℕ) → 1 ≤ v → v ≤ n → 1 ≤ rank t v
    rank_some v l u = rw (H.ranks v (omega (arith, size_is))) (ok.rank_some v (λ e. omega arith))

    -- three on arcs do not leave one node
    narrow : (c d e : ℕ) → NodeOf (tree_of n t) c → NodeOf (tree_of n t) d → NodeOf (tree_of n t) e → c ≢ d → up t c ≡ up t d → up t e ≡ up t c → (e ≡ c) ⊎ (e ≡ d)
    unfolding tree_of tree_in
    narrow c d e kc kd ke apart q r = by_eq e c (λ x. inl x) (λ x. by_eq e d (λ y. inr y)
        (λ y. absurd (no_third N ok σ G P.seated c d e (node c kc.low kc.high) (node d kd.low kd.high) (node e ke.low ke.high) apart x y
        (sym (H.ups d) ∙ sym q ∙ H.ups c) (sym (H.ups e) ∙ r ∙ H.ups c))))
      where
        node : (v : ℕ) → 1 ≤ v → v ≤ n → Node N v
        node v l u = record { low = l; high = omega (arith, size_is) }

    pub climbable : Climbable n t
    unfolding tree_of
    climbable = record {
      few = lines.within.few_nodes;
      tree = table_tree N ok σ G P.rooted P.seated n (up t) (rank t) marks (fork_in t) holds;
      ranks = rank_some;
      ups = up_few;
      narrow = narrow;
    }

    pub family : Family lines.header t genes
    unfolding tree_of
    family = record {
      limits = P.limits;
      tree = climbable;
      rooted = P.rooted;
      seated = table_seated N ok σ G P.rooted P.seated n (up t) (rank t) marks (fork_in t) holds;
    }

    abbrev X : Displayed
    X = tree_of n t

    pub score_is : (s : Score) → s ≡ score_of X G (costs lines.header) → s ≡ score_under N G (costs lines.header) σ
    unfolding score_of score_under tree_of
    score_is s e = e ∙ rw (
      table_duplication_count N ok σ G P.rooted P.seated n (up t) (rank t) marks (fork_in t) holds,
      table_transfer_count N ok σ G P.rooted P.seated n (up t) (rank t) marks (fork_in t) holds,
      table_loss_count N ok σ G P.rooted P.seated n (up t) (rank t) marks (fork_in t) holds,
      table_cost N ok σ G P.rooted P.seated n (up t) (rank t) marks (fork_in t) holds (costs lines.header),
    )

    pub genes_are : (r : List Placed) → Evaluated X G r → Reconciled N G σ r
    unfolding tree_of
    genes_are r e = record {
      places = λ g l u. e.places g l u ∙ table_place N ok σ G P.rooted P.seated n (up t) (rank t) marks (fork_in t) holds g;
      events = λ g l u. e.events g l u ∙ table_event N ok σ G P.rooted P.seated n (up t) (rank t) marks (fork_in t) holds g;
      ways = λ g l u. e.ways g l u ∙ table_transfers N ok σ G P.rooted P.seated n (up t) (rank t) marks (fork_in t) holds g;
      lost = λ g l u. e.lost g l u ∙ table_losses N ok σ G P.rooted P.seated n (up t) (rank t) marks (fork_in t) holds g;
    }

  -- the switching of a column of settings, evaluated
  module _ (f : ℕ → ℕ) {t : Tree} (H : Held N (assembled N f) t) where
    pub family_held : Family lines.header t genes
    family_held = family (assembled N f) t H

    pub assembly : {r : List Placed} {s : Score} → s ≡ score_of (tree_of lines.header.nodes t) G C → Evaluated (tree_of lines.header.nodes t) G r → Assembled lines genes f t r s
    assembly {r} {s} e v = record {
      held = H;
      lent = v.lent;
      mapped = genes_are (assembled N f) t H r v;
      score = score_is (assembled N f) t H s e;
    }

  pub works_first : {σ : Switching} {t : Tree} {r : List Placed} → Held N σ t → Lent G r → Working lines genes t r
  works_first H L = record { held = some_held H; lent = L }

  -- leaf genes sit at nodes
  pub leaves_low : (k : ℕ) → 1 ≤ k → k ≤ lines.header.genes → left genes k ≡ 0 → leaf genes k ≤ 127
  unfolding gene_tree
  leaves_low k a b e = omega (arith, (P.seated.seat k a b e).high, low)

  -- one step
  module _ {ch : Choices} {s : Stage} (A : Awaiting N G C ch s) where
    pub step_fits : s.done + 1 ≤ 127
    step_fits = omega (arith, A.inside, low)

    at_most : s.setting ≤ settings N (s.done + 1)
    at_most = omega (arith, A.left)

    pub step_settles : Settling s
    step_settles = S.settling N ok G C low P.few ch s A.reached A.inside at_most

    module _ (long : length ch.setting ≡ 128) (bests_long : length ch.best ≡ 128) {t : Tree} {r : List Placed} {score : Score}
        (B : Assembled lines genes (at (set ch.setting (s.done + 1) s.setting)) t r score) {bests : List ℕ} {z : Stage} (D : SettledBy s score.cost ch.best bests z) where
      cost_is : score.cost ≡ lca_cost N G C (assembled N (at (set ch.setting (s.done + 1) s.setting)))
      unfolding score_under
      cost_is = ap (λ (x : Score). x.cost) B.score

      pub step_reaches : Reached N G C (record { setting = set ch.setting (s.done + 1) s.setting; best = bests }) z × (z.done ≡ s.done) × (z.setting ≡ s.setting + 1)
      step_reaches =
          let q = S.trial_is N ok G C low P.few ch s A.reached A.inside at_most long score.cost cost_is in
          let d = S.stepped_done N ok G C low P.few ch s A.reached A.inside at_most long score.cost q A.left bests_long bests z D in
          (S.stepped N ok G C low P.few ch s A.reached A.inside at_most long score.cost q A.left bests_long bests z D, d.0, d.1)

  -- the stage as a step takes it: where a setting is scored already it is the stage, and where none is nothing is cached
  pub fresh_awaits : {ch : Choices} {s : Stage} → Awaiting N G C ch s → Awaiting N G C ch (fresh s)
  unfolding fresh
  fresh_awaits {ch} {s} A = record {
    reached = record {
      state = A.reached.state;
      cached = by_bool (same s.setting 0) (λ t. rw t) (λ t. rw t (rw t at A.reached.cached));
      clear = A.reached.clear;
    };
    inside = A.inside;
    left = A.left;
  }

  pub taken_awaits : {ch : Choices} {z : Stage} (s : Stage) → z ≡ fresh s → Awaiting N G C ch (fresh s) → Awaiting N G C ch z
  taken_awaits s e A = rw e A

  pub taken_at : {z : Stage} (s : Stage) → z ≡ fresh s → (z.done ≡ s.done) × (z.setting ≡ s.setting)
  unfolding fresh
  taken_at s e = (ap (λ (x : Stage). x.done) e, ap (λ (x : Stage). x.setting) e)

  -- how many settings a component has, also by the number k that a stage of it has
  pub tried_is : {d k : ℕ} → d < lines.header.nodes → k ≡ d → {tried : ℕ} → tried ≡ trials_of (Q.reticulation_count given.network.parts.now (d + 1)) → tried ≡ settings N (k + 1)
  tried_is {d} l q {tried} e = rw q (S.settings_are N (d + 1) _ tried (given.network.parted.counts (d + 1) (record { low = omega arith; high = omega (arith, size_is) })) e)

  module _ {ch : Choices} {s : Stage} (R : Reached N G C ch s) (l : s.done < lines.header.nodes) {m : ℕ} (em : m ≡ settings N (s.done + 1)) where
    in_size : s.done < N.size
    in_size = omega (arith, size_is)

    pub awaits : s.setting < m → Awaiting N G C ch s
    awaits o = record { reached = R; inside = in_size; left = omega (arith, em) }

    pub finishes : s.setting ≤ m → m ≤ s.setting → {tried : List ℕ} {z : Stage} → Finished s ch.setting tried z
        → Reached N G C (record { setting = tried; best = ch.best }) z × (z.done ≡ s.done + 1) × (z.setting ≡ 0)
    finishes a b {tried} {z} F = (
      S.finished N ok G C low P.few ch s R in_size (omega (arith, em)) tried z F (omega (arith, em)),
      ap (λ (x : Stage). x.done) F.stage,
      ap (λ (x : Stage). x.setting) F.stage,
    )

  pub begins : {ch : Choices} {s : Stage} → ch ≡ blank → (s.done ≡ 0) × ((s.setting ≡ 0) × ((s.least ≡ None) × (s.count ≡ 0))) → Reached N G C ch s
  begins {ch} {s} e z = S.reached_start N ok G C low P.few ch s e z.0 z.1.0 z.1.1.0 z.1.1.1

  pub ends : {ch : Choices} {s : Stage} → Reached N G C ch s → s.setting ≡ 0 → s.done ≤ lines.header.nodes → lines.header.nodes ≤ s.done → Last N G C (best ch) s.count
  ends {ch} {s} R z a b = S.reached_end N ok G C low P.few ch s R z (omega (arith, size_is)) (omega (arith, size_is))

  pub searched : {ch : Choices} {t : Tree} {r : List Placed} {f : Found} → Last N G C (best ch) f.trials → Assembled lines genes (best ch) t r f.score → Searched lines genes ch t r f
  searched {ch} {t} {r} {f} L A = record {
    steps = search_state N G C;
    last = L;
    count = last_count N ok G C (best ch) f.trials L;
    bests = λ c a b. last_best N ok G C (best ch) f.trials L c a (omega (arith, size_is));
    assembly = A;
    optimal = last_optimal N ok G C (best ch) f.trials L P.rooted P.seated;
  }
