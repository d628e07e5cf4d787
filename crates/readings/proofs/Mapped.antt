-- The mapping that computes is the one that 01 words. A way's nodes are those that its lower end is reached from and its upper end is not (`way_is`, of two
-- nodes above a third one being above the other), so sums along a climb are counts of them; the events are told by their cases (crate displayed).
-- Assumes nothing.
use Rattle.std.proofs.Common.{◌≡◌, refl, sym, ◌∙◌, ◌≢◌, ◌↔◌, ◌⊎◌, inl, inr, ⊎_elim, Bool, true, false, cond, ◌&&◌, not, ℕ, ◌+◌, ◌≤◌, arith}
use mathlib.Core.Bool.{and-false}
use Rattle.finite.specs.Tests.{same, tally}
use Rattle.finite.specs.Range.{count}
use Rattle.finite.proofs.Sum.{sum_same}
use Rattle.finite.proofs.Cases.{by_bool, by_eq, clash}
use Rattle.std.proofs.lemmas.Bool.{and_from, not_from_false, not-true}
use Rattle.finite.proofs.Tests.{is_same, same_is, not_same, and_l, and_r}
use Rattle.topology.specs.Networks.{Network, Node, Sound}
use Rattle.topology.specs.Switchings.{Switching, on_secondary, parent, on_arcs, above, Above}
use Rattle.topology.proofs.Above.{falls, network_ind, above_is, is_above, above_self, above_not, above_zero, above_anti}
use Rattle.reconciliation.specs.GeneTrees.{GeneTree, Rooted, Seated}
use Rattle.reconciliation.specs.Costs.{Costs}
use Rattle.displayed.specs.Displayed.{Displayed, NodeOf, Tree, reaches}
use Rattle.displayed.specs.Mapping.{SeatedIn}
use Rattle.displayed.specs.Mapping as T
use Rattle.displayed.specs.Displays.{switched, display, base, two_arcs}
use Rattle.displayed.specs.inner.Charges.{on_way}
use Rattle.displayed.specs.Model.{tree_of, place, event, transfers, losses, duplication_count, transfer_count, loss_count, lca_cost}
use Rattle.displayed.proofs.Places as P
use Rattle.displayed.proofs.Events as E
use Rattle.displayed.proofs.Children as C
use Rattle.displayed.proofs.Ways.{way_sum}
use Rattle.displayed.proofs.Model.{tree_is, tree_seated}
use Rattle.readings.specs.Many.{Many}
use Rattle.readings.specs.Mapped.{OnArc, Lowest, OnWay, ChildHere, EventOf, leaf_gene, speciation, duplication, transfer, Lost, Mapped, Added}

module _ (N : Network) (ok : Sound N) (σ : Switching) where
  -- of two nodes above a third one is above the other
  chain : (a b : ℕ) → a ≢ 0 → (x : ℕ) → above N σ a x ≡ true → above N σ b x ≡ true → (above N σ a b ≡ true) ⊎ (above N σ b a ≡ true)
  chain a b z = network_ind N ok (λ x. above N σ a x ≡ true → above N σ b x ≡ true → (above N σ a b ≡ true) ⊎ (above N σ b a ≡ true))
      (λ p q. clash p (above_zero N ok σ a z))
      (λ x d ih p q. by_eq a x (λ e. inr (rw e q)) (λ n. by_eq b x (λ e. inl (rw e p))
      (λ m. ih (parent N σ x) ((falls N ok σ).fall x d) (sym (above_not N ok σ a x n) ∙ p) (sym (above_not N ok σ b x m) ∙ q))))

  -- on the way from b down to a: above a and not above b
  way_is : (b a v : ℕ) → b ≢ 0 → above N σ b a ≡ true → ((above N σ v a && not (above N σ v b)) ≡ true) ↔ OnWay N σ b a v
  way_is b a v z t = (to, from)
    where
      to : (above N σ v a && not (above N σ v b)) ≡ true → OnWay N σ b a v
      to h =
          let p : above N σ v a ≡ true = and_l (above N σ v a) _ h in
          let q : above N σ v b ≡ false = not-true _ (and_r (above N σ v a) _ h) in
          record {
            below = is_above N ok σ b v (⊎_elim (λ r. r) (λ r. clash r q) (chain b v z a t p));
            apart = λ e. clash (rw e (above_self N ok σ b)) q;
            reaches = is_above N ok σ v a p;
          }

      from : OnWay N σ b a v → (above N σ v a && not (above N σ v b)) ≡ true
      from w = and_from _ _ (above_is N ok σ v w.reaches) (not_from_false _ (by_bool (above N σ v b)
          (λ r. absurd (w.apart (above_anti N ok σ v b r (above_is N ok σ b w.below)))) (λ r. r)))

module _ (N : Network) (σ : Switching) where
  -- the displayed tree in the network's words
  reaches_is : (v x : ℕ) → reaches (tree_of N σ) v x ≡ above N σ v x
  unfolding display switched above
  reaches_is v x = refl

  lateral_is : (c : ℕ) → (tree_of N σ).lateral c ≡ on_secondary N σ c
  unfolding display switched base
  lateral_is c = refl

  up_is : (c : ℕ) → (tree_of N σ).up c ≡ parent N σ c
  unfolding display switched
  up_is c = refl

  size_is : (tree_of N σ).size ≡ N.size
  unfolding display switched
  size_is = refl

  forks_is : (v : ℕ) → (tree_of N σ).forks v ≡ same (on_arcs N σ v) 2
  unfolding display switched base two_arcs on_arcs
  forks_is v = refl

module _ {N : Network} (ok : Sound N) {G : GeneTree} (t : Rooted G) (s : Seated N G) (σ : Switching) where
  abbrev D : Displayed
  D = tree_of N σ

  is_tree : Tree D
  is_tree = tree_is N ok σ

  seats : SeatedIn D G
  seats = tree_seated N ok σ G t s

  node_of : {v : ℕ} → NodeOf D v → Node N v
  node_of k = record { low = k.low; high = omega (arith, k.high, size_is N σ) }

  of_node : {v : ℕ} → Node N v → NodeOf D v
  of_node k = record { low = k.low; high = omega (arith, k.high, size_is N σ) }

  reached : (v x : ℕ) → reaches D v x ≡ true → Above N σ v x
  reached v x r = is_above N ok σ v x (sym (reaches_is N σ v x) ∙ r)

  reaching : (v x : ℕ) → Above N σ v x → reaches D v x ≡ true
  reaching v x a = reaches_is N σ v x ∙ above_is N ok σ v a

  -- placement
  leaf_place : (g : ℕ) → 1 ≤ g → g ≤ G.count → G.left g ≡ 0 → place N G σ g ≡ G.leaf g
  unfolding place
  leaf_place g _ _ e = P.place_leaf D G t g e

  inner_place : (g : ℕ) → 1 ≤ g → g ≤ G.count → G.left g ≢ 0 → Lowest N σ (place N G σ (G.left g)) (place N G σ (G.right g)) (place N G σ g)
  unfolding place
  inner_place g l u d = record {
    is_node = node_of (P.place_node D is_tree G t seats g l u);
    one = reached _ _ (P.place_left D is_tree G t seats g d);
    other = reached _ _ (P.place_right D is_tree G t seats g d);
    lowest = λ w k a b. reached _ _ (P.place_lowest D is_tree G t seats g d w (of_node k) (reaching w _ a) (reaching w _ b));
  }

  -- events
  module _ (g : ℕ) where
    -- where no child sits, two on arcs leave the place of an inner gene
    two_arcs_lem : G.left g ≢ 0 → (¬ (ChildHere N σ G (place N G σ) g)) → on_arcs N σ (place N G σ g) ≡ 2
    unfolding place
    two_arcs_lem d n = same_is _ _ (sym (forks_is N σ _) ∙ C.child_forks D is_tree G t seats g (G.left g) (λ e. omega (arith, t.inner_low g d)) (t.left_parent g d) (λ e. n (inl e)))

    secondary_arc_lem : E.Sends D (T.place D G g) → (c : ℕ) × OnArc N σ (place N G σ g) c × (on_secondary N σ c ≡ true)
    unfolding place
    secondary_arc_lem r = (r.end, record { is_node = node_of r.end_node; from = sym (up_is N σ r.end) ∙ r.from }, sym (lateral_is N σ r.end) ∙ r.on)

    no_secondary : (¬ (E.Sends D (T.place D G g))) → (c : ℕ) → OnArc N σ (place N G σ g) c → on_secondary N σ c ≡ false
    unfolding place
    no_secondary n c a = by_bool (on_secondary N σ c)
        (λ q. absurd (n (record { end = c; end_node = of_node a.is_node; on = lateral_is N σ c ∙ q; from = up_is N σ c ∙ a.from }))) (λ q. q)

    event_of : EventOf N σ G (place N G σ) g (event N G σ g)
    unfolding place event
    event_of = E.by_event D G g
        (λ z. rw (E.event_leaf D G g z) (leaf_gene z))
        (λ d h. rw ((E.event_2_iff D G g).1 (d, h)) (duplication d h))
        (λ d n r. let a = secondary_arc_lem r in rw ((E.event_3_iff D G g).1 (d, n, r)) (transfer d n (two_arcs_lem d n) a.0 a.1 a.2))
        (λ d n r. rw ((E.event_1_iff D G g).1 (d, n, r)) (speciation d n (two_arcs_lem d n) (no_secondary r)))

  -- gene 1
  no_transfers : (g : ℕ) → G.parent g ≡ 0 → transfers N G σ g ≡ 0
  unfolding transfers
  no_transfers g e = C.root_transfers D G g e

  no_losses : (g : ℕ) → G.parent g ≡ 0 → losses N G σ g ≡ 0
  unfolding losses
  no_losses g e = C.root_losses D G g e

  -- the way of a gene
  module _ (g : ℕ) (d : G.parent g ≢ 0) where
    abbrev b : ℕ
    b = place N G σ (G.parent g)

    abbrev x : ℕ
    x = place N G σ g

    upper : Node N b
    unfolding place
    upper = node_of (C.child_parent_node D is_tree G t seats (G.parent g) g d refl)

    on_way_lem : (v : ℕ) → ((above N σ v x && not (above N σ v b)) ≡ true) ↔ OnWay N σ b x v
    unfolding place
    on_way_lem v = way_is N ok σ b x v (λ e. omega (arith, upper.low)) (sym (reaches_is N σ b x) ∙ P.parent_above D is_tree G t seats g d)

    moved : Many N (λ c. OnWay N σ b x c × (on_secondary N σ c ≡ true)) (transfers N G σ g)
    unfolding place transfers T.transfers on_way count display switched base above
    moved = record {
      test = λ c. (above N σ c x && not (above N σ c b)) && on_secondary N σ c;
      told = λ c _. (
        (λ h. ((on_way_lem c).0 (and_l (above N σ c x && not (above N σ c b)) _ h), and_r (above N σ c x && not (above N σ c b)) _ h)),
        λ h. and_from _ _ ((on_way_lem c).1 h.0) h.1,
      );
      number = way_sum D is_tree G t seats (λ c. tally (D.lateral c)) g ∙ sum_same N.size _ _ (λ c _ _. rw (not_same d) (counted (on_secondary N σ c) (above N σ c x && not (above N σ c b))));
    }
      where
        counted : (f w : Bool) → cond w (tally f) 0 ≡ tally (w && f)
        counted f w = by_bool w (λ q. rw q) (λ q. rw q)

    lost : Lost N σ G (place N G σ) (event N G σ) g (losses N G σ g)
    unfolding place losses event display switched base two_arcs on_arcs above
    lost = record {
      between = count N.size (C.passed D is_tree G t seats (G.parent g) g d refl);
      counted = record {
        test = C.passed D is_tree G t seats (G.parent g) g d refl;
        told = λ v _. (told v, telling v);
        number = refl;
      };
      one_more = λ e n. words ∙ rw (sym (E.event_test D G (G.parent g)) ∙ is_same e, not_same n);
      no_more = λ c. words ∙ none c;
    }
      where
        words : losses N G σ g ≡ count N.size (C.passed D is_tree G t seats (G.parent g) g d refl) + tally (T.is_duplication D G (G.parent g) && not (same x b))
        words = C.child_words D is_tree G t seats (G.parent g) g d refl

        told : (v : ℕ) → C.passed D is_tree G t seats (G.parent g) g d refl v ≡ true → OnWay N σ b x v × (v ≢ x) × (on_arcs N σ v ≡ 2)
        told v h =
            let l = and_l (same (on_arcs N σ v) 2 && not (same v x)) _ h in
            ((on_way_lem v).0 (and_r (same (on_arcs N σ v) 2 && not (same v x)) _ h), (λ e. clash (and_r (same (on_arcs N σ v) 2) _ l) (rw (is_same e))), same_is _ _ (and_l (same (on_arcs N σ v) 2) _ l))

        telling : (v : ℕ) → OnWay N σ b x v × (v ≢ x) × (on_arcs N σ v ≡ 2) → C.passed D is_tree G t seats (G.parent g) g d refl v ≡ true
        telling v h = and_from _ _ (and_from _ _ (is_same h.2) (not_from_false _ (not_same h.1))) ((on_way_lem v).1 h.0)

        none : (event N G σ (G.parent g) ≢ 2) ⊎ (x ≡ b) → count N.size (C.passed D is_tree G t seats (G.parent g) g d refl) + tally (T.is_duplication D G (G.parent g) && not (same x b)) ≡ count N.size (C.passed D is_tree G t seats (G.parent g) g d refl)
        none (inl n) = rw (sym (E.event_test D G (G.parent g)) ∙ not_same n) (omega arith)
        none (inr e) = rw (is_same e, and-false (T.is_duplication D G (G.parent g))) (omega arith)

  pub mapped : Mapped N σ G (place N G σ) (event N G σ) (transfers N G σ) (losses N G σ)
  mapped = record {
    leaf_place = leaf_place;
    inner_place = inner_place;
    events = λ g _ _. event_of g;
    no_transfers = no_transfers;
    no_losses = no_losses;
    moved = moved;
    lost = lost;
  }

-- the totals and the cost are sums over the genes
pub added : (N : Network) (G : GeneTree) (C : Costs) (σ : Switching)
    → Added G C (event N G σ) (transfers N G σ) (losses N G σ) (duplication_count N G σ) (transfer_count N G σ) (loss_count N G σ) (lca_cost N G C σ)
unfolding event transfers losses duplication_count transfer_count loss_count lca_cost T.duplication_count T.transfer_count T.loss_count T.lca_cost
added N G C σ = record { duplications = refl; transferred = refl; given_up = refl; total = refl }
