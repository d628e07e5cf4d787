-- The last-common-ancestor cost is a sum over the nodes of their charges: a duplication is counted at the one node where the gene sits, and each arc of
-- a way at the one node that it leaves; then the sums over genes, arcs and nodes are exchanged.
-- Assumes nothing.
use Rattle.std.proofs.Common.{◌≡◌, refl, sym, ◌∙◌, ◌≢◌, Bool, true, false, cond, ◌&&◌, not, ℕ, ◌+◌, ◌*◌, ◌≤◌, arith}
use Rattle.finite.specs.Tests.{same, tally}
use Rattle.finite.specs.Range.{sum, count}
use Rattle.finite.proofs.Cases.{by_bool, by_eq, clash}
use Rattle.std.proofs.lemmas.Bool.{not-true}
use Rattle.finite.proofs.Tests.{is_same, not_same, and_r, cond_same}
use Rattle.finite.proofs.Sum.{sum_same, sum_zero, sum_add, sum_mul, sum_swap, sum_point}
use Rattle.reconciliation.specs.GeneTrees.{GeneTree, Rooted}
use Rattle.reconciliation.specs.Costs.{Costs}
use Rattle.reconciliation.proofs.Genes.{parent_gene}
use Rattle.displayed.specs.Displayed.{Displayed, NodeOf, Tree, reaches}
use Rattle.displayed.specs.Mapping.{SeatedIn, place, sits, duplicates_at, is_duplication, event, transfers, lost, losses, duplication_count, transfer_count, loss_count, lca_cost}
use Rattle.displayed.specs.inner.Charges.{on_way, toll, charge}
use Rattle.displayed.proofs.Trees.{node_up, root_reaches}
use Rattle.displayed.proofs.Places.{place_node}
use Rattle.displayed.proofs.Ways.{way_sum}
use Rattle.displayed.proofs.Events.{event_test}

-- a sum with one index that counts
sum_single : (n a : ℕ) (f : ℕ → ℕ) → 1 ≤ a → a ≤ n → ((v : ℕ) → v ≢ a → f v ≡ 0) → sum n f ≡ f a
sum_single n a f l u h = sum_point n (λ _. 0) f a (f a) l u h (omega arith) ∙ omega (arith, sum_zero n (λ _. 0) (λ v _ _. refl))

module _ (T : Displayed) (ok : Tree T) (G : GeneTree) (t : Rooted G) (s : SeatedIn T G) (g : ℕ) where
  -- an arc of a way leaves a node: it does not enter the root, which is above every place
  pub way_node : (c : ℕ) → NodeOf T c → on_way T G g c ≡ true → NodeOf T (T.up c)
  unfolding on_way
  way_node c k w = node_up T ok c k (λ e. by_eq (G.parent g) 0 (λ q. clash w (rw (is_same q)))
      (λ d. clash (rw (ok.root_one c k e) (root_reaches T ok (place T G (G.parent g)) (place_node T ok G t s (G.parent g) (parent_gene G t g d).0 (parent_gene G t g d).1)))
      (off (reaches T c (place T G g)) (reaches T c (place T G (G.parent g))) (rw (not_same d) at w))))
    where
      off : (a b : Bool) → (a && not b) ≡ true → b ≡ false
      off a b e = not-true b (and_r a (not b) e)

module _ (T : Displayed) (ok : Tree T) (G : GeneTree) (t : Rooted G) (s : SeatedIn T G) (C : Costs) (g : ℕ) where
  -- a duplication is charged where the gene sits
  duplication_nodes : 1 ≤ g → g ≤ G.count → sum T.size (λ v. tally (sits T G v g && duplicates_at T G v g)) ≡ tally (is_duplication T G g)
  unfolding sits is_duplication
  duplication_nodes l u =
      let k = place_node T ok G t s g l u in
      sum_single T.size (place T G g) _ k.low k.high (λ v d. rw (not_same (λ e. d (sym e)))) ∙ rw (is_same {m = place T G g} refl)

  -- each toll is charged at one node
  toll_node : (c : ℕ) → 1 ≤ c → c ≤ T.size → sum T.size (λ v. cond (same (T.up c) v) (toll T G C g c) 0) ≡ toll T G C g c
  unfolding toll
  toll_node c l u = by_bool (on_way T G g c)
      (λ w. let k = way_node T ok G t s g c (record { low = l; high = u }) w in
      sum_single T.size (T.up c) _ k.low k.high (λ v d. rw (not_same (λ e. d (sym e)))) ∙ rw (is_same {m = T.up c} refl))
      (λ w. rw w (sum_zero T.size _ (λ v _ _. cond_same (same (T.up c) v) 0)))

  tolls : sum T.size (toll T G C g) ≡ C.transfer * transfers T G g + C.loss * losses T G g
  unfolding toll transfers losses
  tolls = sum_same T.size _ _ (λ c _ _. apart (on_way T G g c) (tally (T.lateral c)) (tally (lost T G g c)))
      ∙ sum_add T.size (λ c. C.transfer * cond (on_way T G g c) (tally (T.lateral c)) 0) (λ c. C.loss * cond (on_way T G g c) (tally (lost T G g c)) 0)
      ∙ rw (
        sum_mul T.size C.transfer (λ c. cond (on_way T G g c) (tally (T.lateral c)) 0),
        sum_mul T.size C.loss (λ c. cond (on_way T G g c) (tally (lost T G g c)) 0),
        ← way_sum T ok G t s (λ c. tally (T.lateral c)) g,
        ← way_sum T ok G t s (λ c. tally (lost T G g c)) g,
      )
    where
      apart : (w : Bool) (x y : ℕ) → cond w (C.transfer * x + C.loss * y) 0 ≡ C.transfer * cond w x 0 + C.loss * cond w y 0
      apart true x y = refl
      apart false x y = omega arith

  -- what one gene costs, by nodes
  gene_nodes : 1 ≤ g → g ≤ G.count → C.duplication * tally (same (event T G g) 2) + (C.transfer * transfers T G g + C.loss * losses T G g)
      ≡ sum T.size (λ v. C.duplication * tally (sits T G v g && duplicates_at T G v g) + sum T.size (λ c. cond (same (T.up c) v) (toll T G C g c) 0))
  gene_nodes l u = rw (event_test T G g, ← duplication_nodes l u, ← tolls, ← sum_mul T.size C.duplication (λ v. tally (sits T G v g && duplicates_at T G v g)))
      (rw (
        sum_same T.size (toll T G C g) (λ c. sum T.size (λ v. cond (same (T.up c) v) (toll T G C g c) 0)) (λ c l u. sym (toll_node c l u)),
        sum_swap T.size T.size (λ c v. cond (same (T.up c) v) (toll T G C g c) 0),
      )
      (sym (sum_add T.size (λ v. C.duplication * tally (sits T G v g && duplicates_at T G v g)) (λ v. sum T.size (λ c. cond (same (T.up c) v) (toll T G C g c) 0)))))

-- the cost as 01 words it is the sum of the charges
pub cost_nodes : (T : Displayed) → Tree T → (G : GeneTree) → Rooted G → SeatedIn T G → (C : Costs) → lca_cost T G C ≡ sum T.size (charge T G C)
unfolding lca_cost duplication_count transfer_count loss_count charge count
cost_nodes T ok G t s C =
    sym (linear (λ g. tally (same (event T G g) 2)) (transfers T G) (losses T G))
    ∙ sum_same G.count _ _ (λ g l u. gene_nodes T ok G t s C g l u)
    ∙ sum_swap G.count T.size (λ g v. C.duplication * tally (sits T G v g && duplicates_at T G v g) + sum T.size (λ c. cond (same (T.up c) v) (toll T G C g c) 0))
  where
    linear : (a b c : ℕ → ℕ) → sum G.count (λ g. C.duplication * a g + (C.transfer * b g + C.loss * c g)) ≡ C.duplication * sum G.count a + C.transfer * sum G.count b + C.loss * sum G.count c
    linear a b c = sum_add G.count (λ g. C.duplication * a g) (λ g. C.transfer * b g + C.loss * c g)
        ∙ rw (sum_add G.count (λ g. C.transfer * b g) (λ g. C.loss * c g), sum_mul G.count C.duplication a, sum_mul G.count C.transfer b, sum_mul G.count C.loss c) (omega arith)
