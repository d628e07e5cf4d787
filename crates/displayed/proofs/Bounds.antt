-- Bounds for every displayed tree: a gene has no more transfers and losses than there are nodes. Where a fork has two on arcs, fewer than half of the nodes
-- fork, which bounds the losses of each gene by half the nodes; and fewer than half of the genes duplicate.
-- Assumes nothing.
use Rattle.std.proofs.Common.{◌≡◌, refl, ◌∙◌, ◌≢◌, Bool, true, false, cond, ◌&&◌, not, ℕ, ◌+◌, ◌*◌, ◌≤◌, ◌<◌, mul-zero, mul-le-mul, arith}
use Rattle.finite.specs.Tests.{same, tally}
use Rattle.finite.specs.Range.{count, children}
use Rattle.finite.proofs.Cases.{by_bool, by_eq}
use Rattle.finite.proofs.Tests.{is_same, same_is, not_same, and_l, tally_le, cond_same}
use Rattle.finite.proofs.Sum.{sum_le, sum_mul, sum_zero, sum_bound}
use Rattle.finite.proofs.Count.{count_same, count_imp, branchings}
use Rattle.topology.specs.Networks.{Network}
use Rattle.topology.specs.Switchings.{Switching, all_principal, on_secondary}
use Rattle.reconciliation.specs.GeneTrees.{GeneTree, Rooted}
use Rattle.reconciliation.specs.Costs.{Costs}
use Rattle.reconciliation.proofs.Genes.{inner, child, few_inner, few_children}
use Rattle.displayed.specs.Displayed.{Displayed, NodeOf, Tree}
use Rattle.displayed.specs.Mapping.{SeatedIn, place, is_duplication, event, on_the_way, transfers, lost, losses, duplication_count, transfer_count, loss_count, lca_cost}
use Rattle.displayed.specs.inner.Charges.{on_way}
use Rattle.displayed.specs.Displays.{switched, display, displayed, two_arcs, base}
use Rattle.displayed.proofs.Ways.{way_sum}
use Rattle.displayed.proofs.Events.{event_test, duplication_is}
use Rattle.displayed.proofs.Children.{root_losses, passed, child_words}

-- fewer than half of the genes duplicate
pub duplications_half : (T : Displayed) (G : GeneTree) → Rooted G → 2 * duplication_count T G < G.count
unfolding duplication_count
duplications_half T G t = omega (
  arith,
  few_inner G t,
  count_same G.count (λ g. same (event T G g) 2) (is_duplication T G) (λ g _ _. event_test T G g),
  count_imp G.count (is_duplication T G) (inner G) (λ g h. rw (not_same (duplication_is T G g h).0)),
)

-- two on arcs leave a fork
abbrev pub Forked : Displayed → Type 0
Forked T = (v : ℕ) → NodeOf T v → 2 * tally (T.forks v) ≤ children T.size T.up v

module _ (T : Displayed) (ok : Tree T) (G : GeneTree) (t : Rooted G) (s : SeatedIn T G) where
  -- each arc of a way adds at most one
  marks_le : (f : ℕ → Bool) (g : ℕ) → on_the_way T G (λ c. tally (f c)) g ≤ T.size
  marks_le f g = omega (
    arith,
    way_sum T ok G t s (λ c. tally (f c)) g,
    sum_bound T.size 1 (λ c. cond (on_way T G g c) (tally (f c)) 0) (λ c _ _. one (on_way T G g c) (f c)),
  )
    where
      one : (a b : Bool) → cond a (tally b) 0 ≤ 1
      one a b = by_bool a (λ e. rw e (tally_le b)) (λ e. rw e (omega arith))

  pub transfers_le : (g : ℕ) → transfers T G g ≤ T.size
  unfolding transfers
  transfers_le g = marks_le T.lateral g

  pub losses_le : (g : ℕ) → losses T G g ≤ T.size
  unfolding losses
  losses_le g = marks_le (lost T G g) g

  pub transfer_count_le : transfer_count T G ≤ G.count * T.size
  unfolding transfer_count
  transfer_count_le = sum_bound G.count T.size (transfers T G) (λ g _ _. transfers_le g)

  pub loss_count_le : loss_count T G ≤ G.count * T.size
  unfolding loss_count
  loss_count_le = sum_bound G.count T.size (losses T G) (λ g _ _. losses_le g)

  -- the losses of a way are forks strictly between, and at most one more
  module _ (two : Forked T) where
    few_forks : 2 * count T.size T.forks < T.size
    unfolding count
    few_forks = branchings T.size ok.root T.up _ ok.root_in.low ok.root_in.high ok.root_up (λ v l u. two v (record { low = l; high = u }))

    pub losses_half : (g : ℕ) → 2 * losses T G g ≤ (T.size + 1) * tally (child G g)
    losses_half g = by_eq (G.parent g) 0 (λ e. rw (is_same e, root_losses T G g e) (omega arith)) (λ d. rw (not_same d) (half d))
      where
        half : G.parent g ≢ 0 → 2 * losses T G g ≤ (T.size + 1) * 1
        half d = omega (
          arith,
          few_forks,
          child_words T ok G t s (G.parent g) g d refl,
          count_imp T.size (passed T ok G t s (G.parent g) g d refl) T.forks (λ v h. and_l (T.forks v) _ (and_l (T.forks v && not (same v (place T G g))) _ h)),
          tally_le (is_duplication T G (G.parent g) && not (same (place T G g) (place T G (G.parent g)))),
        )

-- within the limits of a sheet
module _ (T : Displayed) (ok : Tree T) (G : GeneTree) (t : Rooted G) (s : SeatedIn T G) (nodes : T.size ≤ 127) (genes : G.count ≤ 127) where
  pub duplications_few : duplication_count T G ≤ 63
  duplications_few = omega (arith, genes, duplications_half T G t)

  pub transfers_few : transfer_count T G ≤ 127 * 127
  transfers_few = omega (arith, transfer_count_le T ok G t s, mul-le-mul genes nodes)

  pub losses_under : loss_count T G ≤ 127 * 127
  losses_under = omega (arith, loss_count_le T ok G t s, mul-le-mul genes nodes)

  -- where two on arcs leave a fork, 64 losses at no more than 126 genes
  pub losses_few : Forked T → loss_count T G ≤ 126 * 64
  unfolding loss_count count
  losses_few two = omega (
    arith,
    genes,
    few_children G t,
    sum_le G.count (losses T G) (λ g. 64 * tally (child G g)) (λ g _ _. sixty_four g (child G g) (losses_half T ok G t s two g)),
    sum_mul G.count 64 (λ g. tally (child G g)),
  )
    where
      sixty_four : (g : ℕ) (b : Bool) → 2 * losses T G g ≤ (T.size + 1) * tally b → losses T G g ≤ 64 * tally b
      sixty_four g true l = omega (arith, nodes)
      sixty_four g false l = omega (arith, mul-zero (T.size + 1))

  module _ (C : Costs) (dd : C.duplication ≤ 99) (dt : C.transfer ≤ 99) (dl : C.loss ≤ 99) where
    -- where no on arc is a transfer the cost is below a million
    pub plain_cost : Forked T → ((c : ℕ) → T.lateral c ≡ false) → lca_cost T G C ≤ 99 * 63 + 99 * (126 * 64)
    unfolding lca_cost transfer_count transfers
    plain_cost two h = rw (sum_zero G.count (transfers T G) (λ g _ _. still g))
        (omega (arith, mul-le-mul dd duplications_few, mul-le-mul dl (losses_few two), mul-zero C.transfer))
      where
        still : (g : ℕ) → transfers T G g ≡ 0
        still g = way_sum T ok G t s (λ c. tally (T.lateral c)) g ∙ sum_zero T.size _ (λ c _ _. rw (h c) (cond_same (on_way T G g c) 0))

-- the trees of a network meet what the bounds ask
pub base_forked : (N : Network) (σ : Switching) → Forked (displayed N base σ)
unfolding display switched base two_arcs
base_forked N σ v k = by_bool (two_arcs (switched N σ) v) (λ e. rw e (omega (arith, same_is _ _ e))) (λ e. rw e (omega arith))

-- the all-principal tree has no transfers
pub principal_plain : (N : Network) (c : ℕ) → (displayed N base all_principal).lateral c ≡ false
unfolding display switched base on_secondary
principal_plain N c = refl
