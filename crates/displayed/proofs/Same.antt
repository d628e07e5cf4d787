-- Displayed trees with the same on arcs and the same marks at their nodes have the same mapping: nothing is read outside the nodes, and the rank bounds the
-- climbs only.
-- Assumes nothing.
use Rattle.std.proofs.Common.{◌≡◌, sym, ◌∙◌, ap, ◌≢◌, Bool, true, ℕ, ◌-◌, ◌≤◌, ◌<◌, arith}
use Rattle.finite.specs.Tests.{same}
use Rattle.finite.specs.Range.{any}
use Rattle.finite.proofs.Cases.{by_bool, by_eq, clash, measure}
use Rattle.finite.proofs.Tests.{is_same, not_same}
use Rattle.finite.proofs.Every.{some_same}
use Rattle.finite.proofs.Sum.{sum_same}
use Rattle.finite.proofs.Count.{count_same}
use Rattle.topology.proofs.Climbing.{climb_ind, over_self, over_not, over_zero, meet_zero, meet_stop, meet_go, along_stop, along_go, along_over}
use Rattle.reconciliation.specs.GeneTrees.{GeneTree, Rooted}
use Rattle.reconciliation.specs.Costs.{Costs}
use Rattle.reconciliation.proofs.Genes.{child_gene, parent_gene}
use Rattle.displayed.specs.Displayed.{Displayed, NodeOf, Tree, reaches, common, way}
use Rattle.displayed.specs.Mapping.{SeatedIn, place, sends, sits, duplicates_at, is_duplication, event, on_the_way, transfers, lost, losses, duplication_count, transfer_count, loss_count, lca_cost}
use Rattle.displayed.proofs.Trees.{node_up}
use Rattle.displayed.proofs.Places.{place_leaf, place_inner, place_node, parent_above}

-- the same at the nodes
pub record SameTree (T U : Displayed) : Type 0 where
  pub size : T.size ≡ U.size
  pub up : (v : ℕ) → NodeOf U v → T.up v ≡ U.up v
  pub lateral : (v : ℕ) → NodeOf U v → T.lateral v ≡ U.lateral v
  pub forks : (v : ℕ) → NodeOf U v → T.forks v ≡ U.forks v

some_like : (m n : ℕ) (f g : ℕ → Bool) → m ≡ n → ((c : ℕ) → 1 ≤ c → c ≤ n → f c ≡ g c) → any m f ≡ any n g
some_like m n f g e h = rw e (some_same n f g h)

module _ (T U : Displayed) (ok_t : Tree T) (ok_u : Tree U) (E : SameTree T U) where
  node_like : (v : ℕ) → NodeOf T v → NodeOf U v
  node_like v k = record { low = k.low; high = omega (arith, k.high, E.size) }

  like_node : (v : ℕ) → NodeOf U v → NodeOf T v
  like_node v k = record { low = k.low; high = omega (arith, k.high, E.size) }

  same_reaches : (c x : ℕ) → c ≢ 0 → NodeOf U x → reaches T c x ≡ reaches U c x
  same_reaches c x z = climb_ind U.rank U.up ok_u.falls (λ x. NodeOf U x → reaches T c x ≡ reaches U c x) (λ k. absurd (omega arith))
      (λ x d ih k. by_eq c x
      (λ e. rw e (over_self T.rank T.up ok_t.falls x ∙ sym (over_self U.rank U.up ok_u.falls x)))
      (λ n. over_not T.rank T.up ok_t.falls c x n ∙ ap (reaches T c) (E.up x k) ∙ by_eq (U.up x) 0
      (λ e. rw e (over_zero T.rank T.up ok_t.falls c z ∙ sym (over_zero U.rank U.up ok_u.falls c z)))
      (λ e. ih (U.up x) (ok_u.falls.fall x d) (node_up U ok_u x k e))
      ∙ sym (over_not U.rank U.up ok_u.falls c x n))) x

  same_common : (x y : ℕ) → NodeOf U x → NodeOf U y → common T x y ≡ common U x y
  same_common x y kx ky = climb_ind U.rank U.up ok_u.falls (λ x. NodeOf U x → common T x y ≡ common U x y) (λ k. absurd (omega arith))
      (λ x d ih k. let q : reaches T x y ≡ reaches U x y = same_reaches x y d ky in
      by_bool (reaches U x y)
      (λ t. meet_stop T.rank T.up ok_t.falls x y (q ∙ t) ∙ sym (meet_stop U.rank U.up ok_u.falls x y t))
      (λ t. meet_go T.rank T.up ok_t.falls x y (q ∙ t) ∙ ap (λ (a : ℕ). common T a y) (E.up x k) ∙ by_eq (U.up x) 0
      (λ e. rw e (meet_zero T.rank T.up ok_t.falls y ∙ sym (meet_zero U.rank U.up ok_u.falls y)))
      (λ e. ih (U.up x) (ok_u.falls.fall x d) (node_up U ok_u x k e))
      ∙ sym (meet_go U.rank U.up ok_u.falls x y t))) x kx

  -- sums of f and g that are the same on arcs between nodes
  same_way : (f g : ℕ → ℕ) (b : ℕ) → NodeOf U b → ((c : ℕ) → NodeOf U c → NodeOf U (U.up c) → f c ≡ g c) → (a : ℕ) → NodeOf U a → reaches U b a ≡ true → way T f b a ≡ way U g b a
  same_way f g b kb h = climb_ind U.rank U.up ok_u.falls (λ a. NodeOf U a → reaches U b a ≡ true → way T f b a ≡ way U g b a) (λ k. absurd (omega arith)) turn
    where
      z : b ≢ 0
      z e = omega (arith, kb.low)

      turn : (a : ℕ) → a ≢ 0 → ((y : ℕ) → U.rank y < U.rank a → NodeOf U y → reaches U b y ≡ true → way T f b y ≡ way U g b y) → NodeOf U a → reaches U b a ≡ true → way T f b a ≡ way U g b a
      turn a d ih k r = by_eq a b
          (λ e. along_stop T.rank T.up ok_t.falls f b a e ∙ sym (along_stop U.rank U.up ok_u.falls g b a e))
          (λ n. let u : reaches U b (U.up a) ≡ true = along_over U.rank U.up ok_u.falls g b a r n in
          let ku : NodeOf U (U.up a) = node_up U ok_u a k (λ e. clash u (rw e (over_zero U.rank U.up ok_u.falls b z))) in
          omega (
            arith,
            along_go T.rank T.up ok_t.falls f b a (same_reaches b a z k ∙ r) n,
            ap (way T f b) (E.up a k),
            h a k ku,
            ih (U.up a) (ok_u.falls.fall a d) ku u,
            along_go U.rank U.up ok_u.falls g b a r n,
          ))

  same_sends : (v : ℕ) → sends T v ≡ sends U v
  unfolding sends
  same_sends v = some_like T.size U.size _ _ E.size (λ c l u. rw (E.lateral c (record { low = l; high = u }), E.up c (record { low = l; high = u })))

  module _ (G : GeneTree) (s : SeatedIn U G) where
    pub same_seated : SeatedIn T G
    same_seated = record {
      seat = λ g l u e. like_node (G.leaf g) (s.seat g l u e);
      ends = λ g c l u e k q. s.ends g c l u e (node_like c k) (sym (E.up c (node_like c k)) ∙ q);
      two = λ c d kc kd n q.
          let jc = node_like c kc in
          let jd = node_like d kd in
          forked c d jc jd n (sym (E.up c jc) ∙ q ∙ E.up d jd);
    }
      where
        forked : (c d : ℕ) → NodeOf U c → NodeOf U d → c ≢ d → U.up c ≡ U.up d → T.forks (T.up c) ≡ true
        forked c d jc jd n q = ap T.forks (E.up c jc)
            ∙ E.forks (U.up c) (node_up U ok_u c jc (λ e. n (ok_u.root_one c jc e ∙ sym (ok_u.root_one d jd (sym q ∙ e))))) ∙ s.two c d jc jd n q

    module _ (t : Rooted G) where
      pub same_place : (g : ℕ) → place T G g ≡ place U G g
      same_place = measure (λ g. G.count - g) (λ g. place T G g ≡ place U G g) (λ g ih. by_eq (G.left g) 0
          (λ e. place_leaf T G t g e ∙ sym (place_leaf U G t g e))
          (λ d. let a : g < G.left g = t.left_more g d in
          let b : g < G.right g = t.right_more g d in
          let u : G.left g ≤ G.count = t.left_in g d in
          let v : G.right g ≤ G.count = t.right_in g d in
          let el : place T G (G.left g) ≡ place U G (G.left g) = ih (G.left g) (omega arith) in
          let er : place T G (G.right g) ≡ place U G (G.right g) = ih (G.right g) (omega arith) in
          place_inner T G t g d ∙ rw (el, er) (same_common _ _ (place_node U ok_u G t s (G.left g) (omega arith) u) (place_node U ok_u G t s (G.right g) (omega arith) v))
          ∙ sym (place_inner U G t g d)))

      same_duplicates : (v g : ℕ) → duplicates_at T G v g ≡ duplicates_at U G v g
      unfolding duplicates_at sits
      same_duplicates v g = rw (same_place (G.left g), same_place (G.right g))

      pub same_event : (g : ℕ) → event T G g ≡ event U G g
      unfolding event is_duplication
      same_event g = rw (same_place g, same_duplicates (place U G g) g, same_sends (place U G g))

      -- on the way of gene g
      same_on : (f h : ℕ → ℕ) (g : ℕ) → ((c : ℕ) → NodeOf U c → NodeOf U (U.up c) → f c ≡ h c) → on_the_way T G f g ≡ on_the_way U G h g
      unfolding on_the_way
      same_on f h g q = by_eq (G.parent g) 0 (λ e. rw (is_same e)) (λ d. rw (not_same d, same_place g, same_place (G.parent g))
          (same_way f h (place U G (G.parent g)) (place_node U ok_u G t s (G.parent g) (parent_gene G t g d).0 (parent_gene G t g d).1) q
          (place U G g) (place_node U ok_u G t s g (child_gene G t g d).0 (child_gene G t g d).1) (parent_above U ok_u G t s g d)))

      pub same_transfers : (g : ℕ) → transfers T G g ≡ transfers U G g
      unfolding transfers
      same_transfers g = same_on _ _ g (λ c k _. rw (E.lateral c k))

      same_lost : (g c : ℕ) → NodeOf U c → NodeOf U (U.up c) → lost T G g c ≡ lost U G g c
      unfolding lost sits
      same_lost g c k j = rw (E.up c k, same_place (G.parent g), same_duplicates (U.up c) (G.parent g), E.forks (U.up c) j)

      pub same_losses : (g : ℕ) → losses T G g ≡ losses U G g
      unfolding losses
      same_losses g = same_on _ _ g (λ c k j. rw (same_lost g c k j))

      pub same_duplication_count : duplication_count T G ≡ duplication_count U G
      unfolding duplication_count
      same_duplication_count = count_same G.count (λ g. same (event T G g) 2) (λ g. same (event U G g) 2) (λ g _ _. rw (same_event g))

      pub same_transfer_count : transfer_count T G ≡ transfer_count U G
      unfolding transfer_count
      same_transfer_count = sum_same G.count (transfers T G) (transfers U G) (λ g _ _. same_transfers g)

      pub same_loss_count : loss_count T G ≡ loss_count U G
      unfolding loss_count
      same_loss_count = sum_same G.count (losses T G) (losses U G) (λ g _ _. same_losses g)

      pub same_cost_lem : (C : Costs) → lca_cost T G C ≡ lca_cost U G C
      unfolding lca_cost
      same_cost_lem C = rw (same_duplication_count, same_transfer_count, same_loss_count)
