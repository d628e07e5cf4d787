-- Two displayed trees that are alike at a node charge it the same. What is below the node is the same in both, and so it is for each arc out of it; a
-- gene sits at v exactly when v is above its place and no child of v is.
-- Assumes nothing.
use Rattle.std.proofs.Common.{◌≡◌, sym, ◌∙◌, ap, ◌≢◌, true, cond, ℕ, zero, suc, ◌≤◌, arith}
use Rattle.finite.specs.Tests.{same}
use Rattle.finite.specs.Range.{sum}
use Rattle.finite.proofs.Cases.{by_eq, clash}
use Rattle.finite.proofs.Tests.{is_same, same_is, not_same, test_iff}
use Rattle.finite.proofs.Sum.{sum_same}
use Rattle.topology.proofs.Climbing.{over_self, over_up, over_trans, over_child, meet_spec}
use Rattle.reconciliation.specs.GeneTrees.{GeneTree}
use Rattle.reconciliation.specs.Costs.{Costs}
use Rattle.displayed.specs.Displayed.{Displayed, Tree, reaches}
use Rattle.displayed.specs.Mapping.{place_in, place, sits, duplicates_at, lost}
use Rattle.displayed.specs.inner.Charges.{on_way, toll, charge, Alike}
use Rattle.displayed.proofs.Trees.{not_below}

-- sums over as many numbers
pub sum_like : (m n : ℕ) (f g : ℕ → ℕ) → m ≡ n → ((c : ℕ) → 1 ≤ c → c ≤ n → f c ≡ g c) → sum m f ≡ sum n g
sum_like m n f g e h = rw e (sum_same n f g h)

-- an arc out of v in one is an arc out of v in the other
arc_too : (T U : Displayed) (v : ℕ) → Alike T U v → (c : ℕ) → U.up c ≡ v → T.up c ≡ v
arc_too T U v a c e = same_is (T.up c) v (a.arcs c ∙ is_same e)

alike_sym : (T U : Displayed) (v : ℕ) → Alike T U v → Alike U T v
alike_sym T U v a = record {
  size = sym a.size;
  arcs = λ c. sym (a.arcs c);
  beyond = λ c d e x. sym (a.beyond c d (too c e) x);
  lateral = λ c d e. sym (a.lateral c d (too c e));
  forks = sym a.forks;
}
  where
    too : (c : ℕ) → T.up c ≡ v → U.up c ≡ v
    too c e = same_is (U.up c) v (sym (a.arcs c) ∙ is_same e)

module _ (T U : Displayed) (ok_t : Tree T) (ok_u : Tree U) (G : GeneTree) where
  -- c reaches the same nodes in both
  abbrev Sees : ℕ → Type 0
  Sees c = (x : ℕ) → reaches T c x ≡ reaches U c x

  -- then it is above the same genes: the law of the common node says that it is when it is above all their leaves
  place_sees : (k g c : ℕ) → c ≢ 0 → Sees c → reaches T c (place_in k T G g) ≡ reaches U c (place_in k U G g)
  unfolding place_in
  place_sees zero g c z e = e (G.leaf g)
  place_sees (suc k) g c z e = by_eq (G.left g) 0 (λ q. rw (is_same q) (e (G.leaf g)))
      (λ d. rw (
        not_same d,
        ← meet_spec T.rank T.up ok_t.falls c (place_in k T G (G.left g)) (place_in k T G (G.right g)) z,
        ← meet_spec U.rank U.up ok_u.falls c (place_in k U G (G.left g)) (place_in k U G (G.right g)) z,
        place_sees k (G.left g) c z e,
        place_sees k (G.right g) c z e,
      ))

  module _ (v : ℕ) (a : Alike T U v) where
    below_to : (x : ℕ) → reaches T v x ≡ true → reaches U v x ≡ true
    below_to x t = by_eq v x (λ e. rw e (over_self U.rank U.up ok_u.falls x))
        (λ d. let r = over_child T.rank T.up ok_t.falls v x t d in
        down r.0 r.1 (same_is _ _ (sym (a.arcs r.0) ∙ is_same r.2)) r.3)
      where
        down : (c : ℕ) → c ≢ 0 → U.up c ≡ v → reaches T c x ≡ true → reaches U v x ≡ true
        down c d e q = over_trans U.rank U.up ok_u.falls v c x
            (over_up U.rank U.up ok_u.falls v c (rw e (over_self U.rank U.up ok_u.falls v))) (sym (a.beyond c d e x) ∙ q)

-- the same, both ways
module _ (T U : Displayed) (ok_t : Tree T) (ok_u : Tree U) (G : GeneTree) (v : ℕ) (z : v ≢ 0) (a : Alike T U v) where
  below : (x : ℕ) → reaches T v x ≡ reaches U v x
  below x = test_iff _ _ (below_to T U ok_t ok_u G v a x) (below_to U T ok_u ok_t G v (alike_sym T U v a) x)

  place_local : (g : ℕ) → place T G g ≡ v → place U G g ≡ v
  unfolding place
  place_local g e = by_eq v (place U G g) sym (λ d.
      let r = over_child U.rank U.up ok_u.falls v (place U G g)
      (sym (place_sees T U ok_t ok_u G G.count g v z below) ∙ ap (reaches T v) e ∙ over_self T.rank T.up ok_t.falls v) d in
      absurd (far r.0 r.1 r.2 r.3))
    where
      far : (c : ℕ) → c ≢ 0 → U.up c ≡ v → reaches U c (place U G g) ≡ true → ⊥
      far c d u b = clash (ap (reaches T c) (arc_too T U v a c u ∙ sym e) ∙ place_sees T U ok_t ok_u G G.count g c d (a.beyond c d u) ∙ b) (not_below T ok_t c d)

module _ (T U : Displayed) (ok_t : Tree T) (ok_u : Tree U) (G : GeneTree) (v : ℕ) (z : v ≢ 0) (a : Alike T U v) where
  sits_local : (g : ℕ) → sits T G v g ≡ sits U G v g
  unfolding sits
  sits_local g = test_iff _ _ (λ t. is_same (place_local T U ok_t ok_u G v z a g (same_is _ _ t)))
      (λ t. is_same (place_local U T ok_u ok_t G v z (alike_sym T U v a) g (same_is _ _ t)))

  -- an arc out of v is above the same genes
  arc_sees : (c g : ℕ) → c ≢ 0 → U.up c ≡ v → reaches T c (place T G g) ≡ reaches U c (place U G g)
  unfolding place
  arc_sees c g d e = place_sees T U ok_t ok_u G G.count g c d (a.beyond c d e)

  duplicates_local : (g : ℕ) → duplicates_at T G v g ≡ duplicates_at U G v g
  unfolding duplicates_at
  duplicates_local g = rw (sits_local (G.left g), sits_local (G.right g))

  toll_local : (C : Costs) (g c : ℕ) → c ≢ 0 → U.up c ≡ v → toll T G C g c ≡ toll U G C g c
  unfolding toll on_way lost
  toll_local C g c d e = rw (
    arc_sees c g d e,
    arc_sees c (G.parent g) d e,
    arc_too T U v a c e,
    e,
    a.lateral c d e,
    sits_local (G.parent g),
    duplicates_local (G.parent g),
    a.forks,
  )

  tolls_local : (C : Costs) (g : ℕ) → sum T.size (λ c. cond (same (T.up c) v) (toll T G C g c) 0) ≡ sum U.size (λ c. cond (same (U.up c) v) (toll U G C g c) 0)
  tolls_local C g = sum_like T.size U.size _ _ a.size (λ c l u. by_eq (U.up c) v
      (λ e. rw (a.arcs c, toll_local C g c (omega arith) e))
      (λ d. rw (a.arcs c, not_same d)))

  pub charge_local : (C : Costs) → charge T G C v ≡ charge U G C v
  unfolding charge
  charge_local C = sum_same G.count _ _ (λ g _ _. rw (sits_local g, duplicates_local g, tolls_local C g))
