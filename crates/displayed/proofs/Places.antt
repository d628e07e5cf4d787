-- Where a gene sits, by its children: the depth bound of `place_in` does not matter once it covers the genes below (`enough`). So an inner gene sits at
-- the lowest node from which both children's places are reached, and every gene sits at a node below its parent gene's place.
-- Assumes nothing.
use Rattle.std.proofs.Common.{◌≡◌, refl, sym, ◌∙◌, ap, ◌≢◌, ◌⊎◌, inl, inr, true, ℕ, zero, suc, ◌+◌, ◌-◌, ◌≤◌, ◌<◌, arith}
use Rattle.finite.proofs.Cases.{by_eq, measure}
use Rattle.std.proofs.lemmas.Bool.{and_from}
use Rattle.finite.proofs.Tests.{is_same, not_same}
use Rattle.topology.proofs.Climbing.{meet_spec, meet_over_left, meet_over_right}
use Rattle.reconciliation.specs.GeneTrees.{GeneTree, Rooted}
use Rattle.reconciliation.proofs.Genes.{no_gene}
use Rattle.displayed.specs.Displayed.{Displayed, NodeOf, Tree, reaches, common}
use Rattle.displayed.specs.Mapping.{SeatedIn, place_in, place}
use Rattle.displayed.proofs.Trees.{common_node}

module _ (T : Displayed) (G : GeneTree) (t : Rooted G) where
  leaf_in : (k g : ℕ) → G.left g ≡ 0 → place_in k T G g ≡ G.leaf g
  unfolding place_in
  leaf_in zero g e = refl
  leaf_in (suc k) g e = rw (is_same e)

  -- the depth bound does not matter once it covers the genes below
  enough : (j k g : ℕ) → G.count < g + j → G.count < g + k → place_in j T G g ≡ place_in k T G g
  unfolding place_in
  enough zero k g a b = sym (leaf_in k g (no_gene G t g (omega arith)))
  enough (suc j) zero g a b = leaf_in (suc j) g (no_gene G t g (omega arith))
  enough (suc j) (suc k) g a b = by_eq (G.left g) 0 (λ e. rw (is_same e))
      (λ d. let l : g < G.left g = t.left_more g d in
      let r : g < G.right g = t.right_more g d in
      rw (not_same d, enough j k (G.left g) (omega arith) (omega arith), enough j k (G.right g) (omega arith) (omega arith)))

  -- "a leaf gene sits at its species' leaf, an inner gene at the lowest node .."
  pub place_leaf : (g : ℕ) → G.left g ≡ 0 → place T G g ≡ G.leaf g
  unfolding place
  place_leaf g = leaf_in G.count g

  pub place_inner : (g : ℕ) → G.left g ≢ 0 → place T G g ≡ common T (place T G (G.left g)) (place T G (G.right g))
  unfolding place place_in
  place_inner g d =
      let o : 1 ≤ g = t.inner_low g d in
      let l : g < G.left g = t.left_more g d in
      let r : g < G.right g = t.right_more g d in
      enough G.count (suc G.count) g (omega arith) (omega arith) ∙ rw (not_same d)

module _ (T : Displayed) (ok : Tree T) (G : GeneTree) (t : Rooted G) (s : SeatedIn T G) where
  -- each gene sits at a node
  pub place_node : (g : ℕ) → 1 ≤ g → g ≤ G.count → NodeOf T (place T G g)
  place_node = measure (λ g. G.count - g) (λ g. 1 ≤ g → g ≤ G.count → NodeOf T (place T G g)) (λ g ih l u.
      by_eq (G.left g) 0 (λ e. rw (place_leaf T G t g e) (s.seat g l u e))
      (λ d. let a : g < G.left g = t.left_more g d in
      let b : g < G.right g = t.right_more g d in
      let c : G.left g ≤ G.count = t.left_in g d in
      let e : G.right g ≤ G.count = t.right_in g d in
      rw (place_inner T G t g d) (common_node T ok (place T G (G.left g)) (place T G (G.right g))
      (ih (G.left g) (omega arith) (omega arith) (omega arith)) (ih (G.right g) (omega arith) (omega arith) (omega arith)))))

  -- the declarative reading of an inner gene's place: it reaches both children's places, and every node that reaches both reaches it
  module _ (p : ℕ) (i : G.left p ≢ 0) where
    pub place_left : reaches T (place T G p) (place T G (G.left p)) ≡ true
    place_left = rw (place_inner T G t p i) (meet_over_left T.rank T.up ok.falls _ _)

    pub place_right : reaches T (place T G p) (place T G (G.right p)) ≡ true
    place_right = rw (place_inner T G t p i) (meet_over_right T.rank T.up ok.falls _ _)

    pub place_lowest : (v : ℕ) → NodeOf T v → reaches T v (place T G (G.left p)) ≡ true → reaches T v (place T G (G.right p)) ≡ true → reaches T v (place T G p) ≡ true
    place_lowest v k a b = rw (place_inner T G t p i) (sym (meet_spec T.rank T.up ok.falls v _ _ (omega (arith, k.low))) ∙ and_from _ _ a b)

  -- the place of the parent gene is above a gene's place
  pub parent_above : (g : ℕ) → G.parent g ≢ 0 → reaches T (place T G (G.parent g)) (place T G g) ≡ true
  parent_above g d = go (t.is_child g d)
    where
      go : (G.left (G.parent g) ≡ g) ⊎ (G.right (G.parent g) ≡ g) → reaches T (place T G (G.parent g)) (place T G g) ≡ true
      go (inl e) = ap (λ (x : ℕ). reaches T (place T G (G.parent g)) (place T G x)) (sym e) ∙ place_left (G.parent g) (t.parent_inner g d)
      go (inr e) = ap (λ (x : ℕ). reaches T (place T G (G.parent g)) (place T G x)) (sym e) ∙ place_right (G.parent g) (t.parent_inner g d)
