-- A gene that sits above another node sits at a fork: leaf genes sit at leaves, and two arcs lead from the lowest common node to two nodes of which none
-- is above the other. So the loss at a duplication's own node is a loss at a fork.
-- Assumes nothing.
use Rattle.std.proofs.Common.{◌≡◌, sym, ◌∙◌, ap, ◌≢◌, true, ℕ, ◌-◌, ◌≤◌, ◌<◌, arith}
use Rattle.finite.proofs.Cases.{by_eq, clash, measure}
use Rattle.std.proofs.lemmas.Bool.{and_from}
use Rattle.topology.proofs.Climbing.{over_child, meet_spec, meet_over_left, meet_over_right}
use Rattle.reconciliation.specs.GeneTrees.{GeneTree, Rooted}
use Rattle.displayed.specs.Displayed.{Displayed, NodeOf, Tree, reaches, common}
use Rattle.displayed.specs.Mapping.{SeatedIn, place}
use Rattle.displayed.proofs.Trees.{reaches_node, not_below}
use Rattle.displayed.proofs.Places.{place_leaf, place_inner, place_node}

module _ (T : Displayed) (ok : Tree T) (G : GeneTree) (t : Rooted G) (s : SeatedIn T G) where
  common_forks : (x y : ℕ) → NodeOf T x → NodeOf T y → common T x y ≢ x → common T x y ≢ y → T.forks (common T x y) ≡ true
  common_forks x y kx ky dx dy =
      let a = over_child T.rank T.up ok.falls (common T x y) x (meet_over_left T.rank T.up ok.falls x y) dx in
      let b = over_child T.rank T.up ok.falls (common T x y) y (meet_over_right T.rank T.up ok.falls x y) dy in
      go a.0 b.0 a.1 b.1 a.2 b.2 a.3 b.3
    where
      go : (c d : ℕ) → c ≢ 0 → d ≢ 0 → T.up c ≡ common T x y → T.up d ≡ common T x y → reaches T c x ≡ true → reaches T d y ≡ true → T.forks (common T x y) ≡ true
      go c d zc zd ec ed rc rd = rw ec at (s.two c d (reaches_node T ok c x zc kx rc) (reaches_node T ok d y zd ky rd)
          (λ q. clash (ap (reaches T c) ec ∙ sym (meet_spec T.rank T.up ok.falls c x y zc) ∙ and_from _ _ rc (rw (← q) at rd)) (not_below T ok c zc))
          (ec ∙ sym ed))

  pub place_forks : (g : ℕ) → 1 ≤ g → g ≤ G.count → (c : ℕ) → NodeOf T c → T.up c ≡ place T G g → T.forks (place T G g) ≡ true
  place_forks = measure (λ g. G.count - g) (λ g. 1 ≤ g → g ≤ G.count → (c : ℕ) → NodeOf T c → T.up c ≡ place T G g → T.forks (place T G g) ≡ true)
      (λ g ih lo hi c k e. by_eq (G.left g) 0 (λ q. absurd (s.ends g c lo hi q k (e ∙ place_leaf T G t g q)))
      (λ d. let a : g < G.left g = t.left_more g d in
      let b : g < G.right g = t.right_more g d in
      let u : G.left g ≤ G.count = t.left_in g d in
      let v : G.right g ≤ G.count = t.right_in g d in
      let p : place T G g ≡ common T (place T G (G.left g)) (place T G (G.right g)) = place_inner T G t g d in
      by_eq (place T G g) (place T G (G.left g)) (λ q. rw q (ih (G.left g) (omega arith) (omega arith) u c k (e ∙ q)))
      (λ n. by_eq (place T G g) (place T G (G.right g)) (λ q. rw q (ih (G.right g) (omega arith) (omega arith) v c k (e ∙ q)))
      (λ m. rw p (common_forks _ _ (place_node T ok G t s (G.left g) (omega arith) u) (place_node T ok G t s (G.right g) (omega arith) v) (λ q. n (p ∙ q)) (λ q. m (p ∙ q)))))))
