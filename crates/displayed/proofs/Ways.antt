-- A sum over the arcs of a way equals the sum over all nodes of what stands on the way: one arc is pulled out at each step of the climb.
-- Assumes nothing.
use Rattle.std.proofs.Common.{◌≡◌, refl, sym, ◌∙◌, ◌≢◌, true, false, cond, ◌&&◌, not, ℕ, ◌+◌, ◌*◌, ◌≤◌, ◌<◌, arith}
use Rattle.finite.specs.Range.{sum}
use Rattle.finite.proofs.Cases.{by_bool, by_eq, clash}
use Rattle.finite.proofs.Tests.{is_same, not_same}
use Rattle.finite.proofs.Sum.{sum_zero, sum_bound, sum_point}
use Rattle.topology.proofs.Climbing.{climb_ind, over_self, over_not, over_zero, over_anti, along_stop, along_go, along_over}
use Rattle.reconciliation.specs.GeneTrees.{GeneTree, Rooted}
use Rattle.reconciliation.proofs.Genes.{child_gene, parent_gene}
use Rattle.displayed.specs.Displayed.{Displayed, NodeOf, Tree, reaches, way}
use Rattle.displayed.specs.Mapping.{SeatedIn, place, on_the_way}
use Rattle.displayed.specs.inner.Charges.{on_way}
use Rattle.displayed.proofs.Trees.{node_up, not_below}
use Rattle.displayed.proofs.Places.{place_node, parent_above}

module _ (T : Displayed) (ok : Tree T) (f : ℕ → ℕ) (b : ℕ) (kb : NodeOf T b) where
  -- f where the arc into c is on the way from b down to a, 0 elsewhere
  abbrev marks : ℕ → ℕ → ℕ
  marks a c = cond (reaches T c a && not (reaches T c b)) (f c) 0

  marks_end : (c : ℕ) → marks b c ≡ 0
  marks_end c = by_bool (reaches T c b) (λ t. rw t) (λ t. rw t)

  marks_first : (a : ℕ) → a ≢ 0 → reaches T b a ≡ true → a ≢ b → marks a a ≡ marks (T.up a) a + f a
  marks_first a z t d =
      let x : reaches T a b ≡ false = by_bool (reaches T a b) (λ q. absurd (d (over_anti T.rank T.up ok.falls a b q t))) (λ q. q) in
      rw (over_self T.rank T.up ok.falls a, x, not_below T ok a z) (omega arith)

  pub along_sum : (a : ℕ) → NodeOf T a → reaches T b a ≡ true → way T f b a ≡ sum T.size (marks a)
  along_sum = climb_ind T.rank T.up ok.falls (λ a. NodeOf T a → reaches T b a ≡ true → way T f b a ≡ sum T.size (marks a))
      (λ k. absurd (omega arith)) turn
    where
      turn : (a : ℕ) → a ≢ 0 → ((y : ℕ) → T.rank y < T.rank a → NodeOf T y → reaches T b y ≡ true → way T f b y ≡ sum T.size (marks y))
          → NodeOf T a → reaches T b a ≡ true → way T f b a ≡ sum T.size (marks a)
      turn a z ih ka t = by_eq a b
          (λ e. along_stop T.rank T.up ok.falls f b a e ∙ sym (sum_zero T.size (marks a) (λ v _ _. rw e (marks_end v))))
          (λ d. let u : reaches T b (T.up a) ≡ true = along_over T.rank T.up ok.falls f b a t d in
          omega (
            arith,
            along_go T.rank T.up ok.falls f b a t d,
            ih (T.up a) (ok.falls.fall a z) (node_up T ok a ka (λ e. clash u (rw e (over_zero T.rank T.up ok.falls b (omega arith))))) u,
            sum_point T.size (marks (T.up a)) (marks a) a (f a) ka.low ka.high (λ v q. rw (over_not T.rank T.up ok.falls v a q)) (marks_first a z t d),
          ))

module _ (T : Displayed) (ok : Tree T) (G : GeneTree) (t : Rooted G) (s : SeatedIn T G) (f : ℕ → ℕ) (g : ℕ) where
  pub way_sum : on_the_way T G f g ≡ sum T.size (λ c. cond (on_way T G g c) (f c) 0)
  unfolding on_the_way on_way
  way_sum = by_eq (G.parent g) 0
      (λ e. rw (is_same e) (sym (sum_zero T.size _ (λ c _ _. refl))))
      (λ d. rw (not_same d) (along_sum T ok f (place T G (G.parent g)) (place_node T ok G t s (G.parent g) (parent_gene G t g d).0 (parent_gene G t g d).1)
      (place T G g) (place_node T ok G t s g (child_gene G t g d).0 (child_gene G t g d).1) (parent_above T ok G t s g d)))

-- a way has no more arcs than there are nodes
pub way_le : (T : Displayed) → Tree T → (f : ℕ → ℕ) (k b a : ℕ) → NodeOf T b → NodeOf T a → reaches T b a ≡ true → ((c : ℕ) → NodeOf T c → f c ≤ k) → way T f b a ≤ T.size * k
way_le T ok f k b a kb ka r low = omega (
  arith,
  along_sum T ok f b kb a ka r,
  sum_bound T.size k (λ c. cond (reaches T c a && not (reaches T c b)) (f c) 0) (λ c l u. by_bool (reaches T c a && not (reaches T c b))
      (λ e. rw e (low c (record { low = l; high = u }))) (λ e. rw e (omega arith))),
)
