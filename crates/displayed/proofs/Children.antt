-- The transfers and losses of a gene, for the report: sums over the arcs of a climb from its place to its parent gene's, the last of which decides the loss
-- at the parent gene's place; and the losses in 01's words, as a count of nodes.
-- Assumes nothing.
use Rattle.std.proofs.Common.{◌≡◌, refl, sym, ◌∙◌, ap, ◌≢◌, Bool, true, false, cond, ◌&&◌, not, ℕ, ◌+◌, ◌-◌, arith}
use mathlib.Core.Bool.{and-true, and-false}
use Rattle.finite.specs.Tests.{same, tally}
use Rattle.finite.specs.Range.{count}
use Rattle.finite.proofs.Cases.{by_bool, by_eq, clash}
use Rattle.finite.proofs.Tests.{is_same, not_same}
use Rattle.finite.proofs.Sum.{sum_same}
use Rattle.finite.proofs.Count.{count_zero}
use Rattle.topology.proofs.Climbing.{climb_ind, over_not, over_zero, along_stop, along_go, along_over}
use Rattle.reconciliation.specs.GeneTrees.{GeneTree, Rooted}
use Rattle.reconciliation.proofs.Genes.{child_gene, parent_gene}
use Rattle.displayed.specs.Displayed.{Displayed, NodeOf, Tree, reaches, way, departure}
use Rattle.displayed.specs.Mapping.{SeatedIn, place, sits, is_duplication, on_the_way, transfers, lost, losses}
use Rattle.displayed.specs.inner.Arcs.{move, mark}
use Rattle.displayed.proofs.Trees.{node_up, not_below}
use Rattle.displayed.proofs.Places.{place_node, parent_above}
use Rattle.displayed.proofs.Ways.{along_sum}
use Rattle.displayed.proofs.Departures.{departing, departure_node, way_depart}
use Rattle.displayed.proofs.Forks.{place_forks}

-- nothing happens above gene 1's place
module _ (T : Displayed) (G : GeneTree) (g : ℕ) (e : G.parent g ≡ 0) where
  pub root_transfers : transfers T G g ≡ 0
  unfolding transfers on_the_way
  root_transfers = rw (is_same e)

  pub root_losses : losses T G g ≡ 0
  unfolding losses on_the_way
  root_losses = rw (is_same e)

-- gene g is a child of p
module _ (T : Displayed) (ok : Tree T) (G : GeneTree) (t : Rooted G) (s : SeatedIn T G) (p g : ℕ) (z : p ≢ 0) (e : G.parent g ≡ p) where
  abbrev b : ℕ
  b = place T G p

  abbrev x : ℕ
  x = place T G g

  has : G.parent g ≢ 0
  has q = z (sym e ∙ q)

  pub child_node : NodeOf T x
  child_node = place_node T ok G t s g (child_gene G t g has).0 (child_gene G t g has).1

  pub child_parent_node : NodeOf T b
  child_parent_node = place_node T ok G t s p (omega arith) (omega (arith, (parent_gene G t g has).1))

  pub child_below : reaches T b x ≡ true
  child_below = rw e at (parent_above T ok G t s g has)

  -- "transfers are the on secondary arcs" of the way
  pub child_transfers : transfers T G g ≡ way T (move T) b x
  unfolding transfers on_the_way
  child_transfers = rw (e, not_same z)

  losses_way : losses T G g ≡ way T (λ c. tally (lost T G g c)) b x
  unfolding losses on_the_way
  losses_way = rw (e, not_same z)

  -- what is lost coming down from the parent gene's place, and from a node passed
  lost_last : (c : ℕ) → T.up c ≡ b → tally (lost T G g c) ≡ tally (is_duplication T G p)
  unfolding lost sits is_duplication
  lost_last c q = rw (e, q, is_same {m = b} refl)

  lost_before : (c : ℕ) → T.up c ≢ b → tally (lost T G g c) ≡ mark T c
  unfolding lost sits
  lost_before c n = rw (e, not_same (λ q. n (sym q)))

  losses_departure : x ≢ b → losses T G g ≡ way T (mark T) (departure T b x) x + tally (is_duplication T G p)
  losses_departure n = losses_way ∙ way_depart T ok b _ (mark T) (λ c. tally (is_duplication T G p)) lost_last lost_before x child_below n

  -- a way that leaves the parent gene's place leaves a fork
  pub child_forks : x ≢ b → T.forks b ≡ true
  child_forks n = place_forks T ok G t s p (omega arith) (omega (arith, (parent_gene G t g has).1)) (departure T b x)
      (departure_node T ok b x child_node child_below n) (departing T ok b x child_below n).from

  -- so each arc of the way loses what its mark says, but for the last where p is no duplication
  pub child_stays : x ≡ b → losses T G g ≡ 0
  child_stays q = losses_way ∙ along_stop T.rank T.up ok.falls _ b x q

  pub child_doubled : x ≢ b → is_duplication T G p ≡ true → losses T G g ≡ way T (mark T) b x
  child_doubled n q = losses_departure n ∙ rw q (sym (way_depart T ok b (mark T) (mark T) (λ c. 1) (λ c u. rw (u, child_forks n)) (λ c _. refl) x child_below n))

  pub child_passed : x ≢ b → is_duplication T G p ≡ false → losses T G g + mark T (departure T b x) ≡ way T (mark T) b x
  child_passed n q = omega (
    arith,
    losses_departure n,
    ap tally q,
    way_depart T ok b (mark T) (mark T) (mark T) (λ c _. refl) (λ c _. refl) x child_below n,
  )

  pub child_losses : losses T G g ≡ way T (mark T) b x - cond (is_duplication T G p) 0 (mark T (departure T b x))
  child_losses = by_eq x b
      (λ q. omega (arith, child_stays q, along_stop T.rank T.up ok.falls (mark T) b x q))
      (λ n. by_bool (is_duplication T G p)
      (λ q. rw q (omega (arith, child_doubled n q)))
      (λ q. rw q (omega (arith, child_passed n q))))

  -- in 01's words: "the nodes strictly between that have two on arcs, and one more if the parent gene is a duplication and the gene sits elsewhere"
  abbrev pub passed : ℕ → Bool
  passed v = (T.forks v && not (same v x)) && (reaches T v x && not (reaches T v b))

  -- a sum over the arcs of a way by their upper ends, the last told apart
  way_last : (F f : ℕ → ℕ) (D : ℕ) → ((c : ℕ) → T.up c ≡ b → F c ≡ D) → ((c : ℕ) → T.up c ≢ b → F c ≡ f (T.up c))
      → (a : ℕ) → reaches T b a ≡ true → a ≢ b → way T F b a ≡ way T f b (T.up a) + D
  way_last F f D last others = climb_ind T.rank T.up ok.falls (λ a. reaches T b a ≡ true → a ≢ b → way T F b a ≡ way T f b (T.up a) + D)
      (λ r d. absurd (d (by_eq b 0 sym (λ q. clash r (over_zero T.rank T.up ok.falls b q)))))
      (λ a k ih r d. let u : reaches T b (T.up a) ≡ true = along_over T.rank T.up ok.falls F b a r d in
      by_eq (T.up a) b
      (λ q. omega (
        arith,
        along_go T.rank T.up ok.falls F b a r d,
        last a q,
        along_stop T.rank T.up ok.falls F b (T.up a) q,
        along_stop T.rank T.up ok.falls f b (T.up a) q,
      ))
      (λ n. omega (
        arith,
        along_go T.rank T.up ok.falls F b a r d,
        others a n,
        ih (T.up a) (ok.falls.fall a k) u n,
        along_go T.rank T.up ok.falls f b (T.up a) u n,
      )))

  passed_count : x ≢ b → way T (λ v. tally (T.forks v)) b (T.up x) ≡ count T.size passed
  unfolding count
  passed_count n =
      let u : reaches T b (T.up x) ≡ true = along_over T.rank T.up ok.falls (mark T) b x child_below n in
      let k = child_parent_node in
      along_sum T ok (λ v. tally (T.forks v)) b k (T.up x) (node_up T ok x child_node (λ q. clash u (rw q (over_zero T.rank T.up ok.falls b (omega (arith, k.low)))))) u
      ∙ sum_same T.size _ _ (λ v _ _. by_eq v x
      (λ q. rw (q, not_below T ok x (omega (arith, child_node.low)), is_same {m = x} refl, and-false (T.forks x)))
      (λ q. rw (not_same q, and-true (T.forks v), over_not T.rank T.up ok.falls v x q) (both (T.forks v) (reaches T v (T.up x) && not (reaches T v b)))))
    where
      both : (f w : Bool) → cond w (tally f) 0 ≡ tally (f && w)
      both f w = by_bool f (λ q. rw q) (λ q. rw q (by_bool w (λ r. rw r) (λ r. rw r)))

  pub child_words : losses T G g ≡ count T.size passed + tally (is_duplication T G p && not (same x b))
  child_words = by_eq x b
      (λ q. rw (child_stays q, is_same q, and-false (is_duplication T G p)) (omega (arith, count_zero T.size passed (λ v _ _. rw q (none (reaches T v b) (T.forks v && not (same v b)))))))
      (λ n. losses_way ∙ way_last _ (λ v. tally (T.forks v)) (tally (is_duplication T G p)) lost_last lost_before x child_below n
      ∙ rw (passed_count n, not_same n, and-true (is_duplication T G p)))
    where
      none : (w f : Bool) → (f && (w && not w)) ≡ false
      none w f = by_bool w (λ q. rw q (and-false f)) (λ q. rw q (and-false f))
