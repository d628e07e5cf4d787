-- Gene 1 has a history that costs below 1,000,000: every inner gene duplicates at the root, and every leaf gene goes down principal arcs to a leaf of
-- its species, at most 63 times with a loss, for fewer than half of the nodes have two principal arcs.
-- Assumes nothing.
use Rattle.std.proofs.Common.{◌≡◌, refl, ap, ◌∙◌, subst, ◌≢◌, inl, inr, Bool, true, ◌&&◌, not, ℕ, suc, ◌+◌, ◌*◌, ◌≤◌, ◌<◌, mul-suc, mul-le-mul, mul-le-mul_left, le_trans, arith}
use mathlib.Core.Option.{some}
use Rattle.finite.specs.Tests.{same, under, tally}
use Rattle.finite.specs.Range.{count, children}
use Rattle.finite.proofs.Cases.{by_eq, by_less, clash, measure}
use Rattle.std.proofs.lemmas.Bool.{and_from, and_right, not_from_false, not_from_true}
use Rattle.finite.proofs.Tests.{and_l, and_r, is_same, not_same, is_under, not_under, under_is, tally_yes, tally_no}
use Rattle.finite.proofs.Count.{count_less, count_imp, count_two, count_three, zero_count, branchings}
use Rattle.tables.proofs.Nexts.{next_is, next_none, next_low}
use Rattle.topology.specs.Lines.{NodeLines, GeneLines, network}
use Rattle.reconciliation.specs.GeneTrees.{GeneTree}
use Rattle.reconciliation.specs.Costs.{Costs}
use Rattle.histories.specs.Histories.{leaf, Family, overall}
use Rattle.histories.specs.Histories.{History, rest, duplicate, speciate_lose, pass, cost}
use Rattle.histories.specs.Families.{next, first_child, second_child, other_child, out_by, family_of}
use Rattle.histories.specs.inner.Accepted.{Accepted}
use Rattle.histories.proofs.Least.{overall_at_most}
use Rattle.histories.proofs.Outs.{out_leaf, out_two, out_mixed, out_one}
use Rattle.histories.proofs.Sizes.{size, size_low, size_le, size_splits}
use Rattle.histories.proofs.Accepted.{Whole, N, out_at, node_of, gene_tip, gene_pair, rank_principal, graded}

-- the children of a number p that has at most two: x is one of them
module _ (n : ℕ) (parent : ℕ → ℕ) (p x : ℕ) (few : children n parent p ≤ 2) (lx : 1 ≤ x) (ux : x ≤ n) (e : parent x ≡ p) where
  abbrev a : ℕ
  a = next n parent 0 p

  abbrev b : ℕ
  b = next n parent a p

  pub has_first : a ≢ 0
  has_first z = next_none n parent 0 p z x (omega arith) ux e

  first_le : a ≤ x
  first_le = by_less x a (λ q. absurd (next_low n parent 0 p x (omega arith) q e)) (λ q. q)

  pub only_first : b ≡ 0 → x ≡ a
  only_first z = by_eq x a (λ q. q) (λ q. absurd (next_none n parent a p z x (omega (arith, first_le)) ux e))

  pub first_or_second : x ≢ a → x ≡ b
  unfolding children
  first_or_second q = by_eq x b (λ r. r) (λ r.
      let lower : a < x = omega (arith, first_le) in
      let some : b ≢ 0 = λ z. next_none n parent a p z x lower ux e in
      let fa = next_is n parent 0 p has_first in
      let fb = next_is n parent a p some in
      let lb : b < x = by_less x b (λ k. absurd (next_low n parent a p x lower k e)) (λ k. omega arith) in
      absurd (omega (arith, count_three n a b x (λ w. same (parent w) p) (omega arith) (omega arith) (omega arith) (omega arith) lx ux (λ q. omega arith) (λ q. omega arith) (λ q. omega arith) (is_same fa.2) (is_same fb.2) (is_same e))))

module _ (L : NodeLines) (K : GeneLines) (G : GeneTree) (C : Costs) (ok : Accepted L K G C) where
  abbrev F : Family
  F = Whole L K G C

  abbrev level : ℕ → ℕ
  level = (N L K G C).rank

  -- v has two principal arcs
  forks : ℕ → Bool
  forks v = not (same (second_child L v) 0)

  -- a gene goes down a principal arc: with a loss where there are two, else free
  module _ (g p x : ℕ) (lp : 1 ≤ p) (up : p ≤ L.size) (lx : 1 ≤ x) (ux : x ≤ L.size) (e : L.principal x ≡ p) (h : History F g x) where
    abbrev x₁ : ℕ
    x₁ = first_child L p

    abbrev x₂ : ℕ
    x₂ = second_child L p

    abbrev z : ℕ
    z = other_child L p

    out_is : F.out p ≡ out_by x₁ x₂ z (L.species p)
    out_is = out_at L K G C p lp up

    few : children L.size L.principal p ≤ 2
    few = ok.two_principal p (node_of L K G C p lp up)

    first : x₁ ≢ 0
    unfolding first_child
    first = has_first L.size L.principal p x few lx ux e

    second : x ≢ x₁ → x ≡ x₂
    unfolding first_child second_child
    second = first_or_second L.size L.principal p x few lx ux e

    only : x₂ ≡ 0 → x ≡ x₁
    unfolding first_child second_child
    only = only_first L.size L.principal p x few lx ux e

    -- down one of two
    lose : x₂ ≢ 0 → (i : History F g p) × (cost F i ≡ C.loss + cost F h)
    unfolding family_of cost
    lose q = by_eq x x₁
        (λ r. (speciate_lose (inl (rw (← r) at (out_is ∙ out_two x₁ x₂ z (L.species p) first q))) h, refl))
        (λ r. (speciate_lose (inr (rw (← second r) at (out_is ∙ out_two x₁ x₂ z (L.species p) first q))) h, refl))

    -- down the only one
    free : x₂ ≡ 0 → (i : History F g p) × (cost F i ≡ cost F h)
    unfolding cost
    free q = by_eq z 0
        (λ r. (pass (inl (rw (← only q) at (out_is ∙ out_one x₁ x₂ z (L.species p) first q r))) h, refl))
        (λ r. (pass (inr (z, rw (← only q) at (out_is ∙ out_mixed x₁ x₂ z (L.species p) first q r))) h, refl))

  -- how many nodes of lower rank have two principal arcs
  over : ℕ → ℕ
  over v = count L.size (λ w. forks w && under (level w) (level v))

  all : ℕ
  all = count L.size forks

  over_fork : (p x : ℕ) → 1 ≤ p → p ≤ L.size → level p < level x → forks p ≡ true → over p < over x
  unfolding over
  over_fork p x lp up r f = count_less L.size p _ _ (λ w q. and_from (forks w) _ (and_l (forks w) _ q) (is_under (omega (arith, under_is (level w) (level p) (and_r (forks w) _ q))))) lp up
      (and_right (forks p) _ (not_under {m = level p} {n = level p} (omega arith))) (and_from (forks p) _ f (is_under r))

  over_other : (p x : ℕ) → level p < level x → over p ≤ over x
  unfolding over
  over_other p x r = count_imp L.size _ _ (λ w q. and_from (forks w) _ (and_l (forks w) _ q) (is_under (omega (arith, under_is (level w) (level p) (and_r (forks w) _ q)))))

  abbrev root : ℕ
  root = ok.sound.root

  root_low : 1 ≤ root
  root_low = ok.sound.root_in.low

  root_high : root ≤ L.size
  unfolding network
  root_high = ok.sound.root_in.high

  root_none : L.principal root ≡ 0
  unfolding network
  root_none = ok.sound.root_principal

  root_is : (x : ℕ) → 1 ≤ x → x ≤ L.size → L.principal x ≡ 0 → x ≡ root
  unfolding network
  root_is x lx ux e = ok.sound.root_one x (node_of L K G C x lx ux) e

  principal_le : (x : ℕ) → 1 ≤ x → x ≤ L.size → L.principal x ≤ L.size
  unfolding network
  principal_le x lx ux = ok.sound.in_principal x (node_of L K G C x lx ux)

  -- from a node a gene goes up to the root, k losses below the node and the rest above
  climb : (g x : ℕ) → 1 ≤ x → x ≤ L.size → (k : ℕ) (h : History F g x) → cost F h ≤ C.loss * k → k + over x ≤ all → (i : History F g root) × (cost F i ≤ C.loss * all)
  unfolding forks
  climb g = measure level (λ x. 1 ≤ x → x ≤ L.size → (k : ℕ) (h : History F g x) → cost F h ≤ C.loss * k → k + over x ≤ all → (i : History F g root) × (cost F i ≤ C.loss * all))
      (λ x ih lx ux k h c b. by_eq (L.principal x) 0
      (λ q. subst (λ v. (i : History F g v) × (cost F i ≤ C.loss * all)) (root_is x lx ux q) (h, le_trans c (mul-le-mul_left C.loss (omega arith))))
      (λ q. let lp : 1 ≤ L.principal x = omega arith in
      let up = principal_le x lx ux in
      let r = rank_principal L K G C ok (L.principal x) x lp lx ux refl in
      by_eq (second_child L (L.principal x)) 0
      (λ z. let i = free g (L.principal x) x lp up lx ux refl h z in
      ih (L.principal x) r lp up k i.0 (omega (arith, i.1)) (omega (arith, over_other (L.principal x) x r)))
      (λ z. let i = lose g (L.principal x) x lp up lx ux refl h z in
      ih (L.principal x) r lp up (suc k) i.0 (omega (arith, i.1, mul-suc C.loss k)) (omega (arith, over_fork (L.principal x) x lp up r (not_from_false (same _ 0) (not_same z)))))))

  twice : (v : ℕ) → 2 * tally (forks v) ≤ children L.size L.principal v
  unfolding forks children first_child second_child
  twice v = by_eq (second_child L v) 0
      (λ e. omega (arith, tally_no (forks v) (not_from_true (same (second_child L v) 0) (is_same e))))
      (λ e. let q = next_is L.size L.principal (first_child L v) v e in
      let r : first_child L v ≢ 0 = λ z. next_none L.size L.principal 0 v z (second_child L v) (omega arith) q.0 q.2 in
      let p = next_is L.size L.principal 0 v r in
      omega (
        arith,
        tally_yes (forks v) (not_from_false (same (second_child L v) 0) (not_same e)),
        count_two L.size (first_child L v) (second_child L v) (λ w. same (L.principal w) v) (omega arith) p.0 (omega arith) q.0 (λ z. omega arith) (is_same p.2) (is_same q.2),
      ))

  all_few : all ≤ 63
  unfolding all count network
  all_few = omega (arith, ok.limits.few_nodes, branchings L.size root L.principal (λ v. tally (forks v)) root_low root_high root_none (λ v lv uv. twice v))

  -- a leaf gene rests at the leaf of its species
  module _ (g : ℕ) (lg : 1 ≤ g) (ug : g ≤ G.count) (e : G.left g ≡ 0) where
    abbrev s : ℕ
    s = G.leaf g

    seat_low : 1 ≤ s
    seat_low = (ok.seated g lg ug e).node.low

    seat_high : s ≤ L.size
    unfolding network
    seat_high = (ok.seated g lg ug e).node.high

    no_child : first_child L s ≡ 0
    unfolding children first_child
    no_child = by_eq (first_child L s) 0 (λ q. q)
        (λ q. let r = next_is L.size L.principal 0 s q in
        clash (is_same r.2) (zero_count L.size (λ w. same (L.principal w) s) (ok.seated g lg ug e).childless (first_child L s) (omega arith) r.0))

    at_seat : (h : History F g s) × (cost F h ≡ 0)
    unfolding cost
    at_seat = (rest (gene_tip L K G C g e) (out_at L K G C s seat_low seat_high ∙ out_leaf _ _ _ _ no_child ∙ ap leaf (ok.seated g lg ug e).bears), refl)

  over_all : (v : ℕ) → over v ≤ all
  unfolding over all
  over_all v = count_imp L.size _ _ (λ w q. and_l (forks w) _ q)

  -- so it has a history from the root
  leaf_history : (g : ℕ) → 1 ≤ g → g ≤ G.count → G.left g ≡ 0 → (h : History F g root) × (cost F h ≤ 6237)
  leaf_history g lg ug e =
      let h = at_seat g lg ug e in
      let i = climb g (G.leaf g) (seat_low g lg ug e) (seat_high g lg ug e) 0 h.0 (omega (arith, h.1)) (omega (arith, over_all (G.leaf g))) in
      let q : C.loss * all ≤ 99 * 63 = mul-le-mul {n₂ = 99} {m₂ = 63} ok.limits.loss all_few in
      (i.0, omega (arith, i.1))

  abbrev size_of : ℕ → ℕ
  size_of = size G ok.rooted

  duplicates : (g : ℕ) → G.left g ≢ 0 → (h : History F (G.left g) root) (i : History F (G.right g) root) → (j : History F g root) × (cost F j ≡ C.duplication + cost F h + cost F i)
  unfolding family_of cost
  duplicates g e h i = (duplicate (gene_pair L K G C g e) h i, refl)

  -- and so has every gene
  root_history : (g : ℕ) → 1 ≤ g → g ≤ G.count → (h : History F g root) × (cost F h ≤ 6237 * size_of g)
  root_history = measure size_of (λ g. 1 ≤ g → g ≤ G.count → (h : History F g root) × (cost F h ≤ 6237 * size_of g))
      (λ g ih lg ug. by_eq (G.left g) 0
      (λ e. let q = leaf_history g lg ug e in (q.0, omega (arith, q.1, size_low G ok.rooted g)))
      (λ e. let s = size_splits G ok.rooted g e in
      let u = ih (G.left g) (omega (arith, size_low G ok.rooted (G.right g))) (omega arith) (ok.rooted.left_in g e) in
      let w = ih (G.right g) (omega (arith, size_low G ok.rooted (G.left g))) (omega (arith, ok.rooted.right_more g e)) (ok.rooted.right_in g e) in
      let j = duplicates g e u.0 w.0 in
      (j.0, omega (arith, j.1, u.1, w.1, ok.limits.duplication))))

  root_node : root ≤ F.nodes
  unfolding family_of
  root_node = root_high

  -- the least cost of gene 1 over all starting nodes exists, and has six digits at most
  pub overall_exists : (c : ℕ) × (overall F ≡ some c) × (c < 1000000)
  overall_exists =
      let h = root_history 1 (omega arith) ok.rooted.some in
      let r = overall_at_most F (graded L K G C ok) root root_low root_node h.0 in
      (r.0, r.1, omega (arith, r.2, h.1, size_le G ok.rooted 1, ok.limits.few_genes))
