-- The chosen history is the first of all cheapest histories of gene 1: its start is the lowest node from which the least cost over all nodes is
-- attained, and from there no cheapest history comes before it. Two such histories have the same start and the same lines, for neither comes before the
-- other.
-- Assumes nothing.
use Rattle.std.proofs.Common.{◌≡◌, refl, sym, ap, ◌∙◌, subst, ◌≢◌, Bool, true, List, ℕ, suc, ◌+◌, ◌-◌, ◌≤◌, ◌<◌, arith}
use mathlib.Core.Option.{some}
use Rattle.finite.proofs.Cases.{by_less, by_order, clash}
use Rattle.finite.proofs.Every.{first_is, first_none, first_low}
use Rattle.histories.specs.Histories.{Family, least, overall, History, cost}
use Rattle.histories.specs.inner.Grades.{Graded}
use Rattle.tellings.specs.Steps.{Step, Line, steps, Sooner, by_code, by_first, by_second, Ahead, here, later, NotAfter, alike, earlier, FirstCheapest}
use Rattle.tellings.specs.Chosen.{same_cost, chosen_start, chosen_steps}
use Rattle.histories.proofs.Least.{is_overall}
use Rattle.tellings.proofs.Picks.{not_after_same}
use Rattle.tellings.proofs.Chosen.{same_costs, costs_same, at_cost, finite, exists, not_after}

module _ (F : Family) (ok : Graded F) (c : ℕ) (whole : overall F ≡ some c) where
  -- a history of gene 1 that costs no more is cheapest from its own node
  least_there : (v : ℕ) → 1 ≤ v → v ≤ F.nodes → (i : History F 1 v) → cost F i ≡ c → least F 1 v ≡ some c
  least_there v lv uv i e =
      let d = finite F ok i in
      let h = at_cost F ok 1 v d.0 d.1 in
      let l = (is_overall F ok c whole).cheapest v lv uv h.0 in
      d.1 ∙ ap some (omega arith)

  test : ℕ → Bool
  test v = same_cost (least F 1 v) (overall F)

  passes : (v : ℕ) → 1 ≤ v → v ≤ F.nodes → (i : History F 1 v) → cost F i ≡ c → test v ≡ true
  unfolding test
  passes v lv uv i e = same_costs (least F 1 v) (overall F) (least_there v lv uv i e ∙ sym whole)

  -- where there is a start, it is a node from which a history is cheapest
  attains : chosen_start F ≢ 0 → (chosen_start F ≤ F.nodes) × (least F 1 (chosen_start F) ≡ some c)
  unfolding chosen_start
  attains d = let r = first_is F.nodes (λ v. same_cost (least F 1 v) (overall F)) d in (r.0, costs_same _ _ r.1 ∙ whole)

  pub some_start : chosen_start F ≢ 0
  unfolding chosen_start test
  some_start z = let o = is_overall F ok c whole in
      clash (passes o.start o.start_low o.start_high o.history o.attains) (first_none F.nodes (λ v. same_cost (least F 1 v) (overall F)) z o.start o.start_low o.start_high)

  pub start_is : (chosen_start F ≤ F.nodes) × (least F 1 (chosen_start F) ≡ some c)
  start_is = attains some_start

  -- and no lower node is one
  start_first : (v : ℕ) → 1 ≤ v → v ≤ F.nodes → (i : History F 1 v) → cost F i ≡ c → chosen_start F ≤ v
  unfolding chosen_start test
  start_first v lv uv i e = by_less v (chosen_start F) (λ l. clash (passes v lv uv i e) (first_low F.nodes (λ v. same_cost (least F 1 v) (overall F)) v lv l)) (λ l. l)

  pub enough : (v : ℕ) → (F.genes - 1) + ok.height v < suc (F.genes + F.nodes)
  enough v = omega (arith, ok.height_le v)

  -- the steps chosen are those of the first of all cheapest histories
  pub shown : (h : History F 1 (chosen_start F)) × (cost F h ≡ c) × ((x : ℕ) → steps F h x ≡ chosen_steps F x) × FirstCheapest F (chosen_start F) h
  unfolding chosen_steps
  shown =
      let r = exists F ok (suc (F.genes + F.nodes)) 1 (chosen_start F) c (enough (chosen_start F)) start_is.1 in
      let j : History F 1 (chosen_start F) = r.0 in (
        j,
        r.1,
        r.2,
        record {
          start_low = omega (arith, some_start);
          start_high = start_is.0;
          cheapest = λ v lv uv i. let l = (is_overall F ok c whole).cheapest v lv uv i in omega arith;
          lowest_start = λ v lv uv i e. start_first v lv uv i (e ∙ r.1);
          not_after = λ i e. not_after_same (steps F j) (steps F i) r.2 (λ x. refl)
              (not_after F ok (suc (F.genes + F.nodes)) 1 (chosen_start F) (enough (chosen_start F)) i (start_is.1 ∙ ap some (sym (e ∙ r.1))));
        },
      )

-- two lists of steps cannot both be ahead, nor be ahead and the same
never_both : {s t : Step} → Sooner s t → Sooner t s → ⊥
never_both (by_code a) (by_code b) = omega arith
never_both (by_code a) (by_first e b) = omega arith
never_both (by_code a) (by_second e f b) = omega arith
never_both (by_first d a) (by_code b) = omega arith
never_both (by_first d a) (by_first e b) = omega arith
never_both (by_first d a) (by_second e f b) = omega arith
never_both (by_second d c a) (by_code b) = omega arith
never_both (by_second d c a) (by_first e b) = omega arith
never_both (by_second d c a) (by_second e f b) = omega arith

never_self : {s : Step} → Sooner s s → ⊥
never_self s = never_both s s

ahead_self : {l k : List Line} → Ahead l k → l ≡ k → ⊥
ahead_self (here {v} {s} {t} a) e = let q : s ≡ t = cc in never_self (rw q at a)
ahead_self (later {l} {k} a) e = let q : l ≡ k = cc in ahead_self a q

-- stated of four lists, two and two equal: a match on both needs their indices apart
ahead_apart : {l k m n : List Line} → Ahead l k → Ahead m n → k ≡ m → l ≡ n → ⊥
ahead_apart (here {v} {s} {t} a) (here {s = p} {t = q} b) e f =
    let g : t ≡ p = cc in
    let h : s ≡ q = cc in
    never_both a (rw (← g, ← h) at b)
ahead_apart (here {v} {s} {t} a) (later b) e f = let g : s ≡ t = cc in never_self (rw g at a)
ahead_apart (later a) (here {v} {s} {t} b) e f = let g : s ≡ t = cc in never_self (rw g at b)
ahead_apart (later {l = l} {k = k} a) (later {l = m} {k = n} b) p q =
    let g : k ≡ m = cc in
    let h : l ≡ n = cc in
    ahead_apart a b g h

ahead_both : {l k : List Line} → Ahead l k → Ahead k l → ⊥
ahead_both a b = ahead_apart a b refl refl

not_after_both : {f k : ℕ → List Line} → NotAfter f k → NotAfter k f → (x : ℕ) → f x ≡ k x
not_after_both (alike e) q = e
not_after_both (earlier y d b) (alike e) = λ x. sym (e x)
not_after_both {f} {k} (earlier y d b) (earlier z e c) = by_order y z
    (λ l. absurd (ahead_self b (sym (e y l))))
    (λ q. absurd (ahead_both b (rw (← q) at c)))
    (λ l. absurd (ahead_self c (sym (d z l))))

-- there is only one: the record settles the starting node and every step
pub only : (F : Family) (v w : ℕ) (h : History F 1 v) (i : History F 1 w) → FirstCheapest F v h → FirstCheapest F w i → (v ≡ w) × ((x : ℕ) → steps F h x ≡ steps F i x)
only F v w h i p q =
    let a = p.cheapest w q.start_low q.start_high i in
    let b = q.cheapest v p.start_low p.start_high h in
    let c = p.lowest_start w q.start_low q.start_high i (omega arith) in
    let d = q.lowest_start v p.start_low p.start_high h (omega arith) in
    let e : v ≡ w = omega arith in (
      e,
      subst (λ u. (i : History F 1 u) → FirstCheapest F u i → cost F i ≡ cost F h → (x : ℕ) → steps F h x ≡ steps F i x) e
          (λ i q c. not_after_both (p.not_after i c) (q.not_after h (sym c))) i q (omega arith),
    )
