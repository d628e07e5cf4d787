-- Each step is one gene's, so the costs of all genes' steps add up to the history's cost. A gene's steps lead to ever lower levels, and the genes below
-- two children are apart, so a gene has at most one step for each node.
-- Assumes nothing.
use Rattle.std.proofs.Common.{◌≡◌, refl, sym, ap, ◌∙◌, ◌≢◌, Bool, true, false, List, [], ◌∷◌, ◌++◌, ℕ, zero, suc, ◌+◌, ◌≤◌, ◌<◌, add_assoc, le_trans, mul-le-mul, arith, length, length-append}
use Rattle.finite.specs.Range.{sum}
use Rattle.finite.proofs.Cases.{by_eq, by_bool, clash}
use Rattle.finite.proofs.Tests.{is_same, not_same}
use Rattle.finite.proofs.Sum.{sum_same, sum_zero, sum_point, sum_add, sum_bound}
use Rattle.topology.specs.Climbing.{over}
use Rattle.topology.proofs.Climbing.{over_self, over_up, over_trans}
use Rattle.histories.specs.Histories.{Family, pair, History, cost}
use Rattle.histories.specs.inner.Grades.{Graded}
use Rattle.reconciliation.specs.Limits.{Limits}
use Rattle.tellings.specs.inner.Lineages.{Levels}
use Rattle.tellings.specs.Steps.{Step, step_cost, Line, line, own, steps}
use Rattle.tellings.specs.Chosen.{options, onward}
use Rattle.tellings.specs.inner.Lineages.{Lineage}
use Rattle.histories.proofs.Sizes.{siblings}
use Rattle.tellings.proofs.Leads.{Near, To, Lower, leads_lower, near_node}
use Rattle.tellings.proofs.Options.{Among, Rest, finished, parted, gone, begun}
use Rattle.tellings.proofs.Chosen.{depth, lower_move, lower_parts, none_below}

-- what the steps of a gene cost together
unfoldable pub steps_cost : Family → List Line → ℕ
steps_cost F [] = 0
steps_cost F (line v s ∷ l) = step_cost F.costs s + steps_cost F l

cost_append : (F : Family) (l k : List Line) → steps_cost F (l ++ k) ≡ steps_cost F l + steps_cost F k
unfolding steps_cost
cost_append F [] k = omega arith
cost_append F (line v s ∷ l) k = rw (cost_append F l k) (sym (add_assoc (step_cost F.costs s) (steps_cost F l) (steps_cost F k)))

module _ (g v : ℕ) (s : Step) where
  pub own_here : own g v s g ≡ line v s ∷ []
  unfolding own
  own_here = rw (is_same {m = g} refl)

  pub own_not : (x : ℕ) → x ≢ g → own g v s x ≡ []
  unfolding own
  own_not x d = rw (not_same d)

-- one step costs its step_cost, whichever gene takes it
cost_own : (F : Family) (m g v : ℕ) (s : Step) → 1 ≤ g → g ≤ m → sum m (λ x. steps_cost F (own g v s x)) ≡ step_cost F.costs s
unfolding steps_cost
cost_own F m g v s l u = sum_point m (λ x. 0) (λ x. steps_cost F (own g v s x)) g (step_cost F.costs s) l u (λ x d. ap (steps_cost F) (own_not g v s x d)) (ap (steps_cost F) (own_here g v s) ∙ omega arith) ∙ omega (arith, sum_zero m (λ x. 0) (λ v _ _. refl))

module _ (F : Family) (ok : Graded F) where
  open F use {gene, genes}

  -- what the steps of all genes cost
  abbrev Sum : (ℕ → List Line) → ℕ
  Sum f = sum genes (λ x. steps_cost F (f x))

  sum_both : (f k : ℕ → List Line) → Sum (λ x. f x ++ k x) ≡ Sum f + Sum k
  sum_both f k = sum_same genes _ _ (λ x _ _. cost_append F (f x) (k x)) ∙ sum_add genes (λ x. steps_cost F (f x)) (λ x. steps_cost F (k x))

  sum_told : (f k : ℕ → List Line) → ((x : ℕ) → f x ≡ k x) → Sum f ≡ Sum k
  sum_told f k e = sum_same genes _ _ (λ x _ _. ap (steps_cost F) (e x))

  module _ (k : ℕ) (all : (g v : ℕ) → depth F ok g v < k → 1 ≤ g → g ≤ genes → (j : History F g v) → Sum (steps F j) ≡ cost F j) (g v : ℕ) (l : depth F ok g v < suc k) (lg : 1 ≤ g) (ug : g ≤ genes) (s : Step) (m : Among s (options F g v)) where
    sum_rest : {c : ℕ} {f : ℕ → List Line} → Rest F g (onward s) c f → Sum f ≡ c
    unfolding steps_cost
    sum_rest (finished o z e) = sum_zero genes _ (λ x _ _. ap (steps_cost F) (e x)) ∙ sym z
    sum_rest (parted {a} {b} {p} {q} n o h i z e) =
        let d = lower_parts F ok g v s m n o in
        let la = ok.left_more g a b n in let lb = ok.right_more g a b n in let ia = ok.left_in g a b n in let ib = ok.right_in g a b n in
        sum_told _ _ e ∙ sum_both (steps F h) (steps F i) ∙ rw (all a p (omega arith) (omega arith) ia h, all b q (omega arith) (omega arith) ib i) (sym z)
    sum_rest (gone {w} o h z e) = let d = lower_move F ok g v s m o in sum_told _ _ e ∙ all g w (omega arith) lg ug h ∙ sym z

  adds : (k g v : ℕ) → depth F ok g v < k → 1 ≤ g → g ≤ genes → (j : History F g v) → Sum (steps F j) ≡ cost F j
  adds zero g v l lg ug j = absurd (omega arith)
  adds (suc k) g v l lg ug j =
      let b = begun F j in
      sum_told _ _ b.tells ∙ sum_both (own g v b.step) b.steps_on
      ∙ rw (cost_own F genes g v b.step lg ug, sum_rest k (adds k) g v l lg ug b.step b.among b.rest_on) (sym b.costs)

  -- "The sum of the lines is the second line's cost"
  pub adds_up : {g v : ℕ} → 1 ≤ g → g ≤ genes → (j : History F g v) → sum genes (λ x. steps_cost F (steps F j x)) ≡ cost F j
  adds_up {g} {v} lg ug j = adds (suc (depth F ok g v)) g v (omega arith) lg ug j

-- a history of gene g has steps of g and the genes below it only
module _ (F : Family) (ok : Graded F) (tree : Lineage F) where
  open F use {gene, genes, nodes}

  -- g is x or above x
  abbrev pub above : ℕ → ℕ → Bool
  above g x = over (λ y. y) tree.up g x

  pub below_left : (g a b x : ℕ) → gene g ≡ pair a b → above g x ≡ false → above a x ≡ false
  below_left g a b x k f = by_bool (above a x)
      (λ t. clash (over_trans _ _ tree.falls g a x (over_up _ _ tree.falls g a (rw (tree.left_up g a b k) (over_self _ _ tree.falls g))) t) f)
      (λ t. t)

  pub below_right : (g a b x : ℕ) → gene g ≡ pair a b → above g x ≡ false → above b x ≡ false
  below_right g a b x k f = by_bool (above b x)
      (λ t. clash (over_trans _ _ tree.falls g b x (over_up _ _ tree.falls g b (rw (tree.right_up g a b k) (over_self _ _ tree.falls g))) t) f)
      (λ t. t)

  -- the genes below two children are apart
  pub not_both : (g a b x : ℕ) → gene g ≡ pair a b → above a x ≡ true → above b x ≡ false
  not_both g a b x k t =
      let l = ok.left_more g a b k in let r = ok.right_more g a b k in let q = tree.lower_first g a b k in
      siblings tree.up tree.falls g a b (λ z. omega arith) (λ z. omega arith) (λ z. omega arith) (tree.left_up g a b k) (tree.right_up g a b k) x t

  module _ (k x : ℕ) (all : (g v : ℕ) → depth F ok g v < k → (j : History F g v) → above g x ≡ false → steps F j x ≡ []) (g v : ℕ) (l : depth F ok g v < suc k) (s : Step) (m : Among s (options F g v)) (n : above g x ≡ false) where
    rest_outside : {c : ℕ} {f : ℕ → List Line} → Rest F g (onward s) c f → f x ≡ []
    rest_outside (finished o _ e) = e x
    rest_outside (parted {a} {b} {p} {q} r o h i _ e) =
        let d = lower_parts F ok g v s m r o in
        e x ∙ rw (all a p (omega arith) h (below_left g a b x r n), all b q (omega arith) i (below_right g a b x r n))
    rest_outside (gone {w} o h _ e) = let d = lower_move F ok g v s m o in e x ∙ all g w (omega arith) h n

  none_outside : (k x g v : ℕ) → depth F ok g v < k → (j : History F g v) → above g x ≡ false → steps F j x ≡ []
  none_outside zero x g v l j n = absurd (omega arith)
  none_outside (suc k) x g v l j n =
      let r = begun F j in
      r.tells x ∙ rw (own_not g v r.step x (λ e. clash (over_self _ _ tree.falls g) (rw e at n))) (rest_outside k x (none_outside k x) g v l r.step r.among n r.rest_on)

  pub outside : {g v : ℕ} (j : History F g v) (x : ℕ) → above g x ≡ false → steps F j x ≡ []
  outside {g} {v} j x n = none_outside (suc (depth F ok g v)) x g v (omega arith) j n

  module _ (plan : Levels F) where
    -- the steps of g itself are at most its node's level, those of any gene at most the nodes
    abbrev Few : (g v : ℕ) → (ℕ → List Line) → Type 0
    Few g v f = (length (f g) ≤ plan.level v) × ((x : ℕ) → length (f x) ≤ nodes)

    module _ (k : ℕ) (all : (g v : ℕ) → depth F ok g v < k → 1 ≤ v → v ≤ nodes → (j : History F g v) → Few g v (steps F j)) (g v : ℕ) (l : depth F ok g v < suc k) (lv : 1 ≤ v) (uv : v ≤ nodes) (s : Step) (m : Among s (options F g v)) where
      rest_few : {c : ℕ} {f : ℕ → List Line} → Rest F g (onward s) c f → (length (f g) < plan.level v) × ((x : ℕ) → x ≢ g → length (f x) ≤ nodes)
      unfolding To
      rest_few (finished o _ e) = (rw (e g) (plan.level_low v lv uv), λ x d. rw (e x) (omega arith))
      rest_few (parted {a} {b} {p} {q} r o h i _ e) =
          let d = lower_parts F ok g v s m r o in
          let la = ok.left_more g a b r in let lb = ok.right_more g a b r in
          let t : Near F (Lower F plan v lv uv) v p × Near F (Lower F plan v lv uv) v q = rw o at (leads_lower F plan v lv uv g m) in
          let np = near_node F plan v lv uv p t.0 in let nq = near_node F plan v lv uv q t.1 in
          let fh = all a p (omega arith) np.0 np.1 h in
          let fi = all b q (omega arith) nq.0 nq.1 i in (
            rw (e g, none_below F ok (suc k) g a p (omega arith) h la, none_below F ok (suc k) g b q (omega arith) i lb) (plan.level_low v lv uv),
            λ x d. rw (e x, length-append (steps F h x) (steps F i x)) (by_bool (above a x)
                (λ t. rw (outside i x (not_both g a b x r t)) (omega (arith, fh.1 x)))
                (λ t. rw (outside h x t) (omega (arith, fi.1 x)))),
          )
      rest_few (gone {w} o h _ e) =
          let d = lower_move F ok g v s m o in
          let t : Lower F plan v lv uv w = rw o at (leads_lower F plan v lv uv g m) in
          let f = all g w (omega arith) t.0 t.1 h in
          (rw (e g) (omega arith), λ x d. rw (e x) (f.1 x))

    few : (k g v : ℕ) → depth F ok g v < k → 1 ≤ v → v ≤ nodes → (j : History F g v) → Few g v (steps F j)
    few zero g v l lv uv j = absurd (omega arith)
    few (suc k) g v l lv uv j =
        let r = begun F j in
        let t = rest_few k (few k) g v l lv uv r.step r.among r.rest_on in
        let u = plan.level_high v lv uv in
        let here : length (steps F j g) ≤ plan.level v = rw (r.tells g, own_here g v r.step) t.0 in
        (here, λ x. by_eq x g (λ e. rw e (omega arith)) (λ d. rw (r.tells x, own_not g v r.step x d) (t.1 x d)))

    -- a gene has at most one step for each node
    pub few_steps : {g v : ℕ} → 1 ≤ v → v ≤ nodes → (j : History F g v) → (x : ℕ) → length (steps F j x) ≤ nodes
    few_steps {g} {v} lv uv j x = (few (suc (depth F ok g v)) g v (omega arith) lv uv j).1 x

    -- so there are at most 16,129 lines
    pub few_lines : Limits F.nodes F.genes F.costs → {g v : ℕ} → 1 ≤ v → v ≤ nodes → (j : History F g v) → sum genes (λ x. length (steps F j x)) ≤ 16129
    few_lines lim lv uv j = le_trans (sum_bound genes nodes _ (λ x _ _. few_steps lv uv j x)) (le_trans (mul-le-mul lim.few_genes lim.few_nodes) (omega arith))
