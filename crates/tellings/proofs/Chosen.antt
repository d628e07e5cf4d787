-- The chosen steps are those of a cheapest history, and no cheapest history comes before it. At a gene and a node a cheapest history begins with a step
-- that attains the least cost and goes on with cheapest histories; the chosen step is the same or sooner.
-- Assumes nothing.
use Rattle.std.proofs.Common.{◌≡◌, refl, sym, ap, ◌∙◌, inl, inr, true, List, [], ◌++◌, ℕ, zero, suc, ◌+◌, ◌-◌, ◌≤◌, ◌<◌, arith}
use mathlib.Core.Option.{none, some}
use Rattle.finite.proofs.Tests.{is_same, not_same, same_is}
use Rattle.histories.specs.Histories.{Gene, tip, pair, Family, Cost, Least, attained, nothing, ◌⊕◌, then as added, least, History, cost}
use Rattle.histories.specs.inner.Grades.{Graded}
use Rattle.tellings.specs.Steps.{Step, step_cost, Line, own, steps, Sooner, here, NotAfter, alike, earlier}
use Rattle.tellings.specs.Chosen.{options, Onward, ends, splits, goes, onward, beyond, total, same_cost, choice, after, follow, chosen}
use Rattle.histories.proofs.Costs.{reach}
use Rattle.histories.proofs.Least.{CostedBy, least_sound, is_least}
use Rattle.tellings.proofs.Leads.{Near, To, leads}
use Rattle.tellings.proofs.Options.{Among, each_of, Made, Makes, Able, make, Rest, finished, parted, gone, Begun, begun}
use Rattle.tellings.proofs.Picks.{Upto, Picked, picked, merge, not_after_same}

-- a test on costs
pub same_costs : (a b : Cost) → a ≡ b → same_cost a b ≡ true
unfolding same_cost
same_costs none b e = rw (← e)
same_costs (some a) b e = rw (← e) (is_same {m = a} refl)

pub costs_same : (a b : Cost) → same_cost a b ≡ true → a ≡ b
unfolding same_cost
costs_same none none e = refl
costs_same none (some b) e = let z : ◌≡◌ {A = ℕ} 0 1 = cc in absurd (omega arith)
costs_same (some a) none e = let z : ◌≡◌ {A = ℕ} 0 1 = cc in absurd (omega arith)
costs_same (some a) (some b) e = ap some (same_is a b e)

-- finite costs, taken apart
pub of_move : (x : ℕ) (a : Cost) (c : ℕ) → added x a ≡ some c → (d : ℕ) × (a ≡ some d) × (c ≡ x + d)
unfolding added ◌⊕◌
of_move x none c e = let z : ◌≡◌ {A = ℕ} 0 1 = cc in absurd (omega arith)
of_move x (some d) c e = (d, refl, cc)

pub of_parts : (x : ℕ) (a b : Cost) (c : ℕ) → added x (a ⊕ b) ≡ some c → (d e : ℕ) × (a ≡ some d) × (b ≡ some e) × (c ≡ x + (d + e))
unfolding added ◌⊕◌
of_parts x none b c e = let z : ◌≡◌ {A = ℕ} 0 1 = cc in absurd (omega arith)
of_parts x (some d) none c e = let z : ◌≡◌ {A = ℕ} 0 1 = cc in absurd (omega arith)
of_parts x (some d) (some f) c e = (d, f, refl, refl, cc)

module _ (F : Family) where
  open F use {out, gene}

  -- histories for what follows make one
  module _ (g v : ℕ) (s : Step) (m : Among s (options F g v)) where
    made : Makes F g v s (gene g) (onward s)
    made = each_of (Able F g v (gene g)) (make F g v) m

    pub made_end : onward s ≡ ends → Made F g v s 0 (λ x. [])
    unfolding Makes
    made_end o = rw o at made

    pub made_parts : {a b p q : ℕ} → gene g ≡ pair a b → onward s ≡ splits p q → (h : History F a p) (i : History F b q) → Made F g v s (cost F h + cost F i) (λ x. steps F h x ++ steps F i x)
    unfolding Makes
    made_parts k o = rw (k, o) at made

    pub made_move : {w : ℕ} → onward s ≡ goes w → (h : History F g w) → Made F g v s (cost F h) (steps F h)
    unfolding Makes
    made_move o = rw o at made

  module _ (ok : Graded F) where
    open ok use {height, height_le}

    -- a least cost is that of a history, and no history costs less
    pub at_cost : (g v c : ℕ) → least F g v ≡ some c → CostedBy F g v c
    at_cost g v c e = reach (least_sound F ok g v) c e

    pub finite : {g v : ℕ} (i : History F g v) → (d : ℕ) × (least F g v ≡ some d) × (d ≤ cost F i)
    finite {g} {v} i = by (is_least F ok g v)
      where
        by : {a : Cost} → Least F g v a → (d : ℕ) × (a ≡ some d) × (d ≤ cost F i)
        by (attained {c} h e f) = (c, refl, f i)
        by (nothing n) = absurd (n i)

    pub not_less : {g v : ℕ} (c : ℕ) → least F g v ≡ some c → (i : History F g v) → c ≤ cost F i
    not_less c e i = let q = finite i in let r : some c ≡ some q.0 = sym e ∙ q.1 in let z : c ≡ q.0 = cc in omega (arith, q.2)

    -- the parts of a cheapest history are cheapest
    module _ (g v : ℕ) (s : Step) (m : Among s (options F g v)) where
      pub tight_parts : {a b p q : ℕ} → gene g ≡ pair a b → onward s ≡ splits p q → (h : History F a p) (i : History F b q) → least F g v ≡ some (step_cost F.costs s + (cost F h + cost F i))
          → (least F a p ≡ some (cost F h)) × (least F b q ≡ some (cost F i))
      tight_parts {a} {b} {p} {q} k o h i e =
          let x = finite h in
          let y = finite i in
          let h₂ = at_cost a p x.0 x.1 in
          let i₂ = at_cost b q y.0 y.1 in
          let j = made_parts g v s m k o h₂.0 i₂.0 in
          let l = not_less (step_cost F.costs s + (cost F h + cost F i)) e j.0 in
          (x.1 ∙ ap some (omega arith), y.1 ∙ ap some (omega arith))

      pub tight_move : {w : ℕ} → onward s ≡ goes w → (h : History F g w) → least F g v ≡ some (step_cost F.costs s + cost F h) → least F g w ≡ some (cost F h)
      tight_move {w} o h e =
          let x = finite h in
          let h₂ = at_cost g w x.0 x.1 in
          let j = made_move g v s m o h₂.0 in
          let l = not_less (step_cost F.costs s + cost F h) e j.0 in
          x.1 ∙ ap some (omega arith)

      -- the step of a cheapest history attains the least cost
      pub attains : {c : ℕ} {f : ℕ → List Line} → Rest F g (onward s) c f → least F g v ≡ some (step_cost F.costs s + c) → total F (least F) g s ≡ least F g v
      unfolding total beyond added ◌⊕◌
      attains (finished o z _) e = rw (o, e, z)
      attains (parted k o h i z _) e = let t = tight_parts k o h i (rw z at e) in rw (o, k, t.0, t.1, e, z)
      attains (gone o h z _) e = let t = tight_move o h (rw z at e) in rw (o, t, e, z)

    -- what is left of a gene and a node to go down
    abbrev pub depth : ℕ → ℕ → ℕ
    depth g v = (F.genes - g) + height v

    module _ (g v : ℕ) (s : Step) (m : Among s (options F g v)) where
      pub lower_move : {w : ℕ} → onward s ≡ goes w → depth g w < depth g v
      unfolding To
      lower_move {w} o = let h : height w < height v = rw o at (leads F (λ x. height x < height v) v g (ok.falls v) m) in omega arith

      near : (p : ℕ) → Near F (λ x. height x < height v) v p → height p ≤ height v
      near p (inl e) = rw e (omega arith)
      near p (inr l) = omega arith

      pub lower_parts : {a b p q : ℕ} → gene g ≡ pair a b → onward s ≡ splits p q → (depth a p < depth g v) × (depth b q < depth g v)
      unfolding To
      lower_parts {a} {b} {p} {q} k o =
          let h : Near F (λ x. height x < height v) v p × Near F (λ x. height x < height v) v q = rw o at (leads F (λ x. height x < height v) v g (ok.falls v) m) in
          let l = near p h.0 in
          let r = near q h.1 in
          let la = ok.left_more g a b k in let lb = ok.right_more g a b k in let ia = ok.left_in g a b k in let ib = ok.right_in g a b k in
          (omega arith, omega arith)

    -- the steps chosen are those of a history that costs c
    abbrev Exists : (k g v c : ℕ) → Type 0
    Exists k g v c = (j : History F g v) × (cost F j ≡ c) × ((x : ℕ) → steps F j x ≡ chosen F k g v x)

    module _ (k : ℕ) (all : (g v c : ℕ) → depth g v < k → least F g v ≡ some c → Exists k g v c) (g v c : ℕ) (l : depth g v < suc k) (s : Step) (m : Among s (options F g v)) (is : choice F (least F) g v ≡ some s) where
      by_choice : (K : Gene) → gene g ≡ K → (o : Onward) → onward s ≡ o → added (step_cost F.costs s) (beyond (least F) g K o) ≡ some c → Exists (suc k) g v c
      unfolding beyond chosen follow after added ◌⊕◌
      by_choice K q ends o t = let j = made_end g v s m o in (j.0, cc, λ x. j.2 x ∙ rw (is, o))
      by_choice (tip u) q (splits y z) o t = let z : ◌≡◌ {A = ℕ} 0 1 = cc in absurd (omega arith)
      by_choice (pair a b) q (splits y z) o t =
          let r = of_parts (step_cost F.costs s) (least F a y) (least F b z) c t in
          let d = lower_parts g v s m q o in
          let h = all a y r.0 (omega arith) r.2 in
          let i = all b z r.1 (omega arith) r.3 in
          let j = made_parts g v s m q o h.0 i.0 in
          (j.0, omega arith, λ x. j.2 x ∙ rw (is, o, q, h.2 x, i.2 x))
      by_choice K q (goes w) o t =
          let r = of_move (step_cost F.costs s) (least F g w) c t in
          let d = lower_move g v s m o in
          let h = all g w r.0 (omega arith) r.1 in
          let j = made_move g v s m o h.0 in
          (j.0, omega arith, λ x. j.2 x ∙ rw (is, o, h.2 x))

    -- the choice at a gene and a node from which there is a cheapest history that begins with s
    pub chooses : (g v : ℕ) (j : History F g v) → least F g v ≡ some (cost F j) → (b : Begun F g v j) → Picked (λ s. same_cost (total F (least F) g s) (least F g v)) (options F g v) (choice F (least F) g v) b.step
    unfolding choice
    chooses g v j e b = picked (λ s. same_cost (total F (least F) g s) (least F g v)) b.among (same_costs _ _ (attains g v b.step b.among b.rest_on (e ∙ ap some b.costs)))

    pub exists : (k g v c : ℕ) → depth g v < k → least F g v ≡ some c → Exists k g v c
    unfolding total
    exists zero g v c l e = absurd (omega arith)
    exists (suc k) g v c l e =
        let h = at_cost g v c e in
        let r = chooses g v h.0 (e ∙ ap some (sym h.1)) (begun F h.0) in
        by_choice k (exists k) g v c l r.it r.among r.is (gene g) refl (onward r.it) refl (costs_same _ _ r.passing ∙ e)

    -- a history of gene g has no steps of lower genes
    module _ (k x : ℕ) (all : (g v : ℕ) → depth g v < k → (j : History F g v) → x < g → steps F j x ≡ []) (g v : ℕ) (l : depth g v < suc k) (s : Step) (m : Among s (options F g v)) (b : x < g) where
      rest_none : {c : ℕ} {f : ℕ → List Line} → Rest F g (onward s) c f → f x ≡ []
      rest_none (finished o _ e) = e x
      rest_none (parted {a} {b = a₂} {p} {q = p₂} q o h i _ e) =
          let d = lower_parts g v s m q o in
          let la = ok.left_more g a a₂ q in let lb = ok.right_more g a a₂ q in
          e x ∙ rw (all a p (omega arith) h (omega arith), all a₂ p₂ (omega arith) i (omega arith))
      rest_none (gone {w} o h _ e) = let d = lower_move g v s m o in e x ∙ all g w (omega arith) h b

    pub none_below : (k x g v : ℕ) → depth g v < k → (j : History F g v) → x < g → steps F j x ≡ []
    unfolding own
    none_below zero x g v l j b = absurd (omega arith)
    none_below (suc k) x g v l j b =
        let r = begun F j in
        r.tells x ∙ rw (not_same {m = x} {n = g} (omega arith)) (rest_none k x (none_below k x) g v l r.step r.among b r.rest_on)

    module _ (k : ℕ) (all : (g v : ℕ) → depth g v < k → (j : History F g v) → least F g v ≡ some (cost F j) → NotAfter (chosen F k g v) (steps F j)) (g v : ℕ) (l : depth g v < suc k) (j : History F g v) (s : Step) (m : Among s (options F g v)) where
      -- the chosen step is the history's own
      same_step : {c : ℕ} {f : ℕ → List Line} → choice F (least F) g v ≡ some s → Rest F g (onward s) c f → least F g v ≡ some (step_cost F.costs s + c) → ((x : ℕ) → steps F j x ≡ own g v s x ++ f x)
          → NotAfter (chosen F (suc k) g v) (steps F j)
      unfolding chosen follow after
      same_step is (finished o _ e) q tells = alike (λ x. rw (is, o, tells x, e x))
      same_step is (parted {a} {b} {p} {q = r} n o h i z e) q tells =
          let d = lower_parts g v s m n o in
          let t = tight_parts g v s m n o h i (rw z at q) in
          not_after_same (chosen F (suc k) g v) (steps F j) (λ x. rw (is, o, n)) (λ x. tells x ∙ rw (e x))
          (merge {f = own g v s} {k = own g v s} (alike (λ x. refl)) (merge (all a p (omega arith) h t.0) (all b r (omega arith) i t.1)))
      same_step is (gone {w} o h z e) q tells =
          let d = lower_move g v s m o in
          let t = tight_move g v s m o h (rw z at q) in
          not_after_same (chosen F (suc k) g v) (steps F j) (λ x. rw (is, o)) (λ x. tells x ∙ rw (e x)) (merge {f = own g v s} {k = own g v s} (alike (λ x. refl)) (all g w (omega arith) h t))

      -- the chosen step is sooner
      sooner_step : (f : ℕ → List Line) (t : Step) → choice F (least F) g v ≡ some t → Sooner t s → least F g v ≡ some (cost F j) → ((x : ℕ) → steps F j x ≡ own g v s x ++ f x) → NotAfter (chosen F (suc k) g v) (steps F j)
      unfolding chosen follow own
      sooner_step f t is u q tells =
          let i = exists (suc k) g v (cost F j) l q in
          earlier g (λ y b. sym (i.2 y) ∙ none_below (suc k) y g v l i.0 b ∙ sym (none_below (suc k) y g v l j b)) (rw (tells g, is, is_same {m = g} refl) (here u))

    -- the steps chosen are not after those of a cheapest history
    pub not_after : (k g v : ℕ) → depth g v < k → (j : History F g v) → least F g v ≡ some (cost F j) → NotAfter (chosen F k g v) (steps F j)
    not_after zero g v l j e = absurd (omega arith)
    not_after (suc k) g v l j e = let b = begun F j in let r = chooses g v j e b in at b r.it r.is r.upto (not_after k)
      where
        at : (b : Begun F g v j) (t : Step) → choice F (least F) g v ≡ some t → Upto t b.step
            → ((g v : ℕ) → depth g v < k → (j : History F g v) → least F g v ≡ some (cost F j) → NotAfter (chosen F k g v) (steps F j)) → NotAfter (chosen F (suc k) g v) (steps F j)
        at b t is (inl u) all = same_step k all g v l j b.step b.among (is ∙ ap some u) b.rest_on (e ∙ ap some b.costs) b.tells
        at b t is (inr u) all = sooner_step k all g v l j b.step b.among b.steps_on t is u e b.tells
