-- The computed cost is the least cost of a history. Sound by induction on the fuel; no history is cheaper, by induction on the history, whose
-- gene and node go down; so the least costs satisfy the clauses as an equation.
-- Assumes nothing.
use Rattle.std.proofs.Common.{◌≡◌, refl, ap, ◌∙◌, subst, inl, inr, Bool, true, false, cond, ℕ, zero, suc, ◌+◌, ◌-◌, ◌≤◌, ◌<◌, arith}
use mathlib.Core.Option.{none, some}
use Rattle.finite.specs.Tests.{same}
use Rattle.finite.proofs.Tests.{is_same, same_is}
use Rattle.finite.proofs.Cases.{by_eq}
use Rattle.histories.specs.Histories.{Out, leaf, one, two, mixed, Gene, tip, pair, Family, Cost, Least, attained, nothing, LeastOverall, both, resting, parting, moving, ending, stepping, clauses, best, least, least_over, overall}
use Rattle.histories.specs.Histories.{History, rest, duplicate, speciate, speciate_lose, transfer_stay, transfer_part, transfer_lose, pass, cost}
use Rattle.histories.specs.inner.Grades.{Leads, Graded}
use Rattle.histories.proofs.Costs.{AtMost, within, Attains, nowhere, somewhere, left, right, at_then, at_both, meet, from_both, from_then, convey, reach, found, low, unique}

module _ (F : Family) where
  open F use {out, gene, costs}
  open costs use {duplication, transfer, loss}

  -- some history of gene g from node v costs c
  abbrev pub CostedBy : ℕ → ℕ → ℕ → Type 0
  CostedBy g v c = (h : History F g v) × (cost F h ≡ c)

  module _ (W : ℕ → ℕ → Cost) (sound : (g v : ℕ) → Attains (CostedBy g v) (W g v)) where
    event : (x g v a s b t : ℕ) → ((h : History F a s) (i : History F b t) → CostedBy g v (x + cost F h + cost F i)) → Attains (CostedBy g v) (both x (W a s) (W b t))
    event x g v a s b t f = from_both x (sound a s) (sound b t) (λ c d (h, p) (i, q). let r = f h i in (r.0, cc r.1))

    sound_resting : (g v s : ℕ) → gene g ≡ tip s → (A : Out) → out v ≡ A → Attains (CostedBy g v) (resting s A)
    unfolding resting cost
    sound_resting g v s k (leaf t) e = at (same s t) (same_is s t)
      where
        at : (q : Bool) → (q ≡ true → s ≡ t) → Attains (CostedBy g v) (cond q (some 0) none)
        at true f = somewhere (rest (k ∙ ap tip (f refl)) e, refl)
        at false f = nowhere
    sound_resting g v s k (one x) e = nowhere
    sound_resting g v s k (two x y) e = nowhere
    sound_resting g v s k (mixed x y) e = nowhere

    sound_parting : (g v a b : ℕ) → gene g ≡ pair a b → (A : Out) → out v ≡ A → Attains (CostedBy g v) (parting transfer (W a) (W b) v A)
    unfolding parting cost
    sound_parting g v a b k (leaf t) e = nowhere
    sound_parting g v a b k (one x) e = nowhere
    sound_parting g v a b k (two x y) e = meet
        (event 0 g v a x b y (λ h i. (speciate (inl k) e h i, omega arith)))
        (event 0 g v b x a y (λ h i. (speciate (inr k) e h i, omega arith)))
    sound_parting g v a b k (mixed x y) e = meet
        (meet (event transfer g v a y b v (λ h i. (transfer_stay (inl k) e h i, refl))) (event transfer g v b y a v (λ h i. (transfer_stay (inr k) e h i, refl))))
        (meet (event transfer g v a y b x (λ h i. (transfer_part (inl k) e h i, refl))) (event transfer g v b y a x (λ h i. (transfer_part (inr k) e h i, refl))))

    sound_ending : (g v : ℕ) (K : Gene) → gene g ≡ K → Attains (CostedBy g v) (ending duplication transfer W K v (out v))
    unfolding ending cost
    sound_ending g v (tip s) k = sound_resting g v s k (out v) refl
    sound_ending g v (pair a b) k = meet (event duplication g v a v b v (λ h i. (duplicate k h i, refl))) (sound_parting g v a b k (out v) refl)

    sound_moving : (g v : ℕ) (A : Out) → out v ≡ A → Attains (CostedBy g v) (moving transfer loss (W g) A)
    unfolding moving cost
    sound_moving g v (leaf t) e = nowhere
    sound_moving g v (one x) e = from_then 0 (sound g x) (λ c (h, p). (pass (inl e) h, omega arith))
    sound_moving g v (two x y) e = meet (from_then loss (sound g x) (λ c (h, p). (speciate_lose (inl e) h, cc))) (from_then loss (sound g y) (λ c (h, p). (speciate_lose (inr e) h, cc)))
    sound_moving g v (mixed x y) e = meet (from_then (transfer + loss) (sound g y) (λ c (h, p). (transfer_lose e h, cc))) (from_then 0 (sound g x) (λ c (h, p). (pass (inr (y, e)) h, omega arith)))

    sound_clauses : (g v : ℕ) → Attains (CostedBy g v) (clauses F W g v)
    unfolding clauses stepping
    sound_clauses g v = meet (sound_ending g v (gene g) refl) (sound_moving g v (out v) refl)

  -- a finite cost is that of a history
  pub sound : (k g v : ℕ) → Attains (CostedBy g v) (best F k g v)
  unfolding best
  sound zero g v = nowhere
  sound (suc k) g v = sound_clauses (best F k) (sound k) g v

  same_species : (s : ℕ) → AtMost 0 (cond (same s s) (some 0) none)
  same_species s = rw (is_same {m = s} refl) (within {a = 0} (omega arith))

  module _ (ok : Graded F) where
    open ok use {height, height_le}

    -- what is left of a gene and a node to go down
    depth : ℕ → ℕ → ℕ
    depth g v = (F.genes - g) + height v

    ends : {v : ℕ} {A : Out} → out v ≡ A → Leads (λ x. height x < height v) A
    ends {v} e = subst (Leads (λ x. height x < height v)) e (ok.falls v)

    pub one_end : {v x : ℕ} → out v ≡ one x → height x < height v
    unfolding Leads
    one_end e = ends e

    pub two_ends : {v x y : ℕ} → out v ≡ two x y → (height x < height v) × (height y < height v)
    unfolding Leads
    two_ends e = ends e

    pub mixed_ends : {v x y : ℕ} → out v ≡ mixed x y → (height x < height v) × (height y < height v)
    unfolding Leads
    mixed_ends e = ends e

    Lower : ℕ → ℕ → ℕ → Type 0
    Lower g a b = (F.genes - a < F.genes - g) × (F.genes - b < F.genes - g)

    lower : {g a b : ℕ} → gene g ≡ pair a b → Lower g a b
    unfolding Lower
    lower {g} {a} {b} e = let la = ok.left_more g a b e in let lb = ok.right_more g a b e in let ia = ok.left_in g a b e in let ib = ok.right_in g a b e in
        (omega arith, omega arith)

    -- no history costs less
    complete : (k : ℕ) {g v : ℕ} → depth g v < k → (h : History F g v) → AtMost (cost F h) (best F k g v)
    unfolding best clauses stepping ending resting parting moving cost depth Lower
    complete zero p h = absurd (omega arith)
    complete (suc k) p (rest {s} e a) = left _ (rw (e, a) (same_species s))
    complete (suc k) p (duplicate e h i) =
        let l = lower e in
        left _ (rw e (left _ (at_both duplication (complete k (omega arith) h) (complete k (omega arith) i) (omega arith))))
    complete (suc k) p (speciate (inl e) a h i) =
        let l = lower e in let m = two_ends a in
        left _ (rw (e, a) (right _ (left _ (at_both 0 (complete k (omega arith) h) (complete k (omega arith) i) (omega arith)))))
    complete (suc k) p (speciate (inr e) a h i) =
        let l = lower e in let m = two_ends a in
        left _ (rw (e, a) (right _ (right _ (at_both 0 (complete k (omega arith) h) (complete k (omega arith) i) (omega arith)))))
    complete (suc k) p (speciate_lose (inl a) h) = let m = two_ends a in right _ (rw a (left _ (at_then loss (complete k (omega arith) h) (omega arith))))
    complete (suc k) p (speciate_lose (inr a) h) = let m = two_ends a in right _ (rw a (right _ (at_then loss (complete k (omega arith) h) (omega arith))))
    complete (suc k) p (transfer_stay (inl e) a h i) =
        let l = lower e in let m = mixed_ends a in
        left _ (rw (e, a) (right _ (left _ (left _ (at_both transfer (complete k (omega arith) h) (complete k (omega arith) i) (omega arith))))))
    complete (suc k) p (transfer_stay (inr e) a h i) =
        let l = lower e in let m = mixed_ends a in
        left _ (rw (e, a) (right _ (left _ (right _ (at_both transfer (complete k (omega arith) h) (complete k (omega arith) i) (omega arith))))))
    complete (suc k) p (transfer_part (inl e) a h i) =
        let l = lower e in let m = mixed_ends a in
        left _ (rw (e, a) (right _ (right _ (left _ (at_both transfer (complete k (omega arith) h) (complete k (omega arith) i) (omega arith))))))
    complete (suc k) p (transfer_part (inr e) a h i) =
        let l = lower e in let m = mixed_ends a in
        left _ (rw (e, a) (right _ (right _ (right _ (at_both transfer (complete k (omega arith) h) (complete k (omega arith) i) (omega arith))))))
    complete (suc k) p (transfer_lose a h) = let m = mixed_ends a in right _ (rw a (left _ (at_then (transfer + loss) (complete k (omega arith) h) (omega arith))))
    complete (suc k) p (pass (inl a) h) = let m = one_end a in right _ (rw a (at_then 0 (complete k (omega arith) h) (omega arith)))
    complete (suc k) p (pass (inr y) h) = let m = mixed_ends y.1 in right _ (rw y.1 (right _ (at_then 0 (complete k (omega arith) h) (omega arith))))

    enough : (g v : ℕ) → depth g v < suc (F.genes + F.nodes)
    unfolding depth
    enough g v = omega (arith, height_le v)

    least_at_most : {g v : ℕ} (h : History F g v) → AtMost (cost F h) (least F g v)
    unfolding least
    least_at_most {g} {v} h = complete (suc (F.genes + F.nodes)) (enough g v) h

    pub least_sound : (g v : ℕ) → Attains (CostedBy g v) (least F g v)
    unfolding least
    least_sound g v = sound (suc (F.genes + F.nodes)) g v

    -- the computed cost is the least: attained by a history, or there is none
    pub is_least : (g v : ℕ) → Least F g v (least F g v)
    is_least g v = go (least_sound g v) (λ h. least_at_most h)
      where
        go : {a : Cost} → Attains (CostedBy g v) a → ((h : History F g v) → AtMost (cost F h) a) → Least F g v a
        go nowhere f = nothing (λ h. elim (f h) [ ])
        go (somewhere p) f = attained p.0 p.1 (λ i. low (f i))

    -- the least costs satisfy the clauses as an equation: what fills the table
    pub equation : (g v : ℕ) → least F g v ≡ clauses F (least F) g v
    unfolding least best
    equation g v = unique (sound full g v) (at full (enough g v)) (sound (suc full) g v) (at (suc full) (omega (arith, enough g v)))
      where
        full : ℕ
        full = suc (F.genes + F.nodes)

        at : (k : ℕ) → depth g v < k → (c : ℕ) → CostedBy g v c → AtMost c (best F k g v)
        at k p c (h, e) = rw (← e) (complete k p h)

    -- the same of gene g starting at any of the nodes 1..k
    over_sound : (g k : ℕ) → Attains (λ c. (v : ℕ) × (1 ≤ v) × (v ≤ k) × CostedBy g v c) (least_over k (least F g))
    unfolding least_over
    over_sound g zero = nowhere
    over_sound g (suc k) = meet (convey (over_sound g k) (λ c (v, l, u, p). (v, l, omega arith, p))) (convey (least_sound g (suc k)) (λ c p. (suc k, omega arith, omega arith, p)))

    over_at_most : (g k v : ℕ) → 1 ≤ v → v ≤ k → (h : History F g v) → AtMost (cost F h) (least_over k (least F g))
    unfolding least_over
    over_at_most g zero v l u h = absurd (omega arith)
    over_at_most g (suc k) v l u h = by_eq v (suc k)
        (λ e. right _ (rw (← e) (least_at_most h)))
        (λ d. left _ (over_at_most g k v l (omega arith) h))

    -- a finite least over all starting nodes is the least over all histories of gene 1
    pub is_overall : (c : ℕ) → overall F ≡ some c → LeastOverall F c
    unfolding overall
    is_overall c e =
        let r = reach (over_sound 1 F.nodes) c e in
        record {
          start = r.0;
          start_low = r.1;
          start_high = r.2;
          history = r.3.0;
          attains = r.3.1;
          cheapest = λ v l u h. low (rw e at (over_at_most 1 F.nodes v l u h));
        }

    -- a history of gene 1 gives a finite least, no more than its cost
    pub overall_at_most : (v : ℕ) → 1 ≤ v → v ≤ F.nodes → (h : History F 1 v) → (c : ℕ) × (overall F ≡ some c) × (c ≤ cost F h)
    unfolding overall
    overall_at_most v l u h = found (over_at_most 1 F.nodes v l u h)
