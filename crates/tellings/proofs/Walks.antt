-- Walking gene by gene tells the chosen history: a gene's steps depend on where it starts alone, and its start is settled by its parent's last step.
-- Assumes nothing.
use Rattle.std.proofs.Common.{◌≡◌, refl, sym, ap, ◌∙◌, ◌≢◌, ◌⊎◌, inl, inr, true, false, List, [], ◌∷◌, ◌++◌, append-nil, ℕ, zero, suc, ◌≤◌, ◌<◌, arith}
use mathlib.Core.Option.{Option, none, some}
use Rattle.finite.proofs.Cases.{by_eq, by_bool, clash}
use Rattle.topology.proofs.Climbing.{over_low, over_child}
use Rattle.histories.specs.Histories.{Family, Out, leaf, one, two, mixed, Gene, tip, pair, ◌⊕◌, then as added, least}
use Rattle.histories.specs.inner.Grades.{Graded}
use Rattle.tellings.specs.inner.Lineages.{Lineage}
use Rattle.tellings.specs.Steps.{Step, duplicates, step_cost, Line, line, own}
use Rattle.tellings.specs.Chosen.{moves, partings, endings, options, Onward, ends, splits, goes, onward, beyond, total, same_cost, choice, after, follow, chosen}
use Rattle.tellings.specs.inner.Walks.{Each, unless_gone, line_then, last_of, walk_in, leave_in, walk, leave}
use Rattle.tellings.proofs.Options.{Among, each_of, each_both, begun}
use Rattle.tellings.proofs.Picks.{sound as pick-sound}
use Rattle.tellings.proofs.Chosen.{costs_same, at_cost, exists, chooses, depth, lower_move, lower_parts, none_below, of_move, of_parts}
use Rattle.tellings.proofs.Told.{own_here, own_not, above, not_both, outside}

-- something follows a step
unfoldable Continues : Onward → Type 0
Continues ends = ⊥
Continues (splits p q) = Unit {0}
Continues (goes w) = Unit {0}

move_on : (A : Out) → Each (λ s. Continues (onward s)) (moves A)
unfolding Each Continues onward moves
move_on (leaf t) = tt
move_on (one x) = (tt, tt)
move_on (two x y) = (tt, (tt, tt))
move_on (mixed x y) = (tt, (tt, tt))

parting_on : (v : ℕ) (A : Out) → Each (λ s. Continues (onward s)) (partings v A)
unfolding Each Continues onward partings
parting_on v (leaf t) = tt
parting_on v (one x) = tt
parting_on v (two x y) = (tt, (tt, tt))
parting_on v (mixed x y) = (tt, (tt, (tt, (tt, tt))))

module _ (F : Family) (ok : Graded F) where
  open F use {gene, genes, nodes}
  open ok use {height, height_le}

  -- a chosen step is open
  chosen_among : (g v : ℕ) (s : Step) → choice F (least F) g v ≡ some s → Among s (options F g v)
  unfolding choice
  chosen_among g v s e = (pick-sound (λ s. same_cost (total F (least F) g s) (least F g v)) (options F g v) s e).0

  -- what follows a chosen step, where the gene moves on, is by lower nodes alone
  module _ {A : Type 0} (e : Onward → A) (f k : ℕ → A) (g v : ℕ) (same : (w : ℕ) → height w < height v → f w ≡ k w) where
    same_on : (s : Step) → Among s (options F g v) → (o : Onward) → onward s ≡ o → unless_gone e f o ≡ unless_gone e k o
    unfolding unless_gone
    same_on s m ends q = refl
    same_on s m (splits x y) q = refl
    same_on s m (goes w) q = let l = lower_move F ok g v s m q in same w (omega arith)

  same_line : (f k : ℕ → List Line) (g v : ℕ) → ((w : ℕ) → height w < height v → f w ≡ k w) → (o : Option Step) → choice F (least F) g v ≡ o → line_then f v o ≡ line_then k v o
  unfolding line_then
  same_line f k g v e none q = refl
  same_line f k g v e (some s) q = ap (λ (l : List Line). line v s ∷ l) (same_on (λ o. []) f k g v e s (chosen_among g v s q) (onward s) refl)

  same_last : (f k : ℕ → Onward) (g v : ℕ) → ((w : ℕ) → height w < height v → f w ≡ k w) → (o : Option Step) → choice F (least F) g v ≡ o → last_of f o ≡ last_of k o
  unfolding last_of
  same_last f k g v e none q = refl
  same_last f k g v e (some s) q = same_on (λ o. o) f k g v e s (chosen_among g v s q) (onward s) refl

  -- of what is computed along the moves of a gene, with fuel: enough fuel is enough, so it is given by itself at where the gene moves on to
  module _ {A : Type 0} (climb : (k g v : ℕ) → A) (turn : (ℕ → A) → ℕ → Option Step → A)
      (more : (k g v : ℕ) → climb (suc k) g v ≡ turn (climb k g) v (choice F (least F) g v))
      (same : (f k : ℕ → A) (g v : ℕ) → ((w : ℕ) → height w < height v → f w ≡ k w) → (o : Option Step) → choice F (least F) g v ≡ o → turn f v o ≡ turn k v o) where
    fuel : (k r g v : ℕ) → height v < k → height v < r → climb k g v ≡ climb r g v
    fuel zero r g v l u = absurd (omega arith)
    fuel (suc k) zero g v l u = absurd (omega arith)
    fuel (suc k) (suc r) g v l u = more k g v ∙ same (climb k g) (climb r g) g v (λ w h. fuel k r g w (omega arith) (omega arith)) (choice F (least F) g v) refl ∙ sym (more r g v)

    climb_eq : (g v : ℕ) → climb (suc nodes) g v ≡ turn (climb (suc nodes) g) v (choice F (least F) g v)
    climb_eq g v = fuel (suc nodes) (suc (suc nodes)) g v (omega (arith, height_le v)) (omega (arith, height_le v)) ∙ more (suc nodes) g v

  -- the equations of a walk, as a loop takes them
  walk_suc : (k g v : ℕ) → walk_in F (suc k) g v ≡ line_then (walk_in F k g) v (choice F (least F) g v)
  unfolding walk_in
  walk_suc k g v = refl

  leave_suc : (k g v : ℕ) → leave_in F (suc k) g v ≡ last_of (leave_in F k g) (choice F (least F) g v)
  unfolding leave_in
  leave_suc k g v = refl

  pub walk_eq : (g v : ℕ) → walk F g v ≡ line_then (walk F g) v (choice F (least F) g v)
  unfolding walk
  walk_eq = climb_eq (walk_in F) line_then walk_suc same_line

  pub leave_eq : (g v : ℕ) → leave F g v ≡ last_of (leave F g) (choice F (least F) g v)
  unfolding leave
  leave_eq = climb_eq (leave_in F) (λ f v. last_of f) leave_suc same_last

  -- by the step taken
  module _ (g v : ℕ) (s : Step) (is : choice F (least F) g v ≡ some s) where
    pub walk_step : walk F g v ≡ line v s ∷ unless_gone (λ o. []) (walk F g) (onward s)
    unfolding line_then
    walk_step = walk_eq g v ∙ rw is

    pub leave_step : leave F g v ≡ unless_gone (λ o. o) (leave F g) (onward s)
    unfolding last_of
    leave_step = leave_eq g v ∙ rw is

    pub walk_ends : onward s ≡ ends → walk F g v ≡ line v s ∷ []
    unfolding unless_gone
    walk_ends o = walk_step ∙ rw o

    pub walk_splits : {p q : ℕ} → onward s ≡ splits p q → walk F g v ≡ line v s ∷ []
    unfolding unless_gone
    walk_splits o = walk_step ∙ rw o

    pub walk_goes : {w : ℕ} → onward s ≡ goes w → walk F g v ≡ line v s ∷ walk F g w
    unfolding unless_gone
    walk_goes o = walk_step ∙ rw o

    pub leave_splits : {p q : ℕ} → onward s ≡ splits p q → leave F g v ≡ splits p q
    unfolding unless_gone
    leave_splits o = leave_step ∙ rw o

    pub leave_goes : {w : ℕ} → onward s ≡ goes w → leave F g v ≡ leave F g w
    unfolding unless_gone
    leave_goes o = leave_step ∙ rw o

  -- only leaf genes rest
  pub pair_goes_on : (g v a b : ℕ) (s : Step) → gene g ≡ pair a b → Among s (options F g v) → onward s ≡ ends → ⊥
  unfolding options endings Each Continues onward
  pair_goes_on g v a b s k m o =
      let t : Among s ((duplicates v ∷ partings v (F.out v)) ++ moves (F.out v)) = rw k at m in
      let r : Continues (onward s) = each_of (λ s. Continues (onward s)) (each_both (λ s. Continues (onward s)) (duplicates v ∷ partings v (F.out v)) (moves (F.out v)) (tt, parting_on v (F.out v)) (move_on (F.out v))) t in
      rw o at r

  module _ (tree : Lineage F) (T : ℕ → ℕ) where
    -- the table has where the children of g start, when g starts at v
    unfoldable pub Fits : (g v : ℕ) → Type 0
    Fits g v = (a b p q : ℕ) → gene g ≡ pair a b → leave F g v ≡ splits p q → (T a ≡ p) × (T b ≡ q)

    -- a gene below g is below a child of g
    by_child : (g x : ℕ) → 1 ≤ g → x ≤ genes → above F ok tree g x ≡ true → x ≢ g → (a b : ℕ) × (gene g ≡ pair a b) × ((above F ok tree a x ≡ true) ⊎ (above F ok tree b x ≡ true))
    by_child g x lg ux t d =
        let c = over_child (λ y. y) tree.up tree.falls g x t (λ e. d (sym e)) in
        let l : g < c.0 = rw c.2 at (tree.falls.fall c.0 c.1) in
        let u : c.0 ≤ x = by_eq c.0 x (λ e. omega arith) (λ e. omega (arith, over_low (λ y. y) tree.up tree.falls c.0 x c.3 e)) in
        let r = tree.child c.0 (omega arith) (omega arith) in
        (r.0, r.1, rw c.2 at r.2, which r.0 r.1 c.0 c.3 r.3)
      where
        which : (a b c : ℕ) → above F ok tree c x ≡ true → (c ≡ a) ⊎ (c ≡ b) → (above F ok tree a x ≡ true) ⊎ (above F ok tree b x ≡ true)
        which a b c t (inl e) = inl (rw e at t)
        which a b c t (inr e) = inr (rw e at t)

    -- the steps of gene x are its walk from where it starts
    unfoldable pub Tells : (g v x : ℕ) → List Line → Type 0
    Tells g v x l = (x ≡ g → l ≡ walk F g v) × (x ≢ g → l ≡ walk F x (T x))

    module _ (settled : (y : ℕ) → 1 ≤ y → y ≤ genes → Fits y (T y)) (x : ℕ) (ux : x ≤ genes) where
      abbrev Below : (k g v c : ℕ) → Type 0
      Below k g v c = depth F ok g v < k → 1 ≤ g → g ≤ genes → least F g v ≡ some c → Fits g v → above F ok tree g x ≡ true → Tells g v x (chosen F k g v x)

      module _ (k : ℕ) (all : (g v c : ℕ) → Below k g v c) (g v c : ℕ) (l : depth F ok g v < suc k) (lg : 1 ≤ g) (ug : g ≤ genes) (fits : Fits g v) (up : above F ok tree g x ≡ true) (s : Step) (m : Among s (options F g v)) (is : choice F (least F) g v ≡ some s) where
        -- what the choice comes to
        unfolds : chosen F (suc k) g v x ≡ own g v s x ++ after (chosen F k) g (gene g) (onward s) x
        unfolding chosen follow
        unfolds = rw is

        at_end : onward s ≡ ends → Tells g v x (chosen F (suc k) g v x)
        unfolding Tells after
        at_end o = (
          λ e. unfolds ∙ rw (o, e, own_here g v s) (sym (walk_ends g v s is o)),
          λ d. let r = by_child g x lg ux up d in absurd (pair_goes_on g v r.0 r.1 s r.2 m o),
        )

        at_move : {w : ℕ} → onward s ≡ goes w → (d : ℕ) → least F g w ≡ some d → Tells g v x (chosen F (suc k) g v x)
        unfolding Tells after Fits
        at_move {w} o d e =
            let q = lower_move F ok g v s m o in
            let r = all g w d (omega arith) lg ug e (λ a b p q k z. fits a b p q k (leave_goes g v s is o ∙ z)) up in
            (λ z. unfolds ∙ rw (o, r.0 z, z, own_here g v s) (sym (walk_goes g v s is o)), λ z. unfolds ∙ rw (o, own_not g v s x z) (r.1 z))

        -- a child's steps, its genes' and the other child's
        from_child : (a p d : ℕ) → depth F ok a p < k → 1 ≤ a → a ≤ genes → least F a p ≡ some d → T a ≡ p → above F ok tree a x ≡ true → chosen F k a p x ≡ walk F x (T x)
        unfolding Tells
        from_child a p d h la ua e t z =
            let r = all a p d h la ua e (rw t at (settled a la ua)) z in
            by_eq x a (λ q. r.0 q ∙ rw (q, t)) (λ q. r.1 q)

        not_there : (a p d : ℕ) → depth F ok a p < k → least F a p ≡ some d → above F ok tree a x ≡ false → chosen F k a p x ≡ []
        not_there a p d h e z = let j = exists F ok k a p d h e in sym (j.2 x) ∙ outside F ok tree j.0 x z

        not_yet : (a p d : ℕ) → depth F ok a p < k → least F a p ≡ some d → x < a → chosen F k a p x ≡ []
        not_yet a p d h e z = let j = exists F ok k a p d h e in sym (j.2 x) ∙ none_below F ok k x a p h j.0 z

        at_parts : {a b p q : ℕ} → gene g ≡ pair a b → onward s ≡ splits p q → (d e : ℕ) → least F a p ≡ some d → least F b q ≡ some e → Tells g v x (chosen F (suc k) g v x)
        unfolding Tells after Fits
        at_parts {a} {b} {p} {q} n o d e ea eb =
            let h = lower_parts F ok g v s m n o in
            let t = fits a b p q n (leave_splits g v s is o) in
            let la = ok.left_more g a b n in let lb = ok.right_more g a b n in let ia = ok.left_in g a b n in let ib = ok.right_in g a b n in (
              λ z. unfolds ∙ rw (o, n, not_yet a p d (omega arith) ea (omega arith), not_yet b q e (omega arith) eb (omega arith), z, own_here g v s) (sym (walk_splits g v s is o)),
              λ z. unfolds ∙ rw (o, n, own_not g v s x z) (by_bool (above F ok tree a x)
                  (λ y. rw (from_child a p d (omega arith) (omega arith) ia ea t.0 y, not_there b q e (omega arith) eb (not_both F ok tree g a b x n y)) (append-nil (walk F x (T x))))
                  (λ y. rw (not_there a p d (omega arith) ea y) (from_child b q e (omega arith) (omega arith) ib eb t.1 (other n z y)))),
            )
          where
            other : gene g ≡ pair a b → x ≢ g → above F ok tree a x ≡ false → above F ok tree b x ≡ true
            other n z y = let r = by_child g x lg ux up z in let w : pair r.0 r.1 ≡ pair a b = sym r.2 ∙ n in pick r.0 r.1 (cc) (cc) r.3
              where
                pick : (c d : ℕ) → c ≡ a → d ≡ b → (above F ok tree c x ≡ true) ⊎ (above F ok tree d x ≡ true) → above F ok tree b x ≡ true
                pick c d ec ed (inl t) = clash (rw ec at t) y
                pick c d ec ed (inr t) = rw ed at t

        by_gene : (K : Gene) → gene g ≡ K → (o : Onward) → onward s ≡ o → added (step_cost F.costs s) (beyond (least F) g K o) ≡ some c → Tells g v x (chosen F (suc k) g v x)
        unfolding beyond added ◌⊕◌
        by_gene K q ends o t = at_end o
        by_gene (tip u) q (splits y z) o t = let z : ◌≡◌ {A = ℕ} 0 1 = cc in absurd (omega arith)
        by_gene (pair a b) q (splits y z) o t = let r = of_parts (step_cost F.costs s) (least F a y) (least F b z) c t in at_parts q o r.0 r.1 r.2 r.3
        by_gene K q (goes w) o t = let r = of_move (step_cost F.costs s) (least F g w) c t in at_move o r.0 r.1

      pub tells : (k g v c : ℕ) → Below k g v c
      unfolding total
      tells zero g v c l lg ug e fits up = absurd (omega arith)
      tells (suc k) g v c l lg ug e fits up =
          let h = at_cost F ok g v c e in
          let r = chooses F ok g v h.0 (e ∙ ap some (sym h.1)) (begun F h.0) in
          by_gene k (tells k) g v c l lg ug fits up r.it r.among r.is (gene g) refl (onward r.it) refl (costs_same _ _ r.passing ∙ e)
