-- Of any two steps one is the other or comes before it, so the step picked from a list is the first of those that pass. Where two pairs of tellings are
-- put together, the first difference lies in one of the pairs, so the order holds of the whole.
-- Assumes nothing.
use Rattle.std.proofs.Common.{◌≡◌, refl, sym, ◌∙◌, ◌⊎◌, inl, inr, Bool, true, false, cond, List, [], ◌∷◌, ◌++◌, ℕ, arith}
use mathlib.Core.Option.{Option, none, some}
use Rattle.finite.specs.Tests.{same, under}
use Rattle.finite.proofs.Cases.{by_bool, by_order}
use Rattle.finite.proofs.Tests.{is_same, not_same, is_under, not_under}
use Rattle.tellings.specs.Steps.{Step, rests, speciates, duplicates, transfers, loses_going_down, loses_by_transfer, passes_free, code, first, second, Line, Sooner, by_code, by_first, by_second, Ahead, here, later, NotAfter, alike, earlier}
use Rattle.tellings.specs.Chosen.{sooner, soonest, pick}
use Rattle.tellings.proofs.Options.{Among, now, then}

-- code and nodes tell the step
step_of : (c p q : ℕ) → Step
step_of c p q = cond (same c 0) rests (cond (same c 1) (speciates p q) (cond (same c 2) (duplicates p) (cond (same c 3) (transfers p q) (cond (same c 4) (loses_going_down p) (cond (same c 5) (loses_by_transfer p) (passes_free p))))))

told : (s : Step) → step_of (code s) (first s) (second s) ≡ s
unfolding step_of code first second same
told rests = refl
told (speciates p q) = refl
told (duplicates v) = refl
told (transfers p q) = refl
told (loses_going_down w) = refl
told (loses_by_transfer w) = refl
told (passes_free w) = refl

one_step : (s t : Step) → code s ≡ code t → first s ≡ first t → second s ≡ second t → s ≡ t
one_step s t e f g = sym (told s) ∙ rw (e, f, g) (told t)

-- a step is another, or sooner
abbrev pub Upto : Step → Step → Type 0
Upto s t = (s ≡ t) ⊎ Sooner s t

sooner_trans : {r s t : Step} → Sooner r s → Sooner s t → Sooner r t
sooner_trans (by_code a) (by_code b) = by_code (omega arith)
sooner_trans (by_code a) (by_first e b) = by_code (omega arith)
sooner_trans (by_code a) (by_second e f b) = by_code (omega arith)
sooner_trans (by_first d a) (by_code b) = by_code (omega arith)
sooner_trans (by_first d a) (by_first e b) = by_first (d ∙ e) (omega arith)
sooner_trans (by_first d a) (by_second e f b) = by_first (d ∙ e) (omega arith)
sooner_trans (by_second d c a) (by_code b) = by_code (omega arith)
sooner_trans (by_second d c a) (by_first e b) = by_first (d ∙ e) (omega arith)
sooner_trans (by_second d c a) (by_second e f b) = by_second (d ∙ e) (c ∙ f) (omega arith)

pub upto_trans : {r s t : Step} → Upto r s → Upto s t → Upto r t
upto_trans (inl e) u = rw e u
upto_trans {r} (inr a) (inl e) = inr (rw e at a)
upto_trans (inr a) (inr b) = inr (sooner_trans a b)

-- the test on two steps, both ways
pub decide : (s t : Step) → ((sooner s t ≡ true) × Sooner s t) ⊎ ((sooner s t ≡ false) × Upto t s)
unfolding sooner
decide s t = by_order (code s) (code t)
    (λ l. inl (rw (is_under l), by_code l))
    (λ e. by_order (first s) (first t)
    (λ l. inl (rw (no_code e, is_same e, is_under l), by_first e l))
    (λ f. by_order (second s) (second t)
    (λ l. inl (rw (no_code e, is_same e, no_first f, is_same f, is_under l), by_second e f l))
    (λ g. inr (rw (no_code e, is_same e, no_first f, is_same f, not_under {m = second s} {n = second t} (omega arith)), inl (sym (one_step s t e f g))))
    (λ l. inr (rw (no_code e, is_same e, no_first f, is_same f, not_under {m = second s} {n = second t} (omega arith)), inr (by_second (sym e) (sym f) l))))
    (λ l. inr (rw (no_code e, is_same e, not_under {m = first s} {n = first t} (omega arith), not_same {m = first s} {n = first t} (λ z. omega arith)), inr (by_first (sym e) l))))
    (λ l. inr (rw (not_under {m = code s} {n = code t} (omega arith), not_same {m = code s} {n = code t} (λ z. omega arith)), inr (by_code l)))
  where
    no_code : code s ≡ code t → under (code s) (code t) ≡ false
    no_code e = not_under {m = code s} {n = code t} (omega arith)

    no_first : first s ≡ first t → under (first s) (first t) ≡ false
    no_first e = not_under {m = first s} {n = first t} (omega arith)

-- what is picked: one of the list, which passes_free, and none that passes_free is sooner
pub record Picked (f : Step → Bool) (l : List Step) (o : Option Step) (s : Step) : Type 0 where
  pub it : Step
  pub is : o ≡ some it
  pub among : Among it l
  pub passing : f it ≡ true
  pub upto : Upto it s

module _ (f : Step → Bool) where
  -- a list's first step passes_free
  head : (t : Step) (l : List Step) (o : Option Step) → f t ≡ true → ((u : Step) → o ≡ some u → Among u l × (f u ≡ true)) → Picked f (t ∷ l) (some (soonest t o)) t
  unfolding soonest
  head t l none p h = record { it = t; is = refl; among = now; passing = p; upto = inl refl }
  head t l (some u) p h = at (decide u t)
    where
      at : ((sooner u t ≡ true) × Sooner u t) ⊎ ((sooner u t ≡ false) × Upto t u) → Picked f (t ∷ l) (some (cond (sooner u t) u t)) t
      at (inl e) = record { it = u; is = rw e.0; among = then (h u refl).0; passing = (h u refl).1; upto = inr e.1 }
      at (inr e) = record { it = t; is = rw e.0; among = now; passing = p; upto = inl refl }

  tail : (t : Step) (l : List Step) (o : Option Step) (s : Step) → f t ≡ true → Picked f l o s → Picked f (t ∷ l) (some (soonest t o)) s
  unfolding soonest
  tail t l o s p r = rw r.is (at (decide r.it t))
    where
      at : ((sooner r.it t ≡ true) × Sooner r.it t) ⊎ ((sooner r.it t ≡ false) × Upto t r.it) → Picked f (t ∷ l) (some (cond (sooner r.it t) r.it t)) s
      at (inl e) = record { it = r.it; is = rw e.0; among = then r.among; passing = r.passing; upto = r.upto }
      at (inr e) = record { it = t; is = rw e.0; among = now; passing = p; upto = upto_trans e.1 r.upto }

  over : (t : Step) (l : List Step) (o : Option Step) (s : Step) → Picked f l o s → Picked f (t ∷ l) o s
  over t l o s r = record { it = r.it; is = r.is; among = then r.among; passing = r.passing; upto = r.upto }

  -- whatever is picked passes_free
  pub sound : (l : List Step) (u : Step) → pick f l ≡ some u → Among u l × (f u ≡ true)
  unfolding pick
  sound [] u e = let z : ◌≡◌ {A = ℕ} 0 1 = cc in absurd (omega arith)
  sound (t ∷ l) u e = by_bool (f t)
      (λ p. let h = head t l (pick f l) p (λ u. sound l u) in let q : some (soonest t (pick f l)) ≡ some u = rw p at e in let r : h.it ≡ u = cc in (rw r at h.among, rw r at h.passing))
      (λ p. let q : pick f l ≡ some u = rw p at e in let r = sound l u q in (then r.0, r.1))

  pub picked : {s : Step} {l : List Step} → Among s l → f s ≡ true → Picked f l (pick f l) s
  unfolding pick
  picked {s} (now {l}) p = rw p (head s l (pick f l) p (λ u. sound l u))
  picked {s} (then {t} {l} m) p = by_bool (f t)
      (λ q. rw q (tail t l (pick f l) s q (picked m p)))
      (λ q. rw q (over t l (pick f l) s (picked m p)))

-- lists of steps with the same before, or with anything behind
ahead_before : (p : List Line) {l k : List Line} → Ahead l k → Ahead (p ++ l) (p ++ k)
ahead_before [] a = a
ahead_before (e ∷ p) a = later (ahead_before p a)

ahead_behind : {l k : List Line} (r u : List Line) → Ahead l k → Ahead (l ++ r) (k ++ u)
ahead_behind r u (here s) = here s
ahead_behind r u (later a) = later (ahead_behind r u a)

-- the order of two pairs of histories told together. Where a gene occurs does not matter: the first difference is in one of the pairs
pub merge : {f k f₂ k₂ : ℕ → List Line} → NotAfter f k → NotAfter f₂ k₂ → NotAfter (λ x. f x ++ f₂ x) (λ x. k x ++ k₂ x)
merge (alike e) (alike d) = alike (λ x. rw (e x, d x))
merge {f} {k} {f₂} {k₂} (alike e) (earlier x d a) = earlier x (λ y l. rw (e y, d y l)) (rw (e x) (ahead_before (k x) a))
merge {f} {k} {f₂} {k₂} (earlier x e a) (alike d) = earlier x (λ y l. rw (e y l, d y)) (ahead_behind (f₂ x) (k₂ x) a)
merge {f} {k} {f₂} {k₂} (earlier x e a) (earlier y d b) = by_order x y
    (λ l. earlier x (λ z m. rw (e z m, d z (omega arith))) (ahead_behind (f₂ x) (k₂ x) a))
    (λ q. earlier x (λ z m. rw (e z m, d z (omega arith))) (ahead_behind (f₂ x) (k₂ x) a))
    (λ l. earlier y (λ z m. rw (e z (omega arith), d z m)) (rw (e y l) (ahead_before (k y) b)))

pub not_after_same : {f k : ℕ → List Line} (f₂ k₂ : ℕ → List Line) → ((x : ℕ) → f₂ x ≡ f x) → ((x : ℕ) → k₂ x ≡ k x) → NotAfter f k → NotAfter f₂ k₂
not_after_same f₂ k₂ d e (alike a) = alike (λ x. d x ∙ a x ∙ sym (e x))
not_after_same f₂ k₂ d e (earlier x b a) = earlier x (λ y l. d y ∙ b y l ∙ sym (e y)) (rw (d x, e x) a)
