-- The search machine. Each t below the number of trials is one setting of one component (`locate`), which the machine finds from its count; so after t
-- steps the count is t and a component's best is the first least of those of its settings that are among the t scored.
-- Assumes nothing.
use mathlib.Core.Path.{fun_ext}
use Rattle.std.proofs.Common.{◌≡◌, refl, sym, ◌∙◌, ap, ◌≢◌, ◌↔◌, ℕ, zero, suc, ◌+◌, ◌-◌, ◌≤◌, ◌<◌, min, arith}
use Rattle.finite.specs.Range.{sum}
use Rattle.finite.specs.Least.{first_least}
use Rattle.finite.proofs.Cases.{by_eq, by_less}
use Rattle.finite.proofs.Tests.{is_same, not_same, is_under, not_under}
use Rattle.finite.proofs.Sum.{sum_suc, sum_range_le, sum_zero_range}
use Rattle.finite.proofs.Every.{first_only, first_nothing}
use Rattle.finite.proofs.Least.{least_none}
use Rattle.optimum.specs.Machine.{State, put, lesser, start, scored, next_component, next_setting, step, after, scored_of}

-- one entry put in
pub put_in : (f : ℕ → ℕ) (c x : ℕ) → put f c x c ≡ x
unfolding put
put_in f c x = rw (is_same {m = c} refl)

pub put_out : (f : ℕ → ℕ) (c x d : ℕ) → d ≢ c → put f c x d ≡ f d
unfolding put
put_out f c x d n = rw (not_same n)

-- bests with one set, told entry by entry, and with one left as it was
pub put_is : (f g : ℕ → ℕ) (c x : ℕ) → g c ≡ x → ((d : ℕ) → d ≢ c → g d ≡ f d) → g ≡ put f c x
put_is f g c x here there = fun_ext (λ d. by_eq d c (λ e. rw e (here ∙ sym (put_in f c x))) (λ n. there d n ∙ sym (put_out f c x d n)))

pub put_same : (f : ℕ → ℕ) (c : ℕ) → put f c (f c) ≡ f
put_same f c = fun_ext (λ d. by_eq d c (λ e. rw e (put_in f c (f c))) (λ n. put_out f c (f c) d n))

-- the lesser of two settings: what a step does to the first least of those scored
least_lesser : (f : ℕ → ℕ) (k : ℕ) → lesser f (first_least f k) k ≡ first_least f (suc k)
unfolding lesser first_least
least_lesser f k = refl

pub lesser_take : (f : ℕ → ℕ) (b x : ℕ) → f x < f b → lesser f b x ≡ x
unfolding lesser
lesser_take f b x l = rw (is_under l)

pub lesser_keep : (f : ℕ → ℕ) (b x : ℕ) → f b ≤ f x → lesser f b x ≡ b
unfolding lesser
lesser_keep f b x l = rw (not_under l)

module _ (settings : ℕ → ℕ) where
  -- each number below the sum is one setting of one component
  pub locate : (n t : ℕ) → t < sum n settings → (k : ℕ) × (x : ℕ) × (k < n) × (x < settings (suc k)) × (t ≡ sum k settings + x)
  locate zero t l = absurd (omega (arith, sum_zero_range settings))
  locate (suc n) t l = by_less t (sum n settings)
      (λ m. let r = locate n t m in (r.0, r.1, omega (arith, r.2), r.3, r.4))
      (λ m. (n, t - sum n settings, omega arith, omega (arith, sum_suc n settings), omega arith))

  -- of component c = j + 1
  scored_of_lem : (j t : ℕ) → scored_of settings (suc j) t ≡ min (settings (suc j)) (t - sum j settings)
  unfolding scored_of
  scored_of_lem j t = let e : suc j - 1 ≡ j = omega arith in rw e

  -- the settings of component j + 1 that are among the t scored: its number x is scored by trial `sum j settings + x`, counted from 0
  pub scored_iff : (j t x : ℕ) → (x < scored_of settings (suc j) t) ↔ ((x < settings (suc j)) × (sum j settings + x < t))
  scored_iff j t x = ((λ l. (omega (arith, scored_of_lem j t), omega (arith, scored_of_lem j t))), λ h. omega (arith, scored_of_lem j t, h.0, h.1))

  -- no setting is scored at the start, and at the end all are
  pub scored_none : (j : ℕ) → scored_of settings (suc j) 0 ≡ 0
  scored_none j = scored_of_lem j 0 ∙ omega arith

  pub scored_all : (n j : ℕ) → j < n → scored_of settings (suc j) (sum n settings) ≡ settings (suc j)
  scored_all n j l = scored_of_lem j (sum n settings) ∙ omega (arith, sum_suc j settings, sum_range_le n (suc j) settings (omega arith))

  -- setting x of component k + 1 is scored next: one more of that component, no more of the others
  module _ (k x : ℕ) (l : x < settings (suc k)) where
    scored_before : scored_of settings (suc k) (sum k settings + x) ≡ x
    scored_before = scored_of_lem k (sum k settings + x) ∙ omega arith

    scored_now : scored_of settings (suc k) (suc (sum k settings + x)) ≡ suc x
    scored_now = scored_of_lem k (suc (sum k settings + x)) ∙ omega arith

    scored_other : (j : ℕ) → j ≢ k → scored_of settings (suc j) (suc (sum k settings + x)) ≡ scored_of settings (suc j) (sum k settings + x)
    scored_other j d = scored_of_lem j (suc (sum k settings + x)) ∙ by_less j k
        (λ m. omega (arith, sum_suc j settings, sum_range_le k (suc j) settings m))
        (λ m. omega (arith, sum_suc k settings, sum_range_le j (suc k) settings (omega arith)))
        ∙ sym (scored_of_lem j (sum k settings + x))

module _ (n : ℕ) (settings : ℕ → ℕ) where
  -- the machine finds the next setting from its count
  module _ (k x : ℕ) (u : k < n) (l : x < settings (suc k)) where
    pub next_component_lem : next_component n settings (sum k settings + x) ≡ suc k
    unfolding next_component
    next_component_lem = first_only n (suc k) _ (omega arith) u (is_under {m = sum k settings + x} {n = sum (suc k) settings} (omega (arith, sum_suc k settings)))
        (λ c _ m. not_under {m = sum k settings + x} {n = sum c settings} (omega (arith, sum_range_le k c settings (omega arith))))

    pub next_setting_lem : next_setting n settings (sum k settings + x) ≡ x
    unfolding next_setting
    next_setting_lem =
        let e : next_component n settings (sum k settings + x) - 1 ≡ k = omega (arith, next_component_lem) in
        rw e (omega arith)

  -- no setting is left
  pub next_none : (t : ℕ) → sum n settings ≤ t → next_component n settings t ≡ 0
  unfolding next_component
  next_none t l = first_nothing n _ (λ c _ u. not_under {m = t} {n = sum c settings} (omega (arith, sum_range_le n c settings u)))

  module _ (trial : ℕ → ℕ → ℕ) where
    step_next : (s : State) (k x : ℕ) → k < n → x < settings (suc k) → s.count ≡ sum k settings + x → step n settings trial s ≡ scored trial (suc k) x s
    unfolding step
    step_next s k x u l e = rw (e, next_component_lem k x u l, next_setting_lem k x u l, not_same {m = suc k} {n = 0} (omega arith))

    -- "With no setting left the search stops"
    pub step_none : (s : State) → sum n settings ≤ s.count → step n settings trial s ≡ s
    unfolding step
    step_none s l = rw (is_same (next_none s.count l))

    -- "After t steps the count is t"
    pub after_count : (t : ℕ) → t ≤ sum n settings → (after n settings trial t).count ≡ t
    unfolding after start scored
    after_count zero l = refl
    after_count (suc t) l =
        let r = locate settings n t (omega arith) in
        let e : (after n settings trial t).count ≡ t = after_count t (omega arith) in
        rw (step_next (after n settings trial t) r.0 r.1 r.2 r.3 (e ∙ r.4)) (ap suc e)

    -- one turn of the loops over components and their settings
    pub after_turn : (k x : ℕ) → k < n → x < settings (suc k) → after n settings trial (suc (sum k settings + x)) ≡ scored trial (suc k) x (after n settings trial (sum k settings + x))
    unfolding after
    after_turn k x u l = step_next (after n settings trial (sum k settings + x)) k x u l
        (after_count (sum k settings + x) (omega (arith, sum_suc k settings, sum_range_le n (suc k) settings u)))

    scored_bests : (s : State) (k x c : ℕ) → (scored trial (suc k) x s).bests c ≡ put s.bests (suc k) (lesser (trial (suc k)) (s.bests (suc k)) x) c
    unfolding scored
    scored_bests s k x c = refl

    -- what a step makes of bests that are the first least among the settings scored
    one_more : (s : State) (k x j : ℕ) → k < n → x < settings (suc k) → s.count ≡ sum k settings + x
        → ((i : ℕ) → s.bests (suc i) ≡ first_least (trial (suc i)) (scored_of settings (suc i) (sum k settings + x)))
        → (step n settings trial s).bests (suc j) ≡ first_least (trial (suc j)) (scored_of settings (suc j) (suc (sum k settings + x)))
    one_more s k x j u l e h = ap (λ (r : State). r.bests (suc j)) (step_next s k x u l e) ∙ scored_bests s k x (suc j) ∙ by_eq j k
        (λ q. rw (q, put_in s.bests (suc k) (lesser (trial (suc k)) (s.bests (suc k)) x), h k, scored_before settings k x l, scored_now settings k x l)
        (least_lesser (trial (suc k)) x))
        (λ d. put_out s.bests (suc k) _ (suc j) (λ q. d (omega arith)) ∙ h j ∙ ap (first_least (trial (suc j))) (sym (scored_other settings k x l j d)))

    -- "a component's best is the first, among those of its settings that are among the t scored, for which the .. cost is least ..; where none of its
    -- settings is among them, it is all principal still" (setting 0)
    pub after_bests : (t j : ℕ) → t ≤ sum n settings → (after n settings trial t).bests (suc j) ≡ first_least (trial (suc j)) (scored_of settings (suc j) t)
    unfolding after start
    after_bests zero j l = rw (scored_none settings j) (sym (least_none (trial (suc j))))
    after_bests (suc t) j l =
        let r = locate settings n t (omega arith) in
        one_more (after n settings trial t) r.0 r.1 j r.2 r.3 (after_count t (omega arith) ∙ r.4)
        (λ i. after_bests t i (omega arith) ∙ ap (λ (z : ℕ). first_least (trial (suc i)) (scored_of settings (suc i) z)) r.4)
        ∙ ap (λ (z : ℕ). first_least (trial (suc j)) (scored_of settings (suc j) (suc z))) (sym r.4)

    -- with no setting left each best is the first least of all the component's settings
    pub last_bests : (j : ℕ) → j < n → (after n settings trial (sum n settings)).bests (suc j) ≡ first_least (trial (suc j)) (settings (suc j))
    last_bests j l = after_bests (sum n settings) j (omega arith) ∙ ap (first_least (trial (suc j))) (scored_all settings n j l)
