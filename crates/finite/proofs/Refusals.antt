-- What the verdict of a list of refusals tells: the first whose condition holds, or that none does. Each refusal's test tells its condition, so that the
-- walk along the tests is the walk along the conditions.
-- Assumes nothing.
use Rattle.std.proofs.Common.{ℕ, ◌≤◌, ◌<◌, ◌≡◌, refl, sym, ◌∙◌, ◌≢◌, ◌↔◌, inl, inr, Bool, true, false, List, [], ◌∷◌, ◌++◌, arith}
use Rattle.finite.specs.Refusals.{least_report, Refusal, verdict, First, NoneApplies, Tells, AllTell, no_more, one_more}
use Rattle.finite.proofs.Cases.{by_bool, by_eq, clash}

pub verdict_end : verdict [] ≡ 0
unfolding verdict
verdict_end = refl

module _ (r : Refusal) (rs : List Refusal) where
  pub verdict_here : r.test ≡ true → verdict (r ∷ rs) ≡ r.number
  unfolding verdict
  verdict_here t = rw t

  pub verdict_later : r.test ≡ false → verdict (r ∷ rs) ≡ verdict rs
  unfolding verdict
  verdict_later t = rw t

  -- a verdict of 0: its test fails, and so do the others
  pub verdict_none : r.number ≢ 0 → verdict (r ∷ rs) ≡ 0 → (r.test ≡ false) × (verdict rs ≡ 0)
  verdict_none d e = by_bool r.test (λ t. absurd (d (sym (verdict_here t) ∙ e))) (λ t. (t, sym (verdict_later t) ∙ e))

-- by the first test that holds, as a function finds it that asks one after the other
pub ruleset verdict_laws = (verdict_here, verdict_later, verdict_end)

-- a refusal whose test and condition come to the same
pub tell : (k : ℕ) {t : Bool} {P : Type 0} → (1 ≤ k) × (k < least_report) → (t ≡ true) ↔ P → Tells (record { number = k; test = t; condition = P })
tell k l h = record { some = λ e. omega arith; small = l.1; yes = h.0; refused = h.1 }

denied : {r : Refusal} → Tells r → r.test ≡ false → ¬ r.condition
denied t f c = clash (t.refused c) f

untold : {r : Refusal} → Tells r → ¬ r.condition → r.test ≡ false
untold {r} t n = by_bool r.test (λ y. absurd (n (t.yes y))) (λ f. f)

-- a verdict that is a number is the first refusal that applies; else none does
pub told_first : (rs : List Refusal) → AllTell rs → (k : ℕ) → k ≢ 0 → verdict rs ≡ k → First rs k
unfolding verdict First
told_first [] no_more k d e = absurd (d (sym e))
told_first (r ∷ rs) (one_more t ts) k d e = by_bool r.test
    (λ y. inl (t.yes y, sym (verdict_here r rs y) ∙ e))
    (λ f. inr (denied t f, told_first rs (ts f) k d (sym (verdict_later r rs f) ∙ e)))

pub told_none : (rs : List Refusal) → AllTell rs → verdict rs ≡ 0 → NoneApplies rs
unfolding verdict NoneApplies
told_none [] no_more e = tt
told_none (r ∷ rs) (one_more t ts) e = by_bool r.test
    (λ y. absurd (t.some (sym (verdict_here r rs y) ∙ e)))
    (λ f. (denied t f, told_none rs (ts f) (sym (verdict_later r rs f) ∙ e)))

pub first_told : (rs : List Refusal) → AllTell rs → (k : ℕ) → First rs k → verdict rs ≡ k
unfolding First
first_told [] no_more k f = absurd f
first_told (r ∷ rs) (one_more t ts) k (inl (c, e)) = verdict_here r rs (t.refused c) ∙ e
first_told (r ∷ rs) (one_more t ts) k (inr (n, f)) = verdict_later r rs (untold t n) ∙ first_told rs (ts (untold t n)) k f

-- and its number is not 0
pub first_some : (rs : List Refusal) → AllTell rs → (k : ℕ) → First rs k → k ≢ 0
unfolding First
first_some [] no_more k f = absurd f
first_some (r ∷ rs) (one_more t ts) k (inl (c, e)) = λ z. t.some (e ∙ z)
first_some (r ∷ rs) (one_more t ts) k (inr (n, f)) = first_some rs (ts (untold t n)) k f

-- only one number is that of the first, and none is where none applies
pub first_one : (rs : List Refusal) (j k : ℕ) → First rs j → First rs k → j ≡ k
unfolding First
first_one [] j k a b = absurd a
first_one (r ∷ rs) j k (inl (c, e)) (inl (d, f)) = sym e ∙ f
first_one (r ∷ rs) j k (inl (c, e)) (inr (n, b)) = absurd (n c)
first_one (r ∷ rs) j k (inr (n, a)) (inl (d, f)) = absurd (n d)
first_one (r ∷ rs) j k (inr (n, a)) (inr (m, b)) = first_one rs j k a b

pub first_none : (rs : List Refusal) (k : ℕ) → First rs k → NoneApplies rs → ⊥
unfolding First NoneApplies
first_none [] k a n = a
first_none (r ∷ rs) k (inl (c, e)) n = n.0 c
first_none (r ∷ rs) k (inr (m, a)) n = first_none rs k a n.1

pub none_told : (rs : List Refusal) → AllTell rs → NoneApplies rs → verdict rs ≡ 0
unfolding verdict NoneApplies
none_told [] no_more n = refl
none_told (r ∷ rs) (one_more t ts) (n, f) = verdict_later r rs (untold t n) ∙ none_told rs (ts (untold t n)) f

-- the verdict of two lists, one after the other: the first's, or, where none of it applies, the second's
pub verdict_first : (rs ss : List Refusal) → AllTell rs → (k : ℕ) → k ≢ 0 → verdict rs ≡ k → verdict (rs ++ ss) ≡ k
unfolding verdict
verdict_first [] ss no_more k d e = absurd (d (sym e))
verdict_first (r ∷ rs) ss (one_more t ts) k d e = by_bool r.test
    (λ y. verdict_here r (rs ++ ss) y ∙ sym (verdict_here r rs y) ∙ e)
    (λ f. verdict_later r (rs ++ ss) f ∙ verdict_first rs ss (ts f) k d (sym (verdict_later r rs f) ∙ e))

pub verdict_second : (rs ss : List Refusal) → AllTell rs → verdict rs ≡ 0 → verdict (rs ++ ss) ≡ verdict ss
unfolding verdict
verdict_second [] ss no_more e = refl
verdict_second (r ∷ rs) ss (one_more t ts) e = by_bool r.test
    (λ y. absurd (t.some (sym (verdict_here r rs y) ∙ e)))
    (λ f. verdict_later r (rs ++ ss) f ∙ verdict_second rs ss (ts f) (sym (verdict_later r rs f) ∙ e))

-- it goes by the second's verdict alone
pub verdict_tail : (rs ss ts : List Refusal) → verdict ss ≡ verdict ts → verdict (rs ++ ss) ≡ verdict (rs ++ ts)
unfolding verdict
verdict_tail [] ss ts e = e
verdict_tail (r ∷ rs) ss ts e = rw (verdict_tail rs ss ts e)

-- where none of two lists applies, none of either does
pub both_none : (rs ss : List Refusal) → AllTell rs → verdict (rs ++ ss) ≡ 0 → (verdict rs ≡ 0) × (verdict ss ≡ 0)
both_none rs ss t e = by_eq (verdict rs) 0
    (λ z. (z, sym (verdict_second rs ss t z) ∙ e))
    (λ d. absurd (d (sym (verdict_first rs ss t (verdict rs) d refl) ∙ e)))

pub all_tell : (rs ss : List Refusal) → AllTell rs → (verdict rs ≡ 0 → AllTell ss) → AllTell (rs ++ ss)
unfolding verdict
all_tell [] ss no_more u = u refl
all_tell (r ∷ rs) ss (one_more t ts) u = one_more t (λ f. all_tell rs ss (ts f) (λ e. u (verdict_later r rs f ∙ e)))

-- a verdict is small
pub verdict_small : (rs : List Refusal) → AllTell rs → verdict rs < least_report
unfolding verdict
verdict_small [] no_more = omega arith
verdict_small (r ∷ rs) (one_more t ts) = by_bool r.test (λ y. rw y t.small) (λ f. rw f (verdict_small rs (ts f)))

-- refusals with numbers up to k have a verdict up to k
unfoldable pub Low : ℕ → List Refusal → Type 0
Low k [] = Unit {0}
Low k (r ∷ rs) = (r.number ≤ k) × Low k rs

pub verdict_low : (k : ℕ) (rs : List Refusal) → Low k rs → verdict rs ≤ k
unfolding verdict Low
verdict_low k [] l = omega arith
verdict_low k (r ∷ rs) (a, l) = by_bool r.test (λ t. rw t a) (λ t. rw t (verdict_low k rs l))

-- refusals of which none with the number k applies do not have it for a verdict
unfoldable pub Idle : ℕ → List Refusal → Type 0
Idle k [] = Unit {0}
Idle k (r ∷ rs) = (r.number ≡ k → r.test ≡ false) × Idle k rs

pub verdict_idle : (k : ℕ) (rs : List Refusal) → Idle k rs → k ≢ 0 → verdict rs ≢ k
unfolding verdict Idle
verdict_idle k [] i d e = d (sym e)
verdict_idle k (r ∷ rs) (a, i) d e = by_bool r.test
    (λ t. clash t (a (sym (verdict_here r rs t) ∙ e)))
    (λ f. verdict_idle k rs i d (sym (verdict_later r rs f) ∙ e))
