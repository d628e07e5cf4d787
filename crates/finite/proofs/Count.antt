-- The laws of counts over 1..n, and that a tree has fewer branchings than half its nodes: each node but the root is the child of one node,
-- so the numbers of children add up to less than n.
-- Assumes nothing.
use Rattle.std.proofs.Common.{◌≡◌, refl, sym, ap, ◌∙◌, ◌≢◌, Bool, true, false, not, ◌&&◌, cond, ℕ, zero, suc, ◌+◌, ◌*◌, ◌≤◌, ◌<◌, arith}
use Rattle.finite.specs.Tests.{same, tally}
use Rattle.finite.specs.Range.{sum, count, any, children}
use Rattle.finite.proofs.Cases.{by_bool, by_eq, clash}
use Rattle.std.proofs.lemmas.Bool.{and_from, and_right, not-true}
use Rattle.finite.proofs.Tests.{is_same, not_same, same_not, and_l, and_r, tally_le, tally_imp}
use Rattle.finite.proofs.Every.{some_at, not_some}
use Rattle.finite.proofs.Sum.{sum_zero_range, sum_more, sum_same, sum_le, sum_mul, sum_zero, sum_bound, sum_swap, sum_point, sum_at, sum_two, sum_short}

pub count_same : (n : ℕ) (f g : ℕ → Bool) → ((v : ℕ) → 1 ≤ v → v ≤ n → f v ≡ g v) → count n f ≡ count n g
unfolding count
count_same n f g e = sum_same n _ _ (λ v l u. ap tally (e v l u))

pub count_imp : (n : ℕ) (f g : ℕ → Bool) → ((v : ℕ) → f v ≡ true → g v ≡ true) → count n f ≤ count n g
unfolding count
count_imp n f g h = sum_le n _ _ (λ v _ _. tally_imp (f v) (g v) (h v))

-- fewer pass where one that passes g fails f
pub count_less : (n a : ℕ) (f g : ℕ → Bool) → ((v : ℕ) → f v ≡ true → g v ≡ true) → 1 ≤ a → a ≤ n → f a ≡ false → g a ≡ true → count n f < count n g
unfolding count sum
count_less zero a f g h l u p q = absurd (omega arith)
count_less (suc k) a f g h l u p q = by_eq a (suc k)
    (λ e. let p₂ : f (suc k) ≡ false = rw e at p in
    let q₂ : g (suc k) ≡ true = rw e at q in
    omega (arith, ap tally p₂, ap tally q₂, count_imp k f g h))
    (λ d. omega (arith, count_less k a f g h l (omega arith) p q, tally_imp (f (suc k)) (g (suc k)) (h (suc k))))

pub count_le : (n : ℕ) (f : ℕ → Bool) → count n f ≤ n
unfolding count
count_le n f = omega (arith, sum_bound n 1 (λ v. tally (f v)) (λ v _ _. tally_le (f v)))

-- one that passes is counted, and so are two and three
pub count_some : (n v : ℕ) (f : ℕ → Bool) → 1 ≤ v → v ≤ n → f v ≡ true → 1 ≤ count n f
unfolding count
count_some n v f l u t = omega (arith, sum_at n v (λ w. tally (f w)) l u, ap tally t)

pub count_two : (n v w : ℕ) (f : ℕ → Bool) → 1 ≤ v → v ≤ n → 1 ≤ w → w ≤ n → v ≢ w → f v ≡ true → f w ≡ true → 2 ≤ count n f
unfolding count
count_two n v w f lv uv lw uw d a b = omega (arith, sum_two n v w (λ x. tally (f x)) lv uv lw uw d, ap tally a, ap tally b)

pub count_three : (n u v w : ℕ) (f : ℕ → Bool) → 1 ≤ u → u ≤ n → 1 ≤ v → v ≤ n → 1 ≤ w → w ≤ n → u ≢ v → u ≢ w → v ≢ w → f u ≡ true → f v ≡ true → f w ≡ true → 3 ≤ count n f
count_three n u v w f lu hu lv hv lw hw uv uw vw fu fv fw = omega (
  arith,
  count_less n u others f (λ x t. and_l (f x) (not (same x u)) t) lu hu (and_right (f u) (not (same u u)) (rw (is_same {m = u} refl))) fu,
  count_two n v w others lv hv lw hw vw (and_from (f v) (not (same v u)) fv (rw (not_same (λ e. uv (sym e))))) (and_from (f w) (not (same w u)) fw (rw (not_same (λ e. uw (sym e))))),
)
  where
    others : ℕ → Bool
    others x = f x && not (same x u)

-- none is counted where none passes
pub count_zero : (n : ℕ) (f : ℕ → Bool) → ((v : ℕ) → 1 ≤ v → v ≤ n → f v ≡ false) → count n f ≡ 0
unfolding count
count_zero n f h = sum_zero n _ (λ v l u. rw (h v l u))

pub zero_count : (n : ℕ) (f : ℕ → Bool) → count n f ≡ 0 → (v : ℕ) → 1 ≤ v → v ≤ n → f v ≡ false
zero_count n f e v l u = by_bool (f v) (λ t. absurd (omega (arith, count_some n v f l u t))) (λ t. t)

-- where some are counted, one passes
pub count_find : (n : ℕ) (f : ℕ → Bool) → 1 ≤ count n f → (v : ℕ) × (1 ≤ v) × (v ≤ n) × (f v ≡ true)
unfolding count sum
count_find zero f h = absurd (omega arith)
count_find (suc k) f h = by_bool (f (suc k)) (λ t. (suc k, omega arith, omega arith, t))
    (λ t. let g : 1 ≤ count k f + 0 = rw t at h in
    let r = count_find k f (omega arith) in (r.0, r.1, omega arith, r.3))

-- where one passes alone, any two that pass are the same
pub count_one : (n v w : ℕ) (f : ℕ → Bool) → count n f ≤ 1 → 1 ≤ v → v ≤ n → 1 ≤ w → w ≤ n → f v ≡ true → f w ≡ true → v ≡ w
count_one n v w f h lv uv lw uw a b = by_eq v w (λ e. e) (λ d. absurd (omega (arith, count_two n v w f lv uv lw uw d a b)))

-- one of 1..n is a, or none
pub count_is : (n a : ℕ) → count n (same a) ≤ 1
unfolding count sum
count_is zero a = omega arith
count_is (suc k) a = by_eq a (suc k)
    (λ e. rw (is_same e) (omega (arith, count_zero k (same a) (λ v l u. not_same {m = a} {n = v} (omega arith)))))
    (λ d. rw (not_same d) (omega (arith, count_is k a)))

-- a test that one number alone passes counts 1; where one passes and the count is not 1, another passes too
pub count_alone : (n a : ℕ) (f : ℕ → Bool) → 1 ≤ a → a ≤ n → f a ≡ true → ((v : ℕ) → 1 ≤ v → v ≤ n → f v ≡ true → v ≡ a) → count n f ≡ 1
count_alone n a f l u t h = omega (arith, count_some n a f l u t, count_same n f (λ v. f v && same a v) own, count_imp n (λ v. f v && same a v) (same a) (λ v. and_r (f v) (same a v)), count_is n a)
  where
    own : (v : ℕ) → 1 ≤ v → v ≤ n → f v ≡ (f v && same a v)
    own v lv uv = by_bool (f v) (λ q. rw (q, is_same (sym (h v lv uv q)))) (λ q. rw q)

abbrev other : ℕ → (ℕ → Bool) → ℕ → Bool
other a f v = not (same a v) && f v

pub count_another : (n a : ℕ) (f : ℕ → Bool) → 1 ≤ a → a ≤ n → f a ≡ true → count n f ≢ 1 → (v : ℕ) × (1 ≤ v) × (v ≤ n) × (a ≢ v) × (f v ≡ true)
count_another n a f l u t d = by_bool (any n (other a f))
    (λ q. let r = some_at n (other a f) q in (r.0, r.1, r.2, same_not a r.0 (not-true (same a r.0) (and_l _ (f r.0) r.3)), and_r (not (same a r.0)) _ r.3))
    (λ q. absurd (d (count_alone n a f l u t (λ v lv uv tv. by_eq a v (λ e. sym e) (λ z. clash tv (rw (not_same z) at (not_some n (other a f) q v lv uv)))))))

-- a count that is 0 unless b
pub count_guarded : (n c : ℕ) (b : Bool) (f : ℕ → Bool) → ((v : ℕ) → f v ≡ true → b ≡ true) → count n f ≤ c → count n f ≤ c * tally b
count_guarded n c true f h l = omega arith
count_guarded n c false f h l = omega (arith, count_zero n f (λ v _ _. by_bool (f v) (λ t. clash (h v t) refl) (λ t. t)))

-- children by the parents of 1..n alone
pub children_same : (n : ℕ) (f g : ℕ → ℕ) (v : ℕ) → ((x : ℕ) → 1 ≤ x → x ≤ n → f x ≡ g x) → children n f v ≡ children n g v
unfolding children
children_same n f g v e = count_same n _ _ (λ x l u. ap (λ (y : ℕ). same y v) (e x l u))

-- each of 1..n is the child of at most one, and the root of none
pub children_few : (n root : ℕ) (parent : ℕ → ℕ) → 1 ≤ root → root ≤ n → parent root ≡ 0 → sum n (children n parent) < n
unfolding children count
children_few n root parent l u e = omega (
  arith,
  sum_swap n n (λ v x. tally (same (parent x) v)),
  sum_short n root (λ x. count n (same (parent x))) l u (λ x. count_is n (parent x))
      (count_zero n (same (parent root)) (λ v l _. rw e (not_same {m = 0} {n = v} (omega arith)))),
)

-- so fewer than half have two children
pub branchings : (n root : ℕ) (parent f : ℕ → ℕ) → 1 ≤ root → root ≤ n → parent root ≡ 0 → ((v : ℕ) → 1 ≤ v → v ≤ n → 2 * f v ≤ children n parent v) → 2 * sum n f < n
branchings n root parent f l u e h = omega (arith, sum_mul n 2 f, sum_le n (λ v. 2 * f v) (children n parent) h, children_few n root parent l u e)

-- each that has a parent is a child
pub children_all : (n : ℕ) (parent : ℕ → ℕ) → ((x : ℕ) → 1 ≤ x → x ≤ n → parent x ≤ n) → count n (λ x. not (same (parent x) 0)) ≤ sum n (children n parent)
unfolding children count
children_all n parent h = rw (sum_swap n n (λ v x. tally (same (parent x) v))) (sum_le n _ _ (λ x l u. by_eq (parent x) 0
    (λ e. rw (is_same e) (omega arith))
    (λ d. rw (not_same d) (count_some n (parent x) (same (parent x)) (omega arith) (h x l u) (is_same {m = parent x} refl)))))

-- one number changes its parent: f and g are the same but at r
pub children_change : (n r : ℕ) (f g : ℕ → ℕ) → 1 ≤ r → r ≤ n → ((x : ℕ) → x ≢ r → g x ≡ f x) → (v : ℕ)
    → children n g v + tally (same (f r) v) ≡ children n f v + tally (same (g r) v)
unfolding children count
children_change n r f g l u h v = omega (arith, one f (λ x d. refl), one g h)
  where
    others : ℕ → ℕ
    others x = cond (same x r) 0 (tally (same (f x) v))

    one : (k : ℕ → ℕ) → ((x : ℕ) → x ≢ r → k x ≡ f x) → sum n (λ x. tally (same (k x) v)) ≡ sum n others + tally (same (k r) v)
    one k e = sum_point n others (λ x. tally (same (k x) v)) r (tally (same (k r) v)) l u (λ x d. rw (not_same d, e x d)) (rw (is_same {m = r} refl) (omega arith))

-- the turns of a loop that counts: q is the tally of the test at v + 1
pub count_start : (f : ℕ → Bool) → 0 ≡ count 0 f
unfolding count
count_start f = sym (sum_zero_range _)

pub count_turn : (f : ℕ → Bool) (v r q : ℕ) → r ≡ count v f → q ≡ tally (f (v + 1)) → r + q ≡ count (v + 1) f
unfolding count
count_turn f v r q e t = rw (e, t) (sym (sum_more v (λ w. tally (f w))))

pub count_done : (f : ℕ → Bool) (n v r : ℕ) → v ≤ n → n ≤ v → r ≡ count v f → r ≡ count n f
count_done f n v r a b h = let e : v ≡ n = omega arith in rw e at h

-- the turns of a loop that counts the children of x: a is the parent of v + 1, q the tally of the test
module _ (f : ℕ → ℕ) (x : ℕ) where
  pub children_start : 0 ≡ children 0 f x
  unfolding children
  children_start = count_start _

  pub children_turn : (v r q a : ℕ) → r ≡ children v f x → a ≡ f (v + 1) → q ≡ tally (same a x) → r + q ≡ children (v + 1) f x
  unfolding children
  children_turn v r q a h e t = count_turn (λ w. same (f w) x) v r q h (t ∙ ap (λ (b : ℕ). tally (same b x)) e)

  pub children_done : (n v r : ℕ) → v ≤ n → n ≤ v → r ≡ children v f x → r ≡ children n f x
  unfolding children
  children_done n v r a b h = count_done (λ w. same (f w) x) n v r a b h
