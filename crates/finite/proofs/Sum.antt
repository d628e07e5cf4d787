-- The laws of sums over 1..n: each is an induction on n, one index a step.
-- Assumes nothing.
use Rattle.std.proofs.Common.{◌≡◌, refl, sym, ◌∙◌, ap, ◌≢◌, ℕ, zero, suc, ◌+◌, ◌-◌, ◌*◌, ◌≤◌, ◌<◌, mul-zero, mul-add, add-one, arith, cond}
use Rattle.finite.specs.Tests.{same}
use Rattle.finite.specs.Range.{sum}
use Rattle.finite.proofs.Cases.{by_eq}
use Rattle.finite.proofs.Tests.{is_same, not_same}

-- no index, and one more index
pub sum_zero_range : (f : ℕ → ℕ) → sum 0 f ≡ 0
unfolding sum
sum_zero_range f = refl

pub sum_suc : (k : ℕ) (f : ℕ → ℕ) → sum (suc k) f ≡ sum k f + f (suc k)
unfolding sum
sum_suc k f = refl

pub sum_more : (k : ℕ) (f : ℕ → ℕ) → sum (k + 1) f ≡ sum k f + f (k + 1)
sum_more k f = rw add-one (sum_suc k f)

-- congruence and monotony
pub sum_same : (n : ℕ) (f g : ℕ → ℕ) → ((v : ℕ) → 1 ≤ v → v ≤ n → f v ≡ g v) → sum n f ≡ sum n g
unfolding sum
sum_same zero f g e = refl
sum_same (suc k) f g e = omega (arith, sum_same k f g (λ v l u. e v l (omega arith)), e (suc k) (omega arith) (omega arith))

pub sum_le : (n : ℕ) (f g : ℕ → ℕ) → ((v : ℕ) → 1 ≤ v → v ≤ n → f v ≤ g v) → sum n f ≤ sum n g
unfolding sum
sum_le zero f g h = omega arith
sum_le (suc k) f g h = omega (arith, sum_le k f g (λ v l u. h v l (omega arith)), h (suc k) (omega arith) (omega arith))

pub sum_range_le : (n k : ℕ) (f : ℕ → ℕ) → k ≤ n → sum k f ≤ sum n f
unfolding sum
sum_range_le zero k f l = by_eq k 0 (λ e. rw e (omega arith)) (λ d. absurd (omega arith))
sum_range_le (suc n) k f l = by_eq k (suc n) (λ e. rw e (omega arith)) (λ d. omega (arith, sum_range_le n k f (omega arith)))

pub sum_zero : (n : ℕ) (f : ℕ → ℕ) → ((v : ℕ) → 1 ≤ v → v ≤ n → f v ≡ 0) → sum n f ≡ 0
unfolding sum
sum_zero zero f h = refl
sum_zero (suc k) f h = omega (arith, sum_zero k f (λ v l u. h v l (omega arith)), h (suc k) (omega arith) (omega arith))

-- a bound on each index bounds the sum
pub sum_bound : (n c : ℕ) (f : ℕ → ℕ) → ((v : ℕ) → 1 ≤ v → v ≤ n → f v ≤ c) → sum n f ≤ n * c
unfolding sum
sum_bound zero c f h = omega arith
sum_bound (suc k) c f h = omega (arith, sum_bound k c f (λ v l u. h v l (omega arith)), h (suc k) (omega arith) (omega arith))

-- sums of sums and multiples
pub sum_add : (n : ℕ) (f g : ℕ → ℕ) → sum n (λ v. f v + g v) ≡ sum n f + sum n g
unfolding sum
sum_add zero f g = refl
sum_add (suc k) f g = omega (arith, sum_add k f g)

pub sum_mul : (n c : ℕ) (f : ℕ → ℕ) → sum n (λ v. c * f v) ≡ c * sum n f
unfolding sum
sum_mul zero c f = sym (mul-zero c)
sum_mul (suc k) c f = rw (sum_mul k c f) (sym (mul-add c (sum k f) (f (suc k))))

-- two sums exchanged
pub sum_swap : (m n : ℕ) (f : ℕ → ℕ → ℕ) → sum m (λ x. sum n (f x)) ≡ sum n (λ y. sum m (λ x. f x y))
unfolding sum
sum_swap zero n f = sym (sum_zero n _ (λ v _ _. refl))
sum_swap (suc k) n f = rw (sum_swap k n f) (sym (sum_add n (λ y. sum k (λ x. f x y)) (f (suc k))))

-- four sums, equal in pairs at each index
pub sum_four : (n : ℕ) (a b c d : ℕ → ℕ) → ((v : ℕ) → 1 ≤ v → v ≤ n → a v + b v ≡ c v + d v) → sum n a + sum n b ≡ sum n c + sum n d
sum_four n a b c d e = sym (sum_add n a b) ∙ sum_same n _ _ e ∙ sum_add n c d

-- one index pulled out: g is f but for the index a, where it is more by e
pub sum_point : (n : ℕ) (f g : ℕ → ℕ) (a e : ℕ) → 1 ≤ a → a ≤ n → ((v : ℕ) → v ≢ a → g v ≡ f v) → g a ≡ f a + e → sum n g ≡ sum n f + e
unfolding sum
sum_point zero f g a e l u h k = absurd (omega arith)
sum_point (suc m) f g a e l u h k = by_eq a (suc m)
    (λ q. let k₂ : g (suc m) ≡ f (suc m) + e = rw q at k in omega (arith, sum_same m g f (λ v _ w. h v (omega arith)), k₂))
    (λ q. omega (arith, sum_point m f g a e l (omega arith) h k, h (suc m) (λ x. q (sym x))))

-- two sums that differ at two numbers
pub sum_points : (n : ℕ) (f g : ℕ → ℕ) (a b d e : ℕ) → 1 ≤ a → a ≤ n → 1 ≤ b → b ≤ n → a ≢ b → ((v : ℕ) → v ≢ a → v ≢ b → g v ≡ f v) → g a ≡ f a + d → g b ≡ f b + e
    → sum n g ≡ sum n f + d + e
sum_points n f g a b d e la ha lb hb ab other ea eb =
    sum_point n h g b e lb hb (λ v q. by_eq v a (λ z. rw (is_same z)) (λ z. rw (not_same z) (other v z q))) (rw (not_same {m = b} {n = a} (λ z. ab (sym z))) eb)
    ∙ ap (λ (k : ℕ). k + e) (sum_point n f h a d la ha (λ v q. rw (not_same q)) (rw (is_same {m = a} refl) ea))
  where
    h : ℕ → ℕ
    h v = cond (same v a) (g v) (f v)

-- one index, and two, are no more than the sum
pub sum_at : (n a : ℕ) (f : ℕ → ℕ) → 1 ≤ a → a ≤ n → f a ≤ sum n f
unfolding sum
sum_at zero a f l u = absurd (omega arith)
sum_at (suc k) a f l u = by_eq a (suc k) (λ q. rw q (omega arith)) (λ q. omega (arith, sum_at k a f l (omega arith)))

pub sum_two : (n a b : ℕ) (f : ℕ → ℕ) → 1 ≤ a → a ≤ n → 1 ≤ b → b ≤ n → a ≢ b → f a + f b ≤ sum n f
unfolding sum
sum_two zero a b f la ua lb ub d = absurd (omega arith)
sum_two (suc k) a b f la ua lb ub d = by_eq a (suc k)
    (λ q. omega (arith, ap f q, sum_at k b f lb (omega arith)))
    (λ q. by_eq b (suc k) (λ e. omega (arith, ap f e, sum_at k a f la (omega arith)))
    (λ e. omega (arith, sum_two k a b f la (omega arith) lb (omega arith) d)))

-- each index at most 1, and one of them 0
pub sum_short : (n a : ℕ) (f : ℕ → ℕ) → 1 ≤ a → a ≤ n → ((v : ℕ) → f v ≤ 1) → f a ≡ 0 → sum n f < n
unfolding sum
sum_short zero a f l u h e = absurd (omega arith)
sum_short (suc k) a f l u h e = by_eq a (suc k)
    (λ q. let z : f (suc k) ≡ 0 = rw q at e in omega (arith, sum_bound k 1 f (λ v _ _. h v)))
    (λ q. omega (arith, sum_short k a f l (omega arith) h e, h (suc k)))

-- and of one that adds up f n .. f 1: k is the whole sum, q is f at v
pub down_start : (f : ℕ → ℕ) (n : ℕ) → 0 + sum n f ≡ sum n f
down_start f n = omega arith

down_more : (f : ℕ → ℕ) (v : ℕ) → 0 < v → sum v f ≡ sum (v - 1) f + f v
down_more f v l = let e : v ≡ suc (v - 1) = omega arith in ap (λ (m : ℕ). sum m f) e ∙ sum_suc (v - 1) f ∙ ap (λ (m : ℕ). sum (v - 1) f + f m) (sym e)

pub down_turn : (f : ℕ → ℕ) (v r q k : ℕ) → 0 < v → r + sum v f ≡ k → q ≡ f v → r + q + sum (v - 1) f ≡ k
down_turn f v r q k l e t = omega (arith, down_more f v l)

pub down_fits : (f : ℕ → ℕ) (v r q k : ℕ) → 0 < v → r + sum v f ≡ k → q ≡ f v → r + q ≤ k
down_fits f v r q k l e t = omega (arith, down_more f v l)

pub down_done : (f : ℕ → ℕ) (v r k : ℕ) → v ≤ 0 → r + sum v f ≡ k → r ≡ k
down_done f v r k l e = let z : v ≡ 0 = omega arith in omega (arith, ap (λ (m : ℕ). sum m f) z, sum_zero_range f)
