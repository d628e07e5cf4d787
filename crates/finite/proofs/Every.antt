-- A test over 1..n says the same as its statement at each index, or at some index; and the turns of a loop that tests.
-- Assumes nothing.
use Rattle.std.proofs.Common.{◌≡◌, refl, ◌≢◌, Bool, true, false, not, ℕ, zero, suc, ◌≤◌, ◌<◌, arith}
use Rattle.finite.specs.Range.{every, any, first}
use Rattle.finite.proofs.Cases.{by_bool, by_eq, by_order, clash}
use Rattle.finite.proofs.Tests.{is_same, not_same}

-- from the test to each index, and back
pub every_at : (n : ℕ) (f : ℕ → Bool) → every n f ≡ true → (v : ℕ) → 1 ≤ v → v ≤ n → f v ≡ true
unfolding every
every_at zero f e v l u = absurd (omega arith)
every_at (suc k) f e v l u = by_bool (f (suc k))
    (λ t. by_eq v (suc k) (λ q. rw q t) (λ q. every_at k f (rw t at e) v l (omega arith)))
    (λ t. clash (rw t at e) refl)

pub is_every : (n : ℕ) (f : ℕ → Bool) → ((v : ℕ) → 1 ≤ v → v ≤ n → f v ≡ true) → every n f ≡ true
unfolding every
is_every zero f h = refl
is_every (suc k) f h = rw (h (suc k) (omega arith) (omega arith)) (is_every k f (λ v l u. h v l (omega arith)))

pub every_fails : (n v : ℕ) (f : ℕ → Bool) → 1 ≤ v → v ≤ n → f v ≡ false → every n f ≡ false
every_fails n v f l u t = by_bool (every n f) (λ e. clash (every_at n f e v l u) t) (λ e. e)

pub every_same : (n : ℕ) (f g : ℕ → Bool) → ((v : ℕ) → 1 ≤ v → v ≤ n → f v ≡ g v) → every n f ≡ every n g
unfolding every
every_same zero f g e = refl
every_same (suc k) f g e = rw (e (suc k) (omega arith) (omega arith), every_same k f g (λ v l u. e v l (omega arith)))

-- where not each passes, one fails
pub not_every : (n : ℕ) (f : ℕ → Bool) → every n f ≡ false → (v : ℕ) × (1 ≤ v) × (v ≤ n) × (f v ≡ false)
unfolding every
not_every zero f e = clash refl e
not_every (suc k) f e = by_bool (f (suc k))
    (λ t. let r = not_every k f (rw t at e) in (r.0, r.1, omega (arith, r.2), r.3))
    (λ t. (suc k, omega arith, omega arith, t))

-- from some index to the test, and back
pub some_at : (n : ℕ) (f : ℕ → Bool) → any n f ≡ true → (v : ℕ) × (1 ≤ v) × (v ≤ n) × (f v ≡ true)
unfolding any
some_at zero f e = clash e refl
some_at (suc k) f e = by_bool (f (suc k)) (λ t. (suc k, omega arith, omega arith, t))
    (λ t. let r = some_at k f (rw t at e) in (r.0, r.1, omega (arith, r.2), r.3))

pub is_some : (n v : ℕ) (f : ℕ → Bool) → 1 ≤ v → v ≤ n → f v ≡ true → any n f ≡ true
unfolding any
is_some zero v f l u t = absurd (omega arith)
is_some (suc k) v f l u t = by_eq v (suc k) (λ e. let q : f (suc k) ≡ true = rw e at t in rw q)
    (λ d. by_bool (f (suc k)) (λ q. rw q) (λ q. rw q (is_some k v f l (omega arith) t)))

-- where none passes, each fails
pub not_some : (n : ℕ) (f : ℕ → Bool) → any n f ≡ false → (v : ℕ) → 1 ≤ v → v ≤ n → f v ≡ false
not_some n f e v l u = by_bool (f v) (λ t. clash (is_some n v f l u t) e) (λ t. t)

-- some passes just where not each fails
pub some_every : (n : ℕ) (f : ℕ → Bool) → any n f ≡ not (every n (λ v. not (f v)))
unfolding any every
some_every zero f = refl
some_every (suc k) f = by_bool (f (suc k)) (λ t. rw t) (λ t. rw t (some_every k f))

pub some_same : (n : ℕ) (f g : ℕ → Bool) → ((v : ℕ) → 1 ≤ v → v ≤ n → f v ≡ g v) → any n f ≡ any n g
unfolding any
some_same zero f g e = refl
some_same (suc k) f g e = rw (e (suc k) (omega arith) (omega arith), some_same k f g (λ v l u. e v l (omega arith)))

-- the lowest that passes: it passes, it is in the range, and no lower one passes
pub first_is : (n : ℕ) (f : ℕ → Bool) → first n f ≢ 0 → (first n f ≤ n) × (f (first n f) ≡ true)
unfolding first
first_is zero f d = absurd (d refl)
first_is (suc k) f d = by_eq (first k f) 0
    (λ e. by_bool (f (suc k)) (λ t. rw (is_same e, t) (omega arith, t)) (λ t. absurd (d (rw (is_same e, t)))))
    (λ q. let r = first_is k f q in rw (not_same q) (omega (arith, r.0), r.1))

pub first_none : (n : ℕ) (f : ℕ → Bool) → first n f ≡ 0 → (v : ℕ) → 1 ≤ v → v ≤ n → f v ≡ false
unfolding first
first_none zero f e v l u = absurd (omega arith)
first_none (suc k) f e v l u = by_eq (first k f) 0
    (λ q. by_eq v (suc k)
    (λ z. by_bool (f v) (λ t. let t₂ : f (suc k) ≡ true = rw z at t in absurd (last q t₂)) (λ t. t))
    (λ z. first_none k f q v l (omega arith)))
    (λ q. absurd (q (rw (not_same q) at e)))
  where
    last : first k f ≡ 0 → f (suc k) ≡ true → ⊥
    last q t = let z : suc k ≡ 0 = rw (is_same q, t) at e in omega arith

pub first_low : (n : ℕ) (f : ℕ → Bool) (v : ℕ) → 1 ≤ v → v < first n f → f v ≡ false
unfolding first
first_low zero f v l u = absurd (omega arith)
first_low (suc k) f v l u = by_eq (first k f) 0
    (λ q. by_bool (f (suc k)) (λ t. let u₂ : v < suc k = rw (is_same q, t) at u in first_none k f q v l (omega arith))
    (λ t. let u₂ : v < 0 = rw (is_same q, t) at u in absurd (omega arith)))
    (λ q. first_low k f v l (rw (not_same q) at u))

-- so it is the one that passes and that no lower one goes before; and none where none passes
pub first_only : (n v : ℕ) (f : ℕ → Bool) → 1 ≤ v → v ≤ n → f v ≡ true → ((w : ℕ) → 1 ≤ w → w < v → f w ≡ false) → first n f ≡ v
first_only n v f l u t low = by_eq (first n f) 0
    (λ z. clash t (first_none n f z v l u))
    (λ d. let s = first_is n f d in by_order (first n f) v
    (λ g. clash s.1 (low (first n f) (omega arith) g))
    (λ e. e)
    (λ g. clash t (first_low n f v l g)))

pub first_nothing : (n : ℕ) (f : ℕ → Bool) → ((v : ℕ) → 1 ≤ v → v ≤ n → f v ≡ false) → first n f ≡ 0
first_nothing n f none = by_eq (first n f) 0 (λ e. e) (λ d. let s = first_is n f d in clash s.1 (none (first n f) (omega arith) s.0))

pub first_same : (n : ℕ) (f g : ℕ → Bool) → ((v : ℕ) → 1 ≤ v → v ≤ n → f v ≡ g v) → first n f ≡ first n g
unfolding first
first_same zero f g e = refl
first_same (suc k) f g e = rw (e (suc k) (omega arith) (omega arith), first_same k f g (λ v l u. e v l (omega arith)))

-- the turns of a loop that tests each of 1..n: r is the test at v + 1
pub every_start : (f : ℕ → Bool) → every 0 f ≡ true
unfolding every
every_start f = refl
