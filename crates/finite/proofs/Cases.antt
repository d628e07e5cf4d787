-- Case analysis that keeps the equation of the case, and induction on a measure.
-- Assumes nothing.
use Rattle.std.proofs.Common.{◌≡◌, refl, sym, ◌∙◌, ◌≢◌, Bool, true, false, true≢false, ℕ, zero, suc, ◌≤◌, ◌<◌, arith}
use native.Mathlib.Decide.{ℕ_discrete, dec_lt}

pub by_bool : {A : Type 0} (b : Bool) → (b ≡ true → A) → (b ≡ false → A) → A
by_bool true f g = f refl
by_bool false f g = g refl

pub by_dec : {P A : Type 0} → Dec P → (P → A) → (¬ P → A) → A
by_dec (yes p) f g = f p
by_dec (no q) f g = g q

pub by_eq : {A : Type 0} (m n : ℕ) → (m ≡ n → A) → (m ≢ n → A) → A
by_eq m n f g = by_dec (ℕ_discrete m n) f g

pub by_order : {A : Type 0} (m n : ℕ) → (m < n → A) → (m ≡ n → A) → (n < m → A) → A
by_order m n f g h = by_eq m n g (λ d. by_dec (dec_lt m n) f (λ q. h (omega arith)))

pub by_less : {A : Type 0} (m n : ℕ) → (m < n → A) → (n ≤ m → A) → A
by_less m n f g = by_order m n f (λ e. g (omega arith)) (λ l. g (omega arith))

-- a test that both holds and fails
pub clash : {A : Type 0} {b : Bool} → b ≡ true → b ≡ false → A
clash p q = absurd (true≢false (sym p ∙ q))

-- induction on a measure h: what follows from the same of all numbers of lesser measure holds of each
below : (h : ℕ → ℕ) (P : ℕ → Type 0) → ((x : ℕ) → ((y : ℕ) → h y < h x → P y) → P x) → (k : ℕ) (x : ℕ) → h x < k → P x
below h P step zero x l = absurd (omega arith)
below h P step (suc k) x l = step x (λ y ly. below h P step k y (omega arith))

pub measure : (h : ℕ → ℕ) (P : ℕ → Type 0) → ((x : ℕ) → ((y : ℕ) → h y < h x → P y) → P x) → (x : ℕ) → P x
measure h P step x = below h P step (suc (h x)) x (omega arith)
