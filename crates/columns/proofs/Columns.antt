-- A number's columns, column by column. A number below 1,000,000 has one to six digits; in each of the six cases its numeral is found by that many
-- divisions by ten, and each column is the byte that its place value gives (`columns_are`).
-- Assumes nothing.
use Rattle.std.proofs.Common.{ℕ, zero, suc, ◌+◌, ◌-◌, ◌*◌, ◌/◌, ◌%◌, ◌≤◌, ◌<◌, ◌≡◌, refl, ap, cond, List, [], ◌∷◌, ◌++◌, length, get_or, drop, length-append, length-drop, get_or-take, get_or-drop, ext_get_or, length-take-le, ltb, lit<, lit≤, mul-le-mul, arith, lt-ltb, le-ltb}
use lib.ListN.{length-replicate}
use native.Mathlib.Nat.{div-div-eq-div-mul}
use Rattle.finite.proofs.Cases.{by_less}
use Rattle.columns.specs.Fields.{numeral_in, numeral, columns, place_value, column_of, six}

-- a numeral's last digit, and the digits before it
pub numeral_last : (k n : ℕ) → n < 10 → numeral_in (suc k) n ≡ (48 + n) ∷ []
unfolding numeral_in
numeral_last k n l = rw (lt-ltb n 10 l)

pub numeral_more : (k n : ℕ) → 10 ≤ n → numeral_in (suc k) n ≡ numeral_in k (n / 10) ++ ((48 + n % 10) ∷ [])
unfolding numeral_in
numeral_more k n l = rw (le-ltb n 10 l)

pub length_numeral : (k n : ℕ) → length (numeral_in k n) ≤ k
unfolding numeral_in
length_numeral zero n = omega arith
length_numeral (suc k) n = by_less n 10 (λ l. rw (lt-ltb n 10 l) (omega arith))
    (λ l. rw (le-ltb n 10 l, length-append) (omega (arith, length_numeral k (n / 10))))

pub length_columns : (n : ℕ) → length (columns n) ≡ 6
unfolding columns numeral
length_columns n = rw (length-append, length-replicate) (omega (arith, length_numeral 6 n))

-- a column where the number has no digit, and one where it has
pub space : (n p y : ℕ) → n < p → 32 ≡ cond (ltb n p) 32 y
space n p y l = rw (lt-ltb n p l)

pub shown : (n p x y : ℕ) → p ≤ n → x ≡ y → 48 + x ≡ cond (ltb n p) 32 (48 + y)
shown n p x y l e = rw (le-ltb n p l, e)

by_columns : {a b c d e f a₂ b₂ c₂ d₂ e₂ f₂ : ℕ} → a ≡ a₂ → b ≡ b₂ → c ≡ c₂ → d ≡ d₂ → e ≡ e₂ → f ≡ f₂
    → ◌≡◌ {A = List ℕ} (a ∷ b ∷ c ∷ d ∷ e ∷ f ∷ []) (a₂ ∷ b₂ ∷ c₂ ∷ d₂ ∷ e₂ ∷ f₂ ∷ [])
by_columns ea eb ec ed ee ef = rw (ea, eb, ec, ed, ee, ef)

module _ (n : ℕ) where
  abbrev Columned : Type 0
  Columned = columns n ≡ column_of n 5 ∷ column_of n 4 ∷ column_of n 3 ∷ column_of n 2 ∷ column_of n 1 ∷ column_of n 0 ∷ []

  one_digit : n < 10 → Columned
  unfolding columns numeral
  one_digit l = rw (numeral_last 5 n l)
      (by_columns (space n 100000 _ (omega arith)) (space n 10000 _ (omega arith)) (space n 1000 _ (omega arith)) (space n 100 _ (omega arith)) (space n 10 _ l)
      (omega arith))

  two_digits : 10 ≤ n → n < 100 → Columned
  unfolding columns numeral
  two_digits a l = rw (numeral_more 5 n a, numeral_last 4 (n / 10) (omega arith))
      (by_columns (space n 100000 _ (omega arith)) (space n 10000 _ (omega arith)) (space n 1000 _ (omega arith)) (space n 100 _ l)
      (shown n 10 (n / 10) _ a (omega arith)) (omega arith))

  three_digits : 100 ≤ n → n < 1000 → Columned
  unfolding columns numeral
  three_digits a l = rw (numeral_more 5 n (omega arith), numeral_more 4 (n / 10) (omega arith), numeral_last 3 (n / 10 / 10) (omega arith), div-div-eq-div-mul n 10 10)
      (by_columns (space n 100000 _ (omega arith)) (space n 10000 _ (omega arith)) (space n 1000 _ l)
      (shown n 100 (n / 100) _ a (omega arith)) (shown n 10 (n / 10 % 10) _ (omega arith) refl) (omega arith))

  four_digits : 1000 ≤ n → n < 10000 → Columned
  unfolding columns numeral
  four_digits a l = rw (
    numeral_more 5 n (omega arith),
    numeral_more 4 (n / 10) (omega arith),
    div-div-eq-div-mul n 10 10,
    numeral_more 3 (n / 100) (omega arith),
    div-div-eq-div-mul n 100 10,
    numeral_last 2 (n / 1000) (omega arith),
  )
      (by_columns (space n 100000 _ (omega arith)) (space n 10000 _ l)
      (shown n 1000 (n / 1000) _ a (omega arith)) (shown n 100 (n / 100 % 10) _ (omega arith) refl) (shown n 10 (n / 10 % 10) _ (omega arith) refl) (omega arith))

  five_digits : 10000 ≤ n → n < 100000 → Columned
  unfolding columns numeral
  five_digits a l = rw (
    numeral_more 5 n (omega arith),
    numeral_more 4 (n / 10) (omega arith),
    div-div-eq-div-mul n 10 10,
    numeral_more 3 (n / 100) (omega arith),
    div-div-eq-div-mul n 100 10,
    numeral_more 2 (n / 1000) (omega arith),
    div-div-eq-div-mul n 1000 10,
    numeral_last 1 (n / 10000) (omega arith),
  )
      (by_columns (space n 100000 _ l) (shown n 10000 (n / 10000) _ a (omega arith))
      (shown n 1000 (n / 1000 % 10) _ (omega arith) refl) (shown n 100 (n / 100 % 10) _ (omega arith) refl) (shown n 10 (n / 10 % 10) _ (omega arith) refl) (omega arith))

  six_digits : 100000 ≤ n → n < 1000000 → Columned
  unfolding columns numeral
  six_digits a l = rw (
    numeral_more 5 n (omega arith),
    numeral_more 4 (n / 10) (omega arith),
    div-div-eq-div-mul n 10 10,
    numeral_more 3 (n / 100) (omega arith),
    div-div-eq-div-mul n 100 10,
    numeral_more 2 (n / 1000) (omega arith),
    div-div-eq-div-mul n 1000 10,
    numeral_more 1 (n / 10000) (omega arith),
    div-div-eq-div-mul n 10000 10,
    numeral_last 0 (n / 100000) (omega arith),
  )
      (by_columns (shown n 100000 (n / 100000) _ a (omega arith)) (shown n 10000 (n / 10000 % 10) _ (omega arith) refl)
      (shown n 1000 (n / 1000 % 10) _ (omega arith) refl) (shown n 100 (n / 100 % 10) _ (omega arith) refl) (shown n 10 (n / 10 % 10) _ (omega arith) refl) (omega arith))

  pub columns_are : n < 1000000 → Columned
  columns_are h = by_less n 10 one_digit (λ a. by_less n 100 (two_digits a) (λ b. by_less n 1000 (three_digits b)
      (λ c. by_less n 10000 (four_digits c) (λ d. by_less n 100000 (five_digits d) (λ e. six_digits e h)))))

-- what holds of 0 to 5 holds of each number below 6
pub below_six : (P : ℕ → Type 0) → P 0 → P 1 → P 2 → P 3 → P 4 → P 5 → (k : ℕ) → k < 6 → P k
below_six P a b c d e f zero h = a
below_six P a b c d e f (suc zero) h = b
below_six P a b c d e f (suc (suc zero)) h = c
below_six P a b c d e f (suc (suc (suc zero))) h = d
below_six P a b c d e f (suc (suc (suc (suc zero)))) h = e
below_six P a b c d e f (suc (suc (suc (suc (suc zero))))) h = f
below_six P a b c d e f (suc (suc (suc (suc (suc (suc k)))))) h = absurd (omega arith)

place_positive : (k : ℕ) → k < 6 → 0 < place_value k
place_positive = below_six (λ k. 0 < place_value k) (lit< tt) (lit< tt) (lit< tt) (lit< tt) (lit< tt) (lit< tt)

pub worth_positive : (k p : ℕ) → k < 6 → p ≡ place_value k → 0 < p
worth_positive k p l e = rw e (place_positive k l)

place_bound : (k : ℕ) → k < 6 → place_value k ≤ 100000
place_bound = below_six (λ k. place_value k ≤ 100000) (lit≤ tt) (lit≤ tt) (lit≤ tt) (lit≤ tt) (lit≤ tt) (lit≤ tt)

pub term_bound : (d k p : ℕ) → d ≤ 9 → k < 6 → p ≡ place_value k → d * p ≤ 900000
term_bound d k p h l e = rw e (mul-le-mul h (place_bound k l))

-- each column by its number from the left
pub column_at : (n : ℕ) → n < 1000000 → (k : ℕ) → k < 6 → get_or (columns n) k 0 ≡ column_of n (5 - k)
column_at n h = below_six (λ k. get_or (columns n) k 0 ≡ column_of n (5 - k)) (by 0) (by 1) (by 2) (by 3) (by 4) (by 5)
  where
    by : (k : ℕ) → get_or (columns n) k 0 ≡ get_or (column_of n 5 ∷ column_of n 4 ∷ column_of n 3 ∷ column_of n 2 ∷ column_of n 1 ∷ column_of n 0 ∷ []) k 0
    by k = ap (λ (l : List ℕ). get_or l k 0) (columns_are n h)

-- the six bytes at a place of the text
pub six_at : (s : List ℕ) (at k : ℕ) → k < 6 → get_or (six s at) k 0 ≡ get_or s (at + k) 0
six_at s at k h = rw (get_or-take, get_or-drop)

length_six : (s : List ℕ) (at : ℕ) → at + 6 ≤ length s → length (six s at) ≡ 6
length_six s at h = length-take-le 6 (drop at s) (simp length-drop (omega arith))

-- six bytes that are a number's columns, each by itself
pub six_columns : (s : List ℕ) (at n : ℕ) → n < 1000000 → at + 6 ≤ length s → ((k : ℕ) → k < 6 → get_or s (at + k) 0 ≡ column_of n (5 - k)) → six s at ≡ columns n
six_columns s at n small room each =
    ext_get_or 0 (six s at) (columns n) (simp (length_six s at room, length_columns))
    (λ k h. let low : k < 6 = omega (arith, length_six s at room) in simp (six_at s at k low, column_at n small k low) (each k low))
