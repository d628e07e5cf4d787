-- Six bytes that fit column by column are the columns of what they are worth (`all_fit`), and the columns of a number fit (`columns_fit`), so that
-- a byte that does not fit leaves no number (`misfit`). Each column is met by its place value: the digits before it, it, and what is behind.
-- Assumes nothing.
use Rattle.std.proofs.Common.{ℕ, zero, suc, ◌+◌, ◌-◌, ◌*◌, ◌/◌, ◌%◌, ◌≤◌, ◌<◌, ◌≡◌, refl, sym, ap, ◌∙◌, true, false, cond, List, [], ◌∷◌, length, get_or, ltb, eqb, lit<, mul-le-mul_right, one-mul, arith, ltb-false, eqb-true, lt-ltb, le-ltb, ne_eqb}
use native.Mathlib.Nat.{add-mul, mul_assoc, mul_comm, div-eq_of_lt, div-div-eq-div-mul, mul-add-div_right}
use Rattle.std.proofs.lemmas.Nat.{le-div}
use borrow.Author.Tests.{eqb-false}
use Rattle.finite.proofs.Cases.{by_bool, by_eq, by_less, clash}
use Rattle.columns.specs.Fields.{columns, place_value, column_of, digit_of, worth_of, six, field_at}
use Rattle.columns.specs.inner.Scans.{Blank, digit, opening, fitting}
use Rattle.std.specs.Prelude.{Some, None}
use Rattle.columns.proofs.Columns.{columns_are, below_six, space, shown, six_at, term_bound}
use Rattle.columns.proofs.Fields.{digit_small, column_digit, spelled_columns, found, agrees, only_field, worth_bound, worth_turn}

-- what a digit, and an opening byte, is
digit_is : {A : Type 0} (b : ℕ) → digit b ≡ true → (48 ≤ b → b ≤ 57 → A) → A
unfolding digit
digit_is b e f = by_bool (ltb b 48) (λ l. clash {b = false} (rw l at e) refl)
    (λ l. by_bool (ltb 57 b) (λ h. clash {b = false} (rw (l, h) at e) refl) (λ h. f (ltb-false b 48 l) (ltb-false 57 b h)))

opening_is : {A : Type 0} (b : ℕ) → opening b ≡ true → (b ≡ 32 → A) → (49 ≤ b → b ≤ 57 → A) → A
unfolding opening
opening_is b e f g = by_bool (eqb b 32) (λ q. f (eqb-true b 32 q))
    (λ q. by_bool (ltb b 49) (λ l. clash {b = false} (rw (q, l) at e) refl)
    (λ l. by_bool (ltb 57 b) (λ h. clash {b = false} (rw (q, l, h) at e) refl) (λ h. g (ltb-false b 49 l) (ltb-false 57 b h))))

-- what fits is a space before the number, or a digit, the first of which is not 0 but in the last column
fitting_is : {A : Type 0} (b w k : ℕ) → fitting b w k ≡ true → (w ≡ 0 → (k ≡ 0 → ⊥) → b ≡ 32 → A) → (48 ≤ b → b ≤ 57 → (w ≡ 0 → (k ≡ 0 → ⊥) → 49 ≤ b) → A) → A
unfolding fitting
fitting_is b w k e f g = by_bool (eqb w 0)
    (λ z. by_bool (eqb k 0) (λ l. digit_is b (rw (z, l) at e) (λ low high. g low high (λ _ n. absurd (n (eqb-true k 0 l)))))
    (λ l. opening_is b (rw (z, l) at e) (f (eqb-true w 0 z) (eqb-false k 0 l)) (λ low high. g (omega arith) high (λ _ _. low))))
    (λ z. digit_is b (rw z at e) (λ low high. g low high (λ q _. absurd (eqb-false w 0 z q))))

-- the low four bits of what fits are what it counts for
digit_value : (b : ℕ) → 48 ≤ b → b ≤ 57 → digit_of b ≡ b - 48
digit_value b low high = simp (le-ltb b 48 low, le-ltb 57 b high)

pub low_bits : (b w k : ℕ) → fitting b w k ≡ true → b % 16 ≡ digit_of b
low_bits b w k e = fitting_is b w k e (λ _ _ q. rw q) (λ low high _. omega (arith, digit_value b low high))

-- a byte that fits is the column of a number whose digits before it are y: it is the next digit, and `rest` is what the columns behind it are worth
at_least : (p m n rest : ℕ) → p ≤ m → n ≡ m + rest → p ≤ n
at_least p m n rest l e = omega arith

column_shown : (b w k n p y rest : ℕ) → fitting b w k ≡ true → (k ≡ 0 → ⊥) → (w ≡ 0 → y ≡ 0) → (y ≡ 0 → w ≡ 0) → 0 < p
    → n ≡ (y * 10 + digit_of b) * p + rest → rest < p → b ≡ cond (ltb n p) 32 (48 + n / p % 10)
column_shown b w k n p y rest fit inner wy yw pos en er = fitting_is b w k fit blank shows
  where
    blank : w ≡ 0 → (k ≡ 0 → ⊥) → b ≡ 32 → b ≡ cond (ltb n p) 32 (48 + n / p % 10)
    blank ew _ eb =
        let e : n ≡ (0 * 10 + 0) * p + rest = rw (wy ew, eb) at en in
        eb ∙ space n p _ (omega arith)

    shows : 48 ≤ b → b ≤ 57 → (w ≡ 0 → (k ≡ 0 → ⊥) → 49 ≤ b) → b ≡ cond (ltb n p) 32 (48 + n / p % 10)
    shows low high first =
        let v : digit_of b ≡ b - 48 = digit_value b low high in
        let some : 1 ≤ y * 10 + digit_of b = by_eq y 0 (λ z. omega (arith, first (yw z) inner)) (λ z. omega arith) in
        let q : n / p ≡ y * 10 + digit_of b = rw en (mul-add-div_right pos (y * 10 + digit_of b) rest ∙ omega (arith, div-eq_of_lt er)) in
        let d : digit_of b ≡ n / p % 10 = rw q (omega arith) in
        let e : b ≡ 48 + digit_of b = omega arith in
        e ∙ shown n p (digit_of b) (n / p % 10) (at_least p ((y * 10 + digit_of b) * p) n rest (rw one-mul at (mul-le-mul_right p some)) en) d

-- so six bytes that fit are the columns of what they are worth
module _ (bs : List ℕ) (fit : (j : ℕ) → j < 6 → fitting (get_or bs j 0) (worth_of bs j) (5 - j) ≡ true) where
  abbrev d : ℕ → ℕ
  d j = digit_of (get_or bs j 0)

  small : (j : ℕ) → d j ≤ 9
  small j = digit_small (get_or bs j 0)

  pub columns_shown : (k : ℕ) → k < 6 → get_or bs k 0 ≡ column_of (worth_of bs 6) (5 - k)
  columns_shown = below_six (λ k. get_or bs k 0 ≡ column_of (worth_of bs 6) (5 - k))
      (column_shown (get_or bs 0 0) 0 5 (worth_of bs 6) 100000 0 (d 1 * 10000 + d 2 * 1000 + d 3 * 100 + d 4 * 10 + d 5) (fit 0 (lit< tt)) (λ q. omega arith) (λ q. q) (λ q. q) (lit< tt)
      (omega arith) (omega (arith, small 1, small 2, small 3, small 4, small 5)))
      (column_shown (get_or bs 1 0) (worth_of bs 1) 4 (worth_of bs 6) 10000 (d 0) (d 2 * 1000 + d 3 * 100 + d 4 * 10 + d 5) (fit 1 (lit< tt)) (λ q. omega arith) (λ q. omega arith) (λ q. omega arith) (lit< tt)
      (omega arith) (omega (arith, small 2, small 3, small 4, small 5)))
      (column_shown (get_or bs 2 0) (worth_of bs 2) 3 (worth_of bs 6) 1000 (d 0 * 10 + d 1) (d 3 * 100 + d 4 * 10 + d 5) (fit 2 (lit< tt)) (λ q. omega arith) (λ q. omega arith) (λ q. omega arith) (lit< tt)
      (omega arith) (omega (arith, small 3, small 4, small 5)))
      (column_shown (get_or bs 3 0) (worth_of bs 3) 2 (worth_of bs 6) 100 (d 0 * 100 + d 1 * 10 + d 2) (d 4 * 10 + d 5) (fit 3 (lit< tt)) (λ q. omega arith) (λ q. omega arith) (λ q. omega arith) (lit< tt)
      (omega arith) (omega (arith, small 4, small 5)))
      (column_shown (get_or bs 4 0) (worth_of bs 4) 1 (worth_of bs 6) 10 (d 0 * 1000 + d 1 * 100 + d 2 * 10 + d 3) (d 5) (fit 4 (lit< tt)) (λ q. omega arith) (λ q. omega arith) (λ q. omega arith) (lit< tt)
      (omega arith) (omega (arith, small 5)))
      (fitting_is (get_or bs 5 0) (worth_of bs 5) 0 (fit 5 (lit< tt)) (λ _ last _. absurd (last refl)) (λ low high _. omega (arith, digit_value (get_or bs 5 0) low high)))

pub all_fit : (s : List ℕ) (at n i : ℕ) → at + 6 ≤ length s → 6 ≤ i → i ≤ 6 → n ≡ worth_of (six s at) i
    → ((j : ℕ) → j < i → fitting (get_or s (at + j) 0) (worth_of (six s at) j) (5 - j) ≡ true) → Some (n, record { at = at + 6 }) ≡ field_at s at
all_fit s at n i room low high en fit =
    let six-fit : (j : ℕ) → j < 6 → fitting (get_or (six s at) j 0) (worth_of (six s at) j) (5 - j) ≡ true = λ j h. rw (six_at s at j h) (fit j (omega arith)) in
    let e : i ≡ 6 = omega arith in
    let small : worth_of (six s at) 6 < 1000000 = worth_bound (six s at) in
    rw (en, e) (sym (found s at (worth_of (six s at) 6) small
    (sym (agrees s at (worth_of (six s at) 6) small room (λ k h. sym (six_at s at k h) ∙ columns_shown (six s at) six-fit k h)))))

-- a space before the number and a digit of it fit
space_fits : (k : ℕ) → (k ≡ 0 → ⊥) → fitting 32 0 k ≡ true
unfolding fitting opening digit
space_fits k inner = rw (ne_eqb k 0 inner)

digit_fits : (x w k : ℕ) → x < 10 → (w ≡ 0 → (k ≡ 0 → ⊥) → 1 ≤ x) → fitting (48 + x) w k ≡ true
unfolding fitting opening digit
digit_fits x w k h first = by_bool (eqb w 0)
    (λ z. by_bool (eqb k 0) (λ l. rw (z, l) is_digit)
    (λ l. let p : 1 ≤ x = first (eqb-true w 0 z) (eqb-false k 0 l) in
    rw (z, l, ne_eqb (48 + x) 32 (λ q. omega arith), le-ltb (48 + x) 49 (omega arith), le-ltb 57 (48 + x) (omega arith))))
    (λ z. rw z is_digit)
  where
    is_digit : digit (48 + x) ≡ true
    is_digit = rw (le-ltb (48 + x) 48 (omega arith), le-ltb 57 (48 + x) (omega arith))

column_fits : (n p w k : ℕ) → (k ≡ 0 → ⊥) → (n < p → w ≡ 0) → (p ≤ n → w ≡ 0 → 1 ≤ n / p % 10) → fitting (cond (ltb n p) 32 (48 + n / p % 10)) w k ≡ true
column_fits n p w k inner before first = by_less n p
    (λ l. rw (lt-ltb n p l, before l) (space_fits k inner))
    (λ l. rw (le-ltb n p l) (digit_fits (n / p % 10) w k (omega arith) (λ z _. first l z)))

-- the number cut off before a place, and with the digit of that place: what its columns so far are worth, one digit more at each
parts : (a d p : ℕ) → a * (p * 10) + d * p ≡ (a * 10 + d) * p
parts a d p = rw (add-mul, mul_assoc, mul_comm p 10)

cut : (n p q : ℕ) → q ≡ p * 10 → n / q * q + n / p % 10 * p ≡ n / p * p
cut n p q e = rw (e, ← div-div-eq-div-mul n p 10) (parts (n / p / 10) (n / p % 10) p ∙ ap (λ (x : ℕ). x * p) (omega arith))

-- the column of a place fits after those before it
cut_fits : (n p q k : ℕ) → q ≡ p * 10 → 0 < p → (k ≡ 0 → ⊥) → fitting (cond (ltb n p) 32 (48 + n / p % 10)) (n / q * q) k ≡ true
cut_fits n p q k e pos inner = rw (e, ← div-div-eq-div-mul n p 10) (column_fits n p (n / p / 10 * (p * 10)) k inner
    (λ l. let z : n / p ≡ 0 = div-eq_of_lt l in rw z (omega arith))
    (λ l z. let some : 1 ≤ n / p = le-div 1 n p pos (rw one-mul l) in by_eq (n / p / 10) 0 (λ f. omega arith)
    (λ f. let m : 1 * (p * 10) ≤ n / p / 10 * (p * 10) = mul-le-mul_right (p * 10) (omega arith) in absurd (omega (arith, rw one-mul at m)))))

module _ (n : ℕ) (h : n < 1000000) where
  first : 0 + n / 100000 % 10 * 100000 ≡ n / 100000 * 100000
  first = omega arith

  pub columns_fit : (k : ℕ) → k < 6 → fitting (get_or (columns n) k 0) (worth_of (columns n) k) (5 - k) ≡ true
  columns_fit = rw (columns_are n h) (below_six
      (λ k. fitting (get_or (column_of n 5 ∷ column_of n 4 ∷ column_of n 3 ∷ column_of n 2 ∷ column_of n 1 ∷ column_of n 0 ∷ []) k 0)
      (worth_of (column_of n 5 ∷ column_of n 4 ∷ column_of n 3 ∷ column_of n 2 ∷ column_of n 1 ∷ column_of n 0 ∷ []) k) (5 - k) ≡ true)
      (column_fits n 100000 0 5 (λ q. omega arith) (λ l. refl) (λ l z. omega arith))
      (rw (column_digit n 100000, first) (cut_fits n 10000 100000 4 refl (lit< tt) (λ q. omega arith)))
      (rw (column_digit n 100000, column_digit n 10000, first, cut n 10000 100000 refl) (cut_fits n 1000 10000 3 refl (lit< tt) (λ q. omega arith)))
      (rw (column_digit n 100000, column_digit n 10000, column_digit n 1000, first, cut n 10000 100000 refl, cut n 1000 10000 refl) (cut_fits n 100 1000 2 refl (lit< tt) (λ q. omega arith)))
      (rw (column_digit n 100000, column_digit n 10000, column_digit n 1000, column_digit n 100, first, cut n 10000 100000 refl, cut n 1000 10000 refl, cut n 100 1000 refl)
      (cut_fits n 10 100 1 refl (lit< tt) (λ q. omega arith)))
      (digit_fits (n / 1 % 10) _ 0 (omega arith) (λ t last. absurd (last refl))))

-- a byte that does not fit leaves no number
pub misfit : (s : List ℕ) (at i : ℕ) → i < 6 → fitting (get_or s (at + i) 0) (worth_of (six s at) i) (5 - i) ≡ false → None ≡ field_at s at
misfit s at i h e = only_field s at None (λ n small t. clash
    (rw (← six_at s at i h, spelled_columns (six s at) n t) (columns_fit n small i h)) e)

-- columns that are spaces are worth nothing, and fit before the last
blank_worth : (s : List ℕ) (at k : ℕ) → k < 6 → Blank s at k → (j : ℕ) → j ≤ k → worth_of (six s at) j ≡ 0
blank_worth s at k h b zero l = refl
blank_worth s at k h b (suc j) l = rw (blank_worth s at k h b j (omega arith), six_at s at j (omega arith), b.spaces j (omega arith)) (omega arith)

pub blank_number : (s : List ℕ) (at k : ℕ) → k < 6 → Blank s at k → 0 ≡ worth_of (six s at) k
blank_number s at k h b = sym (blank_worth s at k h b k (omega arith))

pub blank_fits : (s : List ℕ) (at k : ℕ) → k < 6 → Blank s at k → (j : ℕ) → j < k → fitting (get_or s (at + j) 0) (worth_of (six s at) j) (5 - j) ≡ true
blank_fits s at k h b j l = rw (blank_worth s at k h b j (omega arith), b.spaces j l) (space_fits (5 - j) (λ q. omega arith))

-- a turn of the loop that reads: the value of a byte that fits, and what the columns are worth with it
pub value_small : (b w k v : ℕ) → fitting b w k ≡ true → v ≡ b % 16 → v ≤ 9
value_small b w k v fit e = rw (e, low_bits b w k fit) (digit_small b)

-- so no turn adds more than 900,000
pub turn_bound : (b w k v p : ℕ) → fitting b w k ≡ true → v ≡ b % 16 → k < 6 → p ≡ place_value k → v * p ≤ 900000
turn_bound b w k v p fit ev l ep = term_bound v k p (value_small b w k v fit ev) l ep

pub scan_turn : (s : List ℕ) (at n i v p : ℕ) → i < 6 → n ≡ worth_of (six s at) i → fitting (get_or s (at + i) 0) n (5 - i) ≡ true → v ≡ get_or s (at + i) 0 % 16
    → p ≡ place_value (5 - i) → n + v * p ≡ worth_of (six s at) (i + 1)
scan_turn s at n i v p h en fit ev = worth_turn s at n i v p h en (ev ∙ low_bits (get_or s (at + i) 0) n (5 - i) fit)
