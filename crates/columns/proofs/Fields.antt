-- A number below 1,000,000 has exactly one spelling and reading finds it: its columns are worth the number (`read_back`), so two numbers with the
-- same columns are the same, and `field_at` answers a number just where the six bytes spell it.
-- Assumes nothing.
use Rattle.std.proofs.Common.{ℕ, min, ◌+◌, ◌-◌, ◌*◌, ◌/◌, ◌%◌, ◌≤◌, ◌<◌, ◌≡◌, refl, sym, ap, ◌∙◌, subst, Bool, true, false, cond, List, length, get_or, length-take, length-drop, ltb, lit≤, add-one, arith, ltb-true, ltb-false, le-ltb}
use native.Mathlib.Nat.{div-eq_of_lt, min-le_right}
use Rattle.finite.proofs.Cases.{by_bool, clash}
use Rattle.columns.specs.Fields.{columns, place_value, column_of, digit_of, worth_of, six, spells, field_at, FieldIs}
use Rattle.columns.specs.declared.Cursor.{Cursor}
use Rattle.std.specs.Prelude.{Option, Some, None}
use Rattle.columns.proofs.Bytes.{same_eq, eq_same}
use Rattle.columns.proofs.Columns.{columns_are, length_columns, six_at, six_columns}

-- a digit's byte counts for the digit
pub digit_byte : (d : ℕ) → d < 10 → digit_of (48 + d) ≡ d
digit_byte d h = simp (le-ltb (48 + d) 48 (omega arith), le-ltb 57 (48 + d) (omega arith)) (omega arith)

pub mod_ten : (x : ℕ) → x % 10 < 10
mod_ten x = omega arith

-- a column counts for its digit, also where it is a space
pub column_digit : (n p : ℕ) → digit_of (cond (ltb n p) 32 (48 + n / p % 10)) ≡ n / p % 10
column_digit n p = by_bool (ltb n p)
    (λ e. let z : n / p ≡ 0 = div-eq_of_lt (ltb-true n p e) in rw (e, z))
    (λ e. rw e (digit_byte (n / p % 10) (omega arith)))

-- a number from its quotients and digits, as variables
joined : (n a b c d e f x y z u v : ℕ) → n ≡ a * 10 + f → a ≡ b * 10 + v → b ≡ c * 10 + u → c ≡ d * 10 + z → d ≡ e * 10 + y → e ≡ x
    → 0 + x * 100000 + y * 10000 + z * 1000 + u * 100 + v * 10 + f * 1 ≡ n
joined n a b c d e f x y z u v h₁ h₂ h₃ h₄ h₅ h₆ = omega arith

-- reading back what is written gives the number
pub read_back : (n : ℕ) → n < 1000000 → worth_of (columns n) 6 ≡ n
read_back n h = rw (columns_are n h) (simp (column_digit n 100000, column_digit n 10000, column_digit n 1000, column_digit n 100, column_digit n 10, digit_byte (n / 1 % 10) (omega arith))
    (joined n (n / 10) (n / 100) (n / 1000) (n / 10000) (n / 100000) (n / 1 % 10) (n / 100000 % 10) (n / 10000 % 10) (n / 1000 % 10) (n / 100 % 10) (n / 10 % 10)
    (omega arith) (omega arith) (omega arith) (omega arith) (omega arith) (omega arith)))

-- what spells a number is its columns
pub spelled_columns : (bs : List ℕ) (n : ℕ) → spells bs n ≡ true → bs ≡ columns n
unfolding spells
spelled_columns bs n e = same_eq bs (columns n) e

pub columns_spelled : (bs : List ℕ) (n : ℕ) → bs ≡ columns n → spells bs n ≡ true
unfolding spells
columns_spelled bs n e = eq_same bs (columns n) e

-- the number that is spelled is what the bytes are worth, so no two numbers have the same spelling
pub spelled_worth : (bs : List ℕ) (n : ℕ) → n < 1000000 → spells bs n ≡ true → worth_of bs 6 ≡ n
spelled_worth bs n h e = rw (spelled_columns bs n e) (read_back n h)

pub one_number : (bs : List ℕ) (m n : ℕ) → m < 1000000 → n < 1000000 → spells bs m ≡ true → spells bs n ≡ true → m ≡ n
one_number bs m n hm hn em en = sym (spelled_worth bs m hm em) ∙ spelled_worth bs n hn en

-- what six bytes are worth is below 1,000,000, whatever they are
pub digit_small : (b : ℕ) → digit_of b ≤ 9
digit_small b = by_bool (ltb b 48) (λ l. rw l (lit≤ tt)) (λ l. rw l (by_bool (ltb 57 b) (λ g. rw g (lit≤ tt)) (λ g. rw g (omega (arith, ltb-false 57 b g)))))

pub worth_bound : (bs : List ℕ) → worth_of bs 6 < 1000000
worth_bound bs =
    omega (arith, digit_small (get_or bs 0 0), digit_small (get_or bs 1 0), digit_small (get_or bs 2 0), digit_small (get_or bs 3 0), digit_small (get_or bs 4 0), digit_small (get_or bs 5 0))

-- reading a number that is spelled
pub found : (s : List ℕ) (at n : ℕ) → n < 1000000 → spells (six s at) n ≡ true → field_at s at ≡ Some (n, record { at = at + 6 })
unfolding field_at
found s at n h e = rw (spelled_worth (six s at) n h e, e)

-- `None` exactly when no number is spelled there
pub field_is : (s : List ℕ) (at : ℕ) → FieldIs s at (field_at s at)
unfolding field_at
field_is s at = go (spells (six s at) (worth_of (six s at) 6)) refl
  where
    go : (b : Bool) → spells (six s at) (worth_of (six s at) 6) ≡ b
        → FieldIs s at (cond b (Some (worth_of (six s at) 6, record { at = at + 6 })) None)
    go true e = (worth_bound (six s at), e, refl)
    go false e = λ n h t. clash (rw (spelled_worth (six s at) n h t) t) e

-- for the reader: what it returns, computed and by cases
pub field_told : (s : List ℕ) (at : ℕ) {r : Option (ℕ × Cursor)} → r ≡ field_at s at → (r ≡ field_at s at) × FieldIs s at r
field_told s at {r} e = (e, subst (λ (x : Option (ℕ × Cursor)). FieldIs s at x) (sym e) (field_is s at))

pub only_field : (s : List ℕ) (at : ℕ) (r : Option (ℕ × Cursor)) → FieldIs s at r → r ≡ field_at s at
only_field s at (Some (n, c)) f = ap (λ (k : ℕ). Some (n, record { at = k })) f.2 ∙ sym (found s at n f.0 f.1)
only_field s at None f = go (field_at s at) (field_is s at)
  where
    go : (r : Option (ℕ × Cursor)) → FieldIs s at r → None ≡ r
    go (Some (n, c)) g = absurd (f n g.0 g.1)
    go None g = refl

-- fewer than six bytes spell nothing
pub short_spells : (s : List ℕ) (at n : ℕ) → length s < at + 6 → spells (six s at) n ≡ true → ⊥
short_spells s at n h e =
    let l : min 6 (length s - at) ≡ 6 = simp (length-take, length-drop, length_columns) at (ap length (spelled_columns (six s at) n e)) in
    omega (arith, min-le_right 6 (length s - at))

pub short : (s : List ℕ) (at : ℕ) → length s < at + 6 → None ≡ field_at s at
short s at h = only_field s at None (λ n _ e. short_spells s at n h e)

-- one column more
pub worth_turn : (s : List ℕ) (at n i d p : ℕ) → i < 6 → n ≡ worth_of (six s at) i → d ≡ digit_of (get_or s (at + i) 0) → p ≡ place_value (5 - i)
    → n + d * p ≡ worth_of (six s at) (i + 1)
worth_turn s at n i d p h en ed ep = rw (ep, add-one, en, ed, six_at s at i h)

-- six bytes that are a number's columns, each by itself, spell it
pub agrees : (s : List ℕ) (at n : ℕ) → n < 1000000 → at + 6 ≤ length s → ((k : ℕ) → k < 6 → get_or s (at + k) 0 ≡ column_of n (5 - k)) → true ≡ spells (six s at) n
agrees s at n small room each = sym (columns_spelled (six s at) n (six_columns s at n small room each))
