-- A species number and its digits: what `leaf_at` finds is the numeral that stands there (`leaf_sound`), since each digit read lengthens the numeral by
-- that digit; and it finds each numeral that no digit follows (`leaf_complete`), since reading the digits of a number from the left makes that number.
-- Assumes nothing.
use Rattle.std.proofs.Common.{ℕ, zero, suc, ◌+◌, ◌-◌, ◌*◌, ◌/◌, ◌%◌, ◌^◌, ◌≤◌, ◌<◌, ◌≡◌, true, false, List, [], ◌∷◌, ◌++◌, length, get_or, drop, Some, refl, sym, ap, ◌∙◌, append_assoc, arith}
use Rattle.std.proofs.Math.Nat.{pow-suc}
use Rattle.finite.proofs.Cases.{by_bool, by_less}
use Rattle.columns.specs.Fields.{numeral_in, numeral}
use Rattle.columns.proofs.Columns.{numeral_last, numeral_more, length_numeral}
use Rattle.newick.specs.Reading.{byte_at, digit_from, number, more_at, leaf_at}
use Rattle.newick.specs.declared.Numeral.{Numeral as Found}
use Rattle.newick.proofs.Places.{digit_low, digit_high, digit_yes, front, past_one, opens}
use Rattle.newick.proofs.Digits.{ten_five, more_stop}

-- the bound on a numeral's length does not matter
numeral_room : (k n : ℕ) → 1 ≤ n → n < 10 ^ k → numeral_in k n ≡ numeral_in (suc k) n
numeral_room zero n l u = absurd (omega arith)
numeral_room (suc k) n l u = by_less n 10
    (λ h. numeral_last k n h ∙ sym (numeral_last (suc k) n h))
    (λ h. numeral_more k n h ∙ ap (λ (x : List ℕ). x ++ ((48 + n % 10) ∷ [])) (numeral_room k (n / 10) (omega arith) (omega (arith, pow-suc 10 k))) ∙ sym (numeral_more (suc k) n h))

-- one digit more
numeral_grow : (n b : ℕ) → 1 ≤ n → n < 100000 → 48 ≤ b → b < 58 → numeral (n * 10 + (b - 48)) ≡ numeral n ++ (b ∷ [])
unfolding numeral
numeral_grow n b l u lo hi =
    let x : (n * 10 + (b - 48)) / 10 ≡ n = omega arith in
    let y : 48 + (n * 10 + (b - 48)) % 10 ≡ b = omega arith in
    let e : numeral_in 5 n ≡ numeral_in 6 n = numeral_room 5 n l u in
    numeral_more 5 (n * 10 + (b - 48)) (omega arith) ∙ rw (x, y, e)

-- what was found: the numeral of m, of which n was made by the digits before a place
record Grown (text : List ℕ) (n at m next : ℕ) : Type 0 where
  some : 1 ≤ m
  small : m ≤ 999999
  text_is : numeral n ++ drop at text ≡ numeral m ++ drop next text

grown_here : (text : List ℕ) (n at : ℕ) (q : Found) → 1 ≤ n → n ≤ 999999 → q ≡ number n at → Grown text n at q.species q.next
grown_here text n at q l u e = rw e (record { some = l; small = u; text_is = refl })

more_sound : (text : List ℕ) (k j n at : ℕ) (q : Found) → j + k ≤ 6 → 1 ≤ n → n < 10 ^ j → more_at text k n at ≡ q → Grown text n at q.species q.next
unfolding more_at
more_sound text k zero n at q h l u e = absurd (omega arith)
more_sound text zero (suc j) n at q h l u e = grown_here text n at q l (omega (arith, pow-suc 10 j, ten_five j (omega arith))) (sym e)
more_sound text (suc k) (suc j) n at q h l u e = by_bool (digit_from 48 (byte_at text at))
    (λ y. let b = byte_at text at in
    let lo = digit_low 48 b y in
    let hi = digit_high 48 b y in
    let small : n < 100000 = omega (arith, ten_five (suc j) (omega arith)) in
    let g = more_sound text k (suc (suc j)) (n * 10 + (b - 48)) (suc at) q (omega arith) (omega arith) (omega (arith, pow-suc 10 (suc j))) (rw y at e) in
    record {
      some = g.some;
      small = g.small;
      text_is = ap (λ (x : List ℕ). numeral n ++ x) (opens text at b refl (omega arith)) ∙ sym (append_assoc (numeral n) (b ∷ []) (drop (suc at) text))
          ∙ ap (λ (x : List ℕ). x ++ drop (suc at) text) (sym (numeral_grow n b l small lo hi)) ∙ g.text_is;
    })
    (λ y. grown_here text n at q l (omega (arith, pow-suc 10 j, ten_five j (omega arith))) (sym (rw y at e)))

-- a leaf that was found
pub record Spelt (text : List ℕ) (at m next : ℕ) : Type 0 where
  pub some : 1 ≤ m
  pub small : m ≤ 999999
  pub text_is : drop at text ≡ numeral m ++ drop next text

pub leaf_sound : (text : List ℕ) (at : ℕ) (q : Found) → leaf_at text at ≡ Some q → Spelt text at q.species q.next
unfolding leaf_at numeral
leaf_sound text at q e = by_bool (digit_from 49 (byte_at text at))
    (λ y. let b = byte_at text at in
    let lo = digit_low 49 b y in
    let hi = digit_high 49 b y in
    let found : more_at text 5 (b - 48) (suc at) ≡ q = let z = rw y at e in cc in
    let g = more_sound text 5 1 (b - 48) (suc at) q (omega arith) (omega arith) (omega arith) found in
    let w : numeral (b - 48) ≡ b ∷ [] = numeral_last 5 (b - 48) (omega arith) ∙ ap (λ (x : ℕ). x ∷ []) (omega arith) in
    record {
      some = g.some;
      small = g.small;
      text_is = opens text at b refl (omega arith) ∙ ap (λ (x : List ℕ). x ++ drop (suc at) text) (sym w) ∙ g.text_is;
    })
    (λ y. let z = rw y at e in cc)

-- the number that digits make after n
unfoldable pub value : ℕ → List ℕ → ℕ
value n [] = n
value n (d ∷ ds) = value (n * 10 + (d - 48)) ds

unfoldable pub Digits : List ℕ → Type 0
Digits [] = Unit
Digits (d ∷ ds) = (digit_from 48 d ≡ true) × Digits ds

value_last : (ds : List ℕ) (n d : ℕ) → value n (ds ++ (d ∷ [])) ≡ value n ds * 10 + (d - 48)
unfolding value
value_last [] n d = refl
value_last (c ∷ ds) n d = value_last ds (n * 10 + (c - 48)) d

digits_last : (ds : List ℕ) (d : ℕ) → Digits ds → digit_from 48 d ≡ true → Digits (ds ++ (d ∷ []))
unfolding Digits
digits_last [] d a e = (e, tt)
digits_last (c ∷ ds) d a e = (a.0, digits_last ds d a.1 e)

-- a numeral by its first digit and the others
pub record Numeral (s : ℕ) (bytes : List ℕ) : Type 0 where
  pub first : ℕ
  pub others : List ℕ
  pub bytes_are : bytes ≡ first ∷ others
  pub first_is : digit_from 49 first ≡ true
  pub others_are : Digits others
  pub value_is : value (first - 48) others ≡ s

numeral_is : (k s : ℕ) → 1 ≤ s → s < 10 ^ k → Numeral s (numeral_in k s)
unfolding value Digits
numeral_is zero s l u = absurd (omega arith)
numeral_is (suc k) s l u = by_less s 10
    (λ h. record { first = 48 + s; others = []; bytes_are = numeral_last k s h; first_is = digit_yes 49 (48 + s) (omega arith) (omega arith); others_are = tt; value_is = omega arith })
    (λ h. let g = numeral_is k (s / 10) (omega arith) (omega (arith, pow-suc 10 k)) in
    let d = 48 + s % 10 in
    record {
      first = g.first;
      others = g.others ++ (d ∷ []);
      bytes_are = numeral_more k s h ∙ rw g.bytes_are;
      first_is = g.first_is;
      others_are = digits_last g.others d g.others_are (digit_yes 48 d (omega arith) (omega arith));
      value_is = value_last g.others (g.first - 48) d ∙ omega (arith, g.value_is);
    })

pub numeral_of : (s : ℕ) → 1 ≤ s → s ≤ 999999 → Numeral s (numeral s)
unfolding numeral
numeral_of s l u = numeral_is 6 s l (omega arith)

pub numeral_short : (s : ℕ) → length (numeral s) ≤ 6
unfolding numeral
numeral_short s = length_numeral 6 s

-- digits that no digit follows are read whole
more_complete : (ds : List ℕ) (text : List ℕ) (k n at : ℕ) (rest : List ℕ) → Digits ds → length ds ≤ k → drop at text ≡ ds ++ rest
    → digit_from 48 (get_or rest 0 0) ≡ false → more_at text k n at ≡ number (value n ds) (at + length ds)
unfolding Digits value more_at
more_complete [] text k n at rest a l e d =
    more_stop text k n at (rw (front text at rest e) d) ∙ ap (λ (i : ℕ). number n i) (omega arith)
more_complete (c ∷ ds) text zero n at rest a l e d = absurd (omega arith)
more_complete (c ∷ ds) text (suc k) n at rest a l e d =
    let b : byte_at text at ≡ c = front text at (c ∷ (ds ++ rest)) e in
    rw (b, a.0) (more_complete ds text k (n * 10 + (c - 48)) (suc at) rest a.1 (omega arith) (past_one text at c (ds ++ rest) e) d
    ∙ ap (λ (i : ℕ). number (value (n * 10 + (c - 48)) ds) i) (omega arith))

pub leaf_complete : (text : List ℕ) (at s : ℕ) (rest : List ℕ) → 1 ≤ s → s ≤ 999999 → drop at text ≡ numeral s ++ rest
    → digit_from 48 (get_or rest 0 0) ≡ false → leaf_at text at ≡ Some (number s (at + length (numeral s)))
unfolding leaf_at
leaf_complete text at s rest l u e d =
    let g = numeral_of s l u in
    let w : drop at text ≡ g.first ∷ (g.others ++ rest) = e ∙ ap (λ (x : List ℕ). x ++ rest) g.bytes_are in
    let b : byte_at text at ≡ g.first = front text at (g.first ∷ (g.others ++ rest)) w in
    let n : length (numeral s) ≡ suc (length g.others) = ap (λ (x : List ℕ). length x) g.bytes_are in
    rw (b, g.first_is) (ap (λ (q : Found). Some q) (more_complete g.others text 5 (g.first - 48) (suc at) rest g.others_are (omega (arith, numeral_short s)) (past_one text at g.first (g.others ++ rest) w) d)
    ∙ rw g.value_is (ap (λ (i : ℕ). Some (number s i)) (omega arith)))
