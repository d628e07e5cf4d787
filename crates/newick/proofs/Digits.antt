-- The turns and the returns of the code that reads a species number, over plain values: `leaf_at` and `more_at` go by the digit that the code has found,
-- and k digits make a number below 10 ^ k.
-- Assumes nothing.
use Rattle.std.proofs.Common.{ℕ, zero, suc, ◌+◌, ◌-◌, ◌*◌, ◌^◌, ◌≤◌, ◌<◌, ◌≡◌, ◌≢◌, true, false, List, Option, Some, None, MatchOption, IfSome, refl, ⊎_elim, add-one, arith}
use Rattle.std.proofs.Math.Nat.{pow-suc, pow-le-pow_right}
use Rattle.std.specs.Char.{IsDigitOf, NotDecimalDigitIn}
use Rattle.finite.proofs.Cases.{by_bool}
use Rattle.newick.specs.Reading.{byte_at, digit_from, number, more_at, leaf_at}
use Rattle.newick.specs.inner.Steps.{digit_at}
use Rattle.newick.specs.declared.Numeral.{Numeral}
use Rattle.newick.proofs.Places.{digit_low, digit_high, digit_yes, digit_less}

pub ten_five : (k : ℕ) → k < 6 → 10 ^ k ≤ 100000
ten_five k h = pow-le-pow_right {n = 10} (omega arith) {i = k} {j = 5} (omega arith)

-- the byte b at a place is a digit, or none
module _ (text : List ℕ) (at b : ℕ) (e : b ≡ byte_at text at) where
  digit_here : (48 ≤ b) → (b ≤ 57) → Some (b - 48) ≡ digit_at text at
  unfolding digit_at
  digit_here l u = rw (← e, digit_yes 48 b l (omega arith))

  pub no_digit_here : (48 ≤ b → b ≤ 57 → 58 ≤ b) → None ≡ digit_at text at
  unfolding digit_at
  no_digit_here h = rw (← e) (by_bool (digit_from 48 b)
      (λ y. let low = digit_low 48 b y in let high = digit_high 48 b y in absurd (omega (arith, high, h low (omega (arith, high)))))
      (λ y. rw y))

  pub as_digit : (r : Option ℕ) → MatchOption r (NotDecimalDigitIn 10 b) (IsDigitOf b) → IfSome r (λ d. d ≤ 9) → r ≡ digit_at text at
  as_digit (Some d) h f =
      ⊎_elim (λ x. let q : d ≡ b - 48 = omega (arith, x.1) in rw q (digit_here x.0.0 x.0.1))
      (λ y. ⊎_elim (λ x. absurd (omega (arith, f, x.0.0, x.1))) (λ x. absurd (omega (arith, f, x.0.0, x.1))) y) h
  as_digit None h f = no_digit_here h

-- a digit that was found, and none
pub record Digit (text : List ℕ) (at d : ℕ) : Type 0 where
  pub is_digit : digit_from 48 (byte_at text at) ≡ true
  pub low : 48 ≤ byte_at text at
  pub worth : d ≡ byte_at text at - 48

pub digit_found : (text : List ℕ) (at d : ℕ) → Some d ≡ digit_at text at → Digit text at d
unfolding digit_at
digit_found text at d e = by_bool (digit_from 48 (byte_at text at))
    (λ y. let z = rw y at e in record { is_digit = y; low = digit_low 48 (byte_at text at) y; worth = (cc) })
    (λ y. let z = rw y at e in cc)

pub no_digit : (text : List ℕ) (at : ℕ) → None ≡ digit_at text at → digit_from 48 (byte_at text at) ≡ false
unfolding digit_at
no_digit text at e = by_bool (digit_from 48 (byte_at text at)) (λ y. let z = rw y at e in cc) (λ y. y)

-- the first digit
module _ (text : List ℕ) (at : ℕ) where
  pub leaf_none : None ≡ digit_at text at → None ≡ leaf_at text at
  unfolding leaf_at
  leaf_none e = by_bool (digit_from 49 (byte_at text at))
      (λ y. let n = no_digit text at e in let p = digit_yes 48 (byte_at text at) (omega (arith, digit_low 49 (byte_at text at) y)) (digit_high 49 (byte_at text at) y) in cc)
      (λ y. rw y)

  pub leaf_zero : Some 0 ≡ digit_at text at → None ≡ leaf_at text at
  unfolding leaf_at
  leaf_zero e = let g = digit_found text at 0 e in rw (digit_less 49 (byte_at text at) (omega arith))

  pub leaf_first : (d k : ℕ) → Some d ≡ digit_at text at → d ≢ 0 → k ≡ 5 → Some (more_at text k d (at + 1)) ≡ leaf_at text at
  unfolding leaf_at
  leaf_first d k e z f =
      let g = digit_found text at d e in
      rw (digit_yes 49 (byte_at text at) (omega arith) (digit_high 48 (byte_at text at) g.is_digit), ← g.worth, add-one, f)

-- no digit follows, or five have
pub more_stop : (text : List ℕ) (k n at : ℕ) → digit_from 48 (byte_at text at) ≡ false → more_at text k n at ≡ number n at
unfolding more_at
more_stop text zero n at d = refl
more_stop text (suc k) n at d = rw d

module _ (text : List ℕ) (k n next : ℕ) (r : Option Numeral) (q : Some (more_at text k n next) ≡ r) where
  pub more_none : None ≡ digit_at text next → Some (number n next) ≡ r
  more_none e = rw (← more_stop text k n next (no_digit text next e)) q

  pub more_end : (last : ℕ) → last ≡ next → k ≡ 0 → Some (number n last) ≡ r
  unfolding more_at
  more_end last e z = rw e (rw z at q)

  -- a digit more
  pub more_turn : (j d : ℕ) → k ≡ suc j → Some d ≡ digit_at text next → Some (more_at text j (n * 10 + d) (next + 1)) ≡ r
  unfolding more_at
  more_turn j d z e = let g = digit_found text next d e in rw (g.worth, add-one) (rw (z, g.is_digit) at q)

pub next_digit : (i n d : ℕ) → n < 10 ^ i → d ≤ 9 → n * 10 + d < 10 ^ suc i
next_digit i n d h l = omega (arith, pow-suc 10 i)
