-- The laws of tests: what a test that passed or failed says, and what makes it pass or fail. The rulesets at the end are for `search`.
-- Assumes nothing.
use Rattle.std.proofs.Common.{◌≡◌, refl, sym, ◌≢◌, Bool, true, false, cond, not, ◌&&◌, ◌||◌, ℕ, ◌%◌, ◌≤◌, ◌<◌, arith, eqb-true, eq-eqb, ne_eqb, ltb-true, ltb-false, lt-ltb, le-ltb}
use mathlib.Core.Bool.{beq}
use borrow.Author.Tests.{eqb-false}
use Rattle.std.proofs.lemmas.Bool.{and_parts, or_parts, and_from, and_left, and_right, or_left, or_right, or_from, not_from_false, not_from_true}
use Rattle.finite.specs.Tests.{same, under, tally}
use Rattle.finite.proofs.Cases.{by_bool, by_eq, clash}

pub is_same : {m n : ℕ} → m ≡ n → same m n ≡ true
unfolding same
is_same {m} {n} e = eq-eqb m n e

pub same_is : (m n : ℕ) → same m n ≡ true → m ≡ n
unfolding same
same_is m n h = eqb-true m n h

pub not_same : {m n : ℕ} → m ≢ n → same m n ≡ false
unfolding same
not_same {m} {n} d = ne_eqb m n d

pub same_not : (m n : ℕ) → same m n ≡ false → m ≢ n
unfolding same
same_not m n h = eqb-false m n h

pub is_under : {m n : ℕ} → m < n → under m n ≡ true
unfolding under
is_under {m} {n} l = lt-ltb m n l

pub under_is : (m n : ℕ) → under m n ≡ true → m < n
unfolding under
under_is m n h = ltb-true m n h

pub not_under : {m n : ℕ} → n ≤ m → under m n ≡ false
unfolding under
not_under {m} {n} l = le-ltb m n l

pub under_not : (m n : ℕ) → under m n ≡ false → n ≤ m
unfolding under
under_not m n h = ltb-false m n h

-- what holds of a conjunction or a disjunction of tests
pub and_l : (a b : Bool) → (a && b) ≡ true → a ≡ true
and_l a b e = (and_parts a b e).0

pub and_r : (a b : Bool) → (a && b) ≡ true → b ≡ true
and_r a b e = (and_parts a b e).1

pub or_r : (a b : Bool) → (a || b) ≡ true → a ≡ false → b ≡ true
or_r true b e q = clash refl q
or_r false b e q = e

pub or_no_l : (a b : Bool) → (a || b) ≡ false → a ≡ false
or_no_l a b e = (or_parts a b e).0

pub or_no_r : (a b : Bool) → (a || b) ≡ false → b ≡ false
or_no_r a b e = (or_parts a b e).1

-- two tests are equal where each follows from the other
pub test_iff : (a b : Bool) → (a ≡ true → b ≡ true) → (b ≡ true → a ≡ true) → a ≡ b
test_iff true b f g = sym (f refl)
test_iff false true f g = g refl
test_iff false false f g = refl

pub beq_is : (a b : Bool) → beq a b ≡ true → a ≡ b
beq_is true true e = refl
beq_is true false e = sym e
beq_is false true e = e
beq_is false false e = refl

pub is_beq : {a b : Bool} → a ≡ b → beq a b ≡ true
is_beq {a} e = rw (← e) (by_bool a (λ t. rw t) (λ t. rw t))

-- a choice by a test
pub cond_yes : {A : Type 0} (a : Bool) (b c r : A) → a ≡ true → b ≡ r → cond a b c ≡ r
cond_yes a b c r e q = rw e q

pub cond_no : {A : Type 0} (a : Bool) (b c r : A) → a ≡ false → c ≡ r → cond a b c ≡ r
cond_no a b c r e q = rw e q

pub cond_same : {A : Type 0} (b : Bool) (x : A) → cond b x x ≡ x
cond_same true x = refl
cond_same false x = refl

pub told_not_yes : (r x : Bool) → r ≡ x → not r ≡ false → x ≡ true
told_not_yes true x e q = sym e
told_not_yes false x e q = clash refl q

pub told_not_no : (r x : Bool) → r ≡ x → not r ≡ true → x ≡ false
told_not_no true x e q = clash q refl
told_not_no false x e q = sym e

-- the count of one test
pub tally_le : (b : Bool) → tally b ≤ 1
tally_le true = omega arith
tally_le false = omega arith

pub tally_yes : (b : Bool) → b ≡ true → tally b ≡ 1
tally_yes b e = rw e

pub tally_no : (b : Bool) → b ≡ false → tally b ≡ 0
tally_no b e = rw e

pub tally_imp : (a b : Bool) → (a ≡ true → b ≡ true) → tally a ≤ tally b
tally_imp true b h = rw (h refl) (omega arith)
tally_imp false b h = omega arith

pub ruleset test_laws = (and_left, and_right, and_from, or_left, or_right, or_from, not_from_false, not_from_true, cond_yes, cond_no, is_same, not_same, is_under, not_under)

-- the lowest bit of a number, as a test and as a number
pub tally_odd : (x : ℕ) → tally (same (x % 2) 1) ≡ x % 2
tally_odd x = by_eq (x % 2) 1 (λ e. rw (is_same e) (sym e)) (λ d. rw (not_same d) (omega arith))
