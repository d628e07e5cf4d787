-- What a chain over `1..n + 1` comes to: the range gives 1, .., n, so `any`, `count` after `filter`, and `find` answer by the definitions of finite.
-- (A chain over `1..=n` would read better and takes twice the time: an inclusive range asks at each number whether it is spent.)
-- Assumes nothing.
use Rattle.std.proofs.Common.{◌≡◌, ℕ, suc, zero, ◌+◌, List, [], ◌∷◌, ◌++◌, length, Bool, true, false, cond, ◌||◌, refl, sym, ap, ◌∙◌, arith, Option, Some, None, length-append}
use Rattle.std.specs.declared.ops.Range.{Range}
use Rattle.std.specs.Iterator.{YieldsThen, Drains}
use Rattle.std.specs.Iterator.Adapters.{filter_source, filter_callee, filter_steps}
use Rattle.std.specs.declared.iter.Filter.{Filter}
use Rattle.std.specs.Option.{MatchOption, option_or}
use Rattle.std.specs.Bool.{⊤}
use Rattle.std.specs.Fn.{Called, CalledAt}
use denote.Param.Members.{Mut}
use denote.Ref.{Bor}
use Rattle.std.specs.List.{range_with_len, list_any, find, filter, FoldsTo}
use Rattle.std.proofs.iter.Yields.{nat_range_steps}
use Rattle.std.proofs.lemmas.Iterator.{YieldsList, YieldsList-from_range}
use Rattle.std.proofs.lemmas.Iterator.Search.{any_from_yields_List, find_from_yields_List}
use Rattle.std.proofs.lemmas.Iterator.Consumers.{YieldsList-at, YieldsList-from_filter, count_from_yields_List}
use Rattle.std.proofs.lemmas.Iterator.Adapters.{option_map_id}
use Rattle.std.proofs.lemmas.List.Folds.{list_any-append, find-append}
use Rattle.std.proofs.lemmas.List.Elements.{filter-append}
use Rattle.finite.specs.Range.{any, count, sum, first}
use Rattle.finite.specs.Tests.{same, tally}
use Rattle.finite.proofs.Tests.{is_same, not_same}
use Rattle.finite.proofs.Cases.{by_eq}
use Rattle.std.specs.Prelude.{unwrap_or}

-- the numbers 1 to n come, in this order
pub upto : {s : Range ℕ} (n : ℕ) → s ≡ record { start = 1; end = n + 1 } → YieldsList nat_range_steps (λ x. x) s (range_with_len 1 n)
upto n e = YieldsList-from_range 1 (n + 1) n e (omega arith)

push : (a n : ℕ) → range_with_len a (suc n) ≡ range_with_len a n ++ ((a + n) ∷ [])
push a zero = let e : a ≡ a + 0 = omega arith in ap {B = List ℕ} (λ w. w ∷ []) e
push a (suc n) = let e : a + 1 + n ≡ a + suc n = omega arith in ap {B = List ℕ} (λ l. a ∷ l) (push (a + 1) n ∙ ap {B = List ℕ} (λ w. range_with_len (a + 1) n ++ (w ∷ [])) e)

last : (n : ℕ) → range_with_len 1 (suc n) ≡ range_with_len 1 n ++ ((suc n) ∷ [])
last n = let e : 1 + n ≡ suc n = omega arith in push 1 n ∙ ap {B = List ℕ} (λ w. range_with_len 1 n ++ (w ∷ [])) e

nought : same 0 0 ≡ true
nought = is_same refl

some : (r : ℕ) → same (suc r) 0 ≡ false
some r = not_same (λ e. omega arith)

-- one number more is found where none was found before it
found : (n : ℕ) (o : Option ℕ) (r : ℕ) (c : Bool) → o ≡ cond (same r 0) None (Some r) → option_or o (cond c (Some (suc n)) None) ≡ cond (same (cond (same r 0) (cond c (suc n) 0) r) 0) None (Some (cond (same r 0) (cond c (suc n) 0) r))
found n o zero true e = simp (some n, nought) (ap (λ p. option_or p (Some (suc n))) (simp nought at e))
found n o zero false e = simp nought (ap (λ p. option_or p None) (simp nought at e))
found n o (suc r) true e = simp (some r) (ap (λ p. option_or p (Some (suc n))) (simp (some r) at e))
found n o (suc r) false e = simp (some r) (ap (λ p. option_or p None) (simp (some r) at e))

module _ (f : ℕ → Bool) where
  any_list : (n : ℕ) → list_any f (range_with_len 1 n) ≡ any n f
  unfolding any
  any_list zero = refl
  any_list (suc n) = ap (list_any f) (last n) ∙ list_any-append f (range_with_len 1 n) ((suc n) ∷ []) ∙ ends (list_any f (range_with_len 1 n)) (f (suc n)) (any n f) (any_list n)
    where
      ends : (b c r : Bool) → b ≡ r → (b || (c || false)) ≡ cond c true r
      ends true true r e = refl
      ends false true r e = refl
      ends true false r e = e
      ends false false r e = e

  count_list : (n : ℕ) → length (filter f (range_with_len 1 n)) ≡ count n f
  unfolding count sum
  count_list zero = refl
  count_list (suc n) = ap (λ l. length (filter f l)) (last n) ∙ ap length (filter-append f (range_with_len 1 n) ((suc n) ∷ [])) ∙ length-append (filter f (range_with_len 1 n)) (filter f ((suc n) ∷ [])) ∙ ends (f (suc n)) (count_list n)
    where
      ends : (c : Bool) → length (filter f (range_with_len 1 n)) ≡ count n f → length (filter f (range_with_len 1 n)) + length (cond c ((suc n) ∷ []) []) ≡ count n f + tally c
      ends true e = omega arith
      ends false e = omega arith

  find_list : (n : ℕ) → find f (range_with_len 1 n) ≡ cond (same (first n f) 0) None (Some (first n f))
  unfolding first
  find_list zero = rw nought
  find_list (suc n) = ap (find f) (last n) ∙ find-append f (range_with_len 1 n) ((suc n) ∷ []) ∙ found n (find f (range_with_len 1 n)) (first n f) (f (suc n)) (find_list n)

module _ {F : Type 0} {s u : Range ℕ} {f : F} (n : ℕ) (test : ℕ → Bool) where
  -- `(1..n + 1).any(..)`, where the closure computes the test
  module _ {g : Mut F (ℕ × Unit {0}) Bool} {r : Bool} where
    pub any_upto : (xs : List ℕ) × (o : Option ℕ) × (j : F) × YieldsThen nat_range_steps s xs o u × FoldsTo (λ p x q. Called g p (x, tt) false q) f xs j × MatchOption o (r ≡ false) (λ x. (r ≡ true) × ((h : F) × Called g j (x, tt) true h))
        → s ≡ record { start = 1; end = n + 1 }
        → ((x : ℕ) (b : Bool) (q : F) → Called g f (x, tt) b q → (q ≡ f) × (b ≡ test x)) → r ≡ any n test
    any_upto ran e calls = any_from_yields_List test u f r ran (upto n e) calls ∙ any_list test n

-- `(1..n + 1).filter(..).count()`
pub count_upto : {F : Type 0} {s : Range ℕ} {t : Filter (Range ℕ) F} {f : F} {g : Mut F (Bor ℕ × Unit {0}) Bool} {r : ℕ} (n : ℕ) (test : ℕ → Bool)
    → (xs : List ℕ) × Drains (filter_steps nat_range_steps g) t xs × (r ≡ length xs)
    → filter_source t ≡ s → filter_callee t ≡ f → s ≡ record { start = 1; end = n + 1 }
    → ((x : ℕ) (b : Bool) (q : F) → CalledAt g f x b q → (q ≡ f) × (b ≡ test x)) → r ≡ count n test
count_upto {t = t} {g = g} {r = r} n test ran here held e calls = count_from_yields_List t r ran (YieldsList-from_filter g test (YieldsList-at here (upto n e)) held calls) ∙ count_list test n

-- `(1..n + 1).find(..)`: the lowest that passes the test
pub first_upto : {F : Type 0} {s : Range ℕ} {f : F} {g : Mut F (Bor ℕ × Unit {0}) Bool} {r : Option ℕ} (u : Range ℕ) (n : ℕ) (test : ℕ → Bool)
    → (xs : List ℕ) × (j : F) × YieldsThen nat_range_steps s xs r u × FoldsTo (λ p x q. CalledAt g p x false q) f xs j × MatchOption r ⊤ (λ x. (h : F) × CalledAt g j x true h)
    → s ≡ record { start = 1; end = n + 1 }
    → ((x : ℕ) (b : Bool) (q : F) → CalledAt g f x b q → (q ≡ f) × (b ≡ test x)) → r ≡ cond (same (first n test) 0) None (Some (first n test))
first_upto {f = f} {r = r} u n test ran e calls = sym (option_map_id r) ∙ find_from_yields_List test u f r ran (upto n e) calls ∙ find_list test n

-- the number found, 0 where none is
pub found_or : (r : ℕ) → unwrap_or (cond (same r 0) None (Some r)) 0 ≡ r
found_or r = by_eq r 0 (λ z. rw (is_same z) (sym z)) (λ d. rw (not_same d))
