-- Settings of a component by number. A switching writes a number at the places of d, the lowest place being the highest digit; dividing by a power of
-- two picks a digit out again, so numbers below 2^k and settings of k places correspond, and the order of numbers is the order by first difference.
-- Assumes nothing.
use Rattle.std.proofs.Common.{◌≡◌, refl, sym, ◌∙◌, ap, ◌≢◌, ◌↔◌, Bool, true, false, cond, ◌&&◌, ℕ, zero, suc, ◌+◌, ◌*◌, ◌^◌, ◌/◌, ◌%◌, ◌≤◌, ◌<◌, pow-suc, div-one, arith}
use native.Mathlib.Nat.{pow-zero, pow-succ', zero-div, div-div-eq-div-mul}
use Rattle.finite.specs.Tests.{same, under, tally}
use Rattle.finite.specs.Range.{count}
use Rattle.finite.proofs.Cases.{by_bool, by_eq, by_order, by_less, clash}
use Rattle.std.proofs.lemmas.Bool.{and_right}
use Rattle.finite.proofs.Tests.{not_same, is_under, not_under, tally_le, tally_odd}
use Rattle.finite.proofs.Sum.{sum_suc, sum_zero_range, sum_add, sum_point}
use Rattle.finite.proofs.Count.{count_zero, count_find}
use Rattle.topology.specs.Networks.{Network, Sound, Reticulation}
use Rattle.topology.specs.Switchings.{Switching, NotAfter, equal, before}
use Rattle.topology.specs.Components.{is_top, component, member_of, reticulation_count, index_of, reticulations_after, setting_of, Agree}
use Rattle.topology.proofs.Above.{reticulation_node}
use Rattle.topology.proofs.Components.{top_component, member_is, is_member}

-- the number that σ writes at the places of d up to k, the first place being the highest digit
unfoldable number : (ℕ → Bool) → Switching → ℕ → ℕ
number d σ zero = 0
number d σ (suc k) = cond (d (suc k)) (2 * number d σ k + tally (σ (suc k))) (number d σ k)

-- the places of d up to k that come after r, and the switching that writes j
abbrev places_after : (ℕ → Bool) → ℕ → ℕ → ℕ
places_after d k r = count k (λ q. d q && under r q)

abbrev digits : (ℕ → Bool) → ℕ → ℕ → Switching
digits d k j r = d r && same (j / 2 ^ places_after d k r % 2) 1

tally_inj : (a b : Bool) → tally a ≡ tally b → a ≡ b
tally_inj true true e = refl
tally_inj true false e = absurd (omega arith)
tally_inj false true e = absurd (omega arith)
tally_inj false false e = refl

tally_lt : (a b : Bool) → tally a < tally b → (a ≡ false) × (b ≡ true)
tally_lt true true e = absurd (omega arith)
tally_lt true false e = absurd (omega arith)
tally_lt false true e = (refl, refl)
tally_lt false false e = absurd (omega arith)

count_last : (k : ℕ) (f : ℕ → Bool) → f (suc k) ≡ true → count (suc k) f ≡ suc (count k f)
unfolding count
count_last k f t = omega (arith, sum_suc k (λ v. tally (f v)), ap tally t)

count_skip : (k : ℕ) (f : ℕ → Bool) → f (suc k) ≡ false → count (suc k) f ≡ count k f
unfolding count
count_skip k f t = omega (arith, sum_suc k (λ v. tally (f v)), ap tally t)

module _ (d : ℕ → Bool) where
  number_zero : (σ : Switching) → number d σ 0 ≡ 0
  unfolding number
  number_zero σ = refl

  none_pow : 2 ^ count 0 d ≡ 1
  unfolding count
  none_pow = ap (λ (i : ℕ). 2 ^ i) (sum_zero_range (λ v. tally (d v))) ∙ pow-zero 2

  module _ (k : ℕ) where
    number_on : (σ : Switching) → d (suc k) ≡ true → number d σ (suc k) ≡ 2 * number d σ k + tally (σ (suc k))
    unfolding number
    number_on σ t = rw t

    number_off : (σ : Switching) → d (suc k) ≡ false → number d σ (suc k) ≡ number d σ k
    unfolding number
    number_off σ t = rw t

    pow_on : d (suc k) ≡ true → 2 ^ count (suc k) d ≡ 2 ^ count k d * 2
    pow_on t = ap (λ (i : ℕ). 2 ^ i) (count_last k d t) ∙ pow-suc 2 (count k d)

    -- the digit of the last place is the last digit; a place before it has its digit in half of the number
    digits_last : (j : ℕ) → d (suc k) ≡ true → digits d (suc k) j (suc k) ≡ same (j % 2) 1
    digits_last j t =
        let e : places_after d (suc k) (suc k) ≡ 0 = count_zero (suc k) _ (λ q _ u. and_right (d q) _ (not_under {m = suc k} {n = q} u)) in
        rw (t, e, pow-zero 2, div-one j)

    digits_more : (j r : ℕ) → d (suc k) ≡ true → r ≤ k → digits d (suc k) j r ≡ digits d k (j / 2) r
    digits_more j r t l =
        let e : places_after d (suc k) r ≡ suc (places_after d k r) = count_last k (λ q. d q && under r q) (rw t (is_under {m = r} {n = suc k} (omega arith))) in
        let h : j / 2 ^ places_after d (suc k) r ≡ j / 2 / 2 ^ places_after d k r =
        ap (λ (i : ℕ). j / 2 ^ i) e ∙ ap (λ (i : ℕ). j / i) (pow-succ' 2 (places_after d k r)) ∙ sym (div-div-eq-div-mul j 2 (2 ^ places_after d k r)) in
        ap (λ (i : ℕ). d r && same (i % 2) 1) h

    digits_off : (j r : ℕ) → d (suc k) ≡ false → digits d (suc k) j r ≡ digits d k j r
    digits_off j r t = ap (λ (i : ℕ). d r && same (j / 2 ^ i % 2) 1) (count_skip k (λ q. d q && under r q) (rw t))

  number_same : (σ τ : Switching) (k : ℕ) → ((r : ℕ) → 1 ≤ r → r ≤ k → d r ≡ true → σ r ≡ τ r) → number d σ k ≡ number d τ k
  number_same σ τ zero e = number_zero σ ∙ sym (number_zero τ)
  number_same σ τ (suc k) e = by_bool (d (suc k))
      (λ t. omega (arith, number_on k σ t, number_on k τ t, number_same σ τ k (λ r l u. e r l (omega arith)), ap tally (e (suc k) (omega arith) (omega arith) t)))
      (λ t. number_off k σ t ∙ number_same σ τ k (λ r l u. e r l (omega arith)) ∙ sym (number_off k τ t))

  number_fits : (σ : Switching) (k : ℕ) → number d σ k < 2 ^ count k d
  number_fits σ zero = omega (arith, number_zero σ, none_pow)
  number_fits σ (suc k) = by_bool (d (suc k))
      (λ t. omega (arith, number_on k σ t, pow_on k t, number_fits σ k, tally_le (σ (suc k))))
      (λ t. rw (number_off k σ t, count_skip k d t) (number_fits σ k))

  -- each number below 2^k is written by its digits
  number_digits : (k j : ℕ) → j < 2 ^ count k d → number d (digits d k j) k ≡ j
  number_digits zero j l = omega (arith, number_zero (digits d 0 j), none_pow)
  number_digits (suc k) j l = by_bool (d (suc k))
      (λ t. omega (
        arith,
        number_on k (digits d (suc k) j) t,
        number_same (digits d (suc k) j) (digits d k (j / 2)) k (λ r _ u _. digits_more k j r t u),
        number_digits k (j / 2) (omega (arith, pow_on k t)),
        ap tally (digits_last k j t),
        tally_odd j,
      ))
      (λ t. number_off k (digits d (suc k) j) t ∙ number_same (digits d (suc k) j) (digits d k j) k (λ r _ _ _. digits_off k j r t)
      ∙ number_digits k j (rw (count_skip k d t) at l))

  -- one number: the same settings
  number_one : (σ τ : Switching) (k : ℕ) → number d σ k ≡ number d τ k → (r : ℕ) → 1 ≤ r → r ≤ k → d r ≡ true → σ r ≡ τ r
  number_one σ τ zero e r l u t = absurd (omega arith)
  number_one σ τ (suc k) e r l u t = by_bool (d (suc k))
      (λ o. let e₂ : 2 * number d σ k + tally (σ (suc k)) ≡ 2 * number d τ k + tally (τ (suc k)) = sym (number_on k σ o) ∙ e ∙ number_on k τ o in
      by_eq r (suc k) (λ q. rw q (tally_inj (σ (suc k)) (τ (suc k)) (omega (arith, tally_le (σ (suc k)), tally_le (τ (suc k))))))
      (λ q. number_one σ τ k (omega (arith, tally_le (σ (suc k)), tally_le (τ (suc k)))) r l (omega arith) t))
      (λ o. by_eq r (suc k) (λ q. clash t (rw q o))
      (λ q. number_one σ τ k (sym (number_off k σ o) ∙ e ∙ number_off k τ o) r l (omega arith) t))

  -- a smaller number: false at the first difference
  abbrev Before : Switching → Switching → ℕ → Type 0
  Before σ τ k = (r : ℕ) × (1 ≤ r) × (r ≤ k) × (d r ≡ true) × ((q : ℕ) → q < r → 1 ≤ q → d q ≡ true → σ q ≡ τ q) × (σ r ≡ false) × (τ r ≡ true)

  number_less : (σ τ : Switching) (k : ℕ) → number d σ k < number d τ k → Before σ τ k
  number_less σ τ zero l = absurd (omega (arith, number_zero σ, number_zero τ))
  number_less σ τ (suc k) l = by_bool (d (suc k))
      (λ o. let l₂ : 2 * number d σ k + tally (σ (suc k)) < 2 * number d τ k + tally (τ (suc k)) = rw (number_on k σ o, number_on k τ o) at l in
      by_order (number d σ k) (number d τ k) (λ m. more (number_less σ τ k m))
      (λ e. let b = tally_lt (σ (suc k)) (τ (suc k)) (omega arith) in
      (suc k, omega arith, omega arith, o, (λ q u v t. number_one σ τ k e q v (omega arith) t), b.0, b.1))
      (λ m. absurd (omega (arith, tally_le (σ (suc k)), tally_le (τ (suc k))))))
      (λ o. more (number_less σ τ k (rw (number_off k σ o, number_off k τ o) at l)))
    where
      more : Before σ τ k → Before σ τ (suc k)
      more f = (f.0, f.1, omega (arith, f.2), f.3, f.4, f.5, f.6)

-- two that are each not after the other agree
pub order_anti : {D : ℕ → Type 0} {σ τ : Switching} → NotAfter D σ τ → NotAfter D τ σ → (r : ℕ) → D r → σ r ≡ τ r
order_anti (equal f) b = f
order_anti (before r d f x y) (equal g) = λ q e. sym (g q e)
order_anti (before r d f x y) (before q e g u v) = by_order r q (λ l. clash y (g r l d ∙ x)) (λ l. clash v (rw l at x)) (λ l. clash v (f q l e ∙ u))

module _ (N : Network) (ok : Sound N) (c : ℕ) where
  -- the reticulations of component c
  abbrev pub In : ℕ → Type 0
  In r = Reticulation N r × (component N r ≡ c)

  -- the number of the setting that a switching has at component c
  abbrev number_at : Switching → ℕ
  number_at σ = number (member_of N c) σ N.size

  setting_number : (x : ℕ) → x < 2 ^ reticulation_count N c → number_at (setting_of N c x) ≡ x
  unfolding setting_of reticulations_after reticulation_count
  setting_number x l = number_digits (member_of N c) N.size x l

  number_low : (σ : Switching) → number_at σ < 2 ^ reticulation_count N c
  unfolding reticulation_count
  number_low σ = number_fits (member_of N c) σ N.size

  agree_number : (σ τ : Switching) → number_at σ ≡ number_at τ → Agree N σ τ c
  agree_number σ τ e r d q =
      let k = reticulation_node N ok r d in
      number_one (member_of N c) σ τ N.size e r k.low k.high (is_member N c r d q)

  number_agree : (σ τ : Switching) → Agree N σ τ c → number_at σ ≡ number_at τ
  number_agree σ τ a = number_same (member_of N c) σ τ N.size (λ r _ _ t. let m = member_is N c r t in a r m.0 m.1)

  -- onto: every choice at the reticulations of component c is a setting with a number below 2^k
  pub setting_onto : (σ : Switching) → (x : ℕ) × (x < 2 ^ reticulation_count N c) × Agree N (setting_of N c x) σ c
  setting_onto σ = (number_at σ, number_low σ, agree_number (setting_of N c (number_at σ)) σ (setting_number (number_at σ) (number_low σ)))

  -- and with one only
  pub setting_one : (x y : ℕ) → x < 2 ^ reticulation_count N c → y < 2 ^ reticulation_count N c → Agree N (setting_of N c x) (setting_of N c y) c → x ≡ y
  setting_one x y lx ly a = sym (setting_number x lx) ∙ number_agree (setting_of N c x) (setting_of N c y) a ∙ setting_number y ly

  number_order : (σ τ : Switching) → number_at σ ≤ number_at τ → NotAfter In σ τ
  number_order σ τ l = by_less (number_at σ) (number_at τ)
      (λ m. let f = number_less (member_of N c) σ τ N.size m in
      before f.0 (member_is N c f.0 f.3) (λ q u k. f.4 q u (reticulation_node N ok q k.0).low (is_member N c q k.0 k.1)) f.5 f.6)
      (λ m. equal (λ r k. agree_number σ τ (omega arith) r k.0 k.1))

  order_number : (σ τ : Switching) → NotAfter In σ τ → number_at σ ≤ number_at τ
  order_number σ τ f = by_less (number_at τ) (number_at σ)
      (λ m. omega (arith, number_agree σ τ (λ r d e. order_anti f (number_order τ σ (omega arith)) r (d, e)))) (λ m. m)

  -- the order of numbers is the order by first difference, among the reticulations of component c
  pub setting_order : (x y : ℕ) → x < 2 ^ reticulation_count N c → y < 2 ^ reticulation_count N c → (x ≤ y) ↔ NotAfter In (setting_of N c x) (setting_of N c y)
  setting_order x y lx ly = (
    λ l. number_order (setting_of N c x) (setting_of N c y) (omega (arith, setting_number x lx, setting_number y ly)),
    λ f. omega (arith, order_number (setting_of N c x) (setting_of N c y) f, setting_number x lx, setting_number y ly),
  )

  -- outside the component every setting is principal, and setting 0 is principal everywhere
  pub setting_outside : (x r : ℕ) → Reticulation N r → component N r ≢ c → setting_of N c x r ≡ false
  unfolding setting_of
  setting_outside x r d q = by_bool (member_of N c r) (λ t. absurd (q (member_is N c r t).1)) (λ t. rw t)

  pub setting_principal : (r : ℕ) → setting_of N c 0 r ≡ false
  unfolding setting_of
  setting_principal r = rw (zero-div (2 ^ reticulations_after N c r)) (and_right (member_of N c r) _ (not_same {m = 0} {n = 1} (omega arith)))

-- only a top has reticulations of its own: the others are in no component of that number
pub reticulations_top : (N : Network) → Sound N → (c : ℕ) → 1 ≤ reticulation_count N c → is_top N c ≡ true
unfolding reticulation_count
reticulations_top N ok c l =
    let r = count_find N.size (member_of N c) l in
    rw (← (member_is N c r.0 r.3).1) (top_component N ok r.0)

-- the places of d before r, r and those after it
count_split : (n r : ℕ) (f : ℕ → Bool) → 1 ≤ r → r ≤ n → f r ≡ true → count n f ≡ count n (λ q. f q && under q r) + 1 + count n (λ q. f q && under r q)
unfolding count
count_split n r f l u t = sum_point n (λ q. tally (f q && under q r) + tally (f q && under r q)) (λ q. tally (f q)) r 1 l u
    (λ q d. by_order q r (λ m. rw (is_under m, not_under {m = r} {n = q} (omega arith)) (left (f q))) (λ e. absurd (d e)) (λ m. rw (is_under m, not_under {m = q} {n = r} (omega arith)) (right (f q))))
    (rw (t, not_under {m = r} {n = r} (omega arith)))
    ∙ omega (arith, sum_add n (λ q. tally (f q && under q r)) (λ q. tally (f q && under r q)))
  where
    left : (b : Bool) → tally b ≡ tally (b && true) + tally (b && false)
    left true = refl
    left false = refl

    right : (b : Bool) → tally b ≡ tally (b && false) + tally (b && true)
    right true = refl
    right false = refl

-- "whose highest bit belongs to the lowest-numbered reticulation": the bit of a reticulation counts down from the highest by its index
pub index_bit : (N : Network) → Sound N → (r : ℕ) → Reticulation N r → index_of N r + 1 + reticulations_after N (component N r) r ≡ reticulation_count N (component N r)
unfolding index_of reticulations_after reticulation_count
index_bit N ok r d =
    let k = reticulation_node N ok r d in
    sym (count_split N.size r (member_of N (component N r)) k.low k.high (is_member N (component N r) r d refl))
