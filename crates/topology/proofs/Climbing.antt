-- The laws of climbing. A climb of bounded length does not depend on its bound once that covers the rank (`fuel`), so `seek`, `over`, `meet`
-- and `along` each satisfy the equation of one step; the rest is induction along the ranks (`climb_ind`).
-- Assumes nothing.
use Rattle.std.proofs.Common.{◌≡◌, refl, sym, ◌∙◌, ap, ◌≢◌, Bool, true, false, cond, ◌||◌, ◌&&◌, ℕ, zero, suc, ◌+◌, ◌≤◌, ◌<◌, arith}
use mathlib.Core.Bool.{or-true, and-false}
use Rattle.finite.specs.Tests.{same}
use Rattle.finite.proofs.Cases.{by_bool, by_eq, clash, measure}
use Rattle.finite.proofs.Tests.{is_same, not_same, cond_same}
use Rattle.topology.specs.Climbing.{seek_in, seek, Falls, over, meet, along_in, along}

module _ (h up : ℕ → ℕ) (F : Falls h up) where
  -- induction along any number of steps
  pub climb_ind : (P : ℕ → Type 0) → P 0 → ((x : ℕ) → x ≢ 0 → ((y : ℕ) → h y < h x → P y) → P x) → (x : ℕ) → P x
  climb_ind P base step = measure h P (λ x ih. by_eq x 0 (λ e. rw e base) (λ d. step x d ih))

  bottom : (x : ℕ) → h x ≤ 0 → x ≡ 0
  bottom x l = by_eq x 0 (λ e. e) (λ d. absurd (omega (arith, F.fall x d)))

  module _ (stop : ℕ → Bool) where
    seek_zero : (k : ℕ) → seek_in k stop up 0 ≡ 0
    unfolding seek_in
    seek_zero zero = refl
    seek_zero (suc k) = rw (F.stay, seek_zero k) (cond_same (stop 0) 0)

    fuel : (j k x : ℕ) → h x ≤ j → h x ≤ k → seek_in j stop up x ≡ seek_in k stop up x
    unfolding seek_in
    fuel zero k x a b = rw (bottom x a, seek_zero k)
    fuel (suc j) zero x a b = rw (bottom x b) (seek_zero (suc j))
    fuel (suc j) (suc k) x a b =
        by_eq x 0 (λ e. rw e (seek_zero (suc j) ∙ sym (seek_zero (suc k))))
        (λ d. let l : h (up x) < h x = F.fall x d in ap (λ (r : ℕ). cond (stop x) x r) (fuel j k (up x) (omega arith) (omega arith)))

    pub seek_eq : (x : ℕ) → seek h stop up x ≡ cond (stop x) x (seek h stop up (up x))
    unfolding seek seek_in
    seek_eq x = by_eq x 0 (λ e. rw (e, F.stay, seek_zero (h 0)) (sym (cond_same (stop 0) 0)))
        (λ d. let l : h (up x) < h x = F.fall x d in
        fuel (h x) (suc (h x)) x (omega arith) (omega arith)
        ∙ ap (λ (r : ℕ). cond (stop x) x r) (fuel (h x) (h (up x)) (up x) (omega arith) (omega arith)))

    -- from 0 there is nowhere to climb
    pub seek_none : seek h stop up 0 ≡ 0
    unfolding seek
    seek_none = seek_zero (h 0)

module _ (h up : ℕ → ℕ) (F : Falls h up) where
  pub over_eq : (v x : ℕ) → over h up v x ≡ (same v x || over h up v (up x))
  unfolding over
  over_eq v x = rw (seek_eq h up F (same v) x) (go (same v x) refl)
    where
      go : (b : Bool) → same v x ≡ b → same v (cond b x (seek h (same v) up (up x))) ≡ (b || same v (seek h (same v) up (up x)))
      go true e = e
      go false e = refl

  pub over_self : (x : ℕ) → over h up x x ≡ true
  over_self x = rw (over_eq x x, is_same {m = x} refl)

  pub over_up : (v x : ℕ) → over h up v (up x) ≡ true → over h up v x ≡ true
  over_up v x e = rw (over_eq v x, e) (or-true (same v x))

  pub over_not : (v x : ℕ) → v ≢ x → over h up v x ≡ over h up v (up x)
  over_not v x d = rw (over_eq v x, not_same d)

  pub over_zero : (v : ℕ) → v ≢ 0 → over h up v 0 ≡ false
  unfolding over seek
  over_zero v d = rw (seek_zero h up F (same v) (h 0)) (not_same d)

  pub over_cases : {A : Type 0} (v x : ℕ) → over h up v x ≡ true → (v ≡ x → A) → (v ≢ x → over h up v (up x) ≡ true → A) → A
  over_cases v x a f g = by_eq v x f (λ d. g d (sym (over_not v x d) ∙ a))

  pub over_trans : (u v x : ℕ) → over h up u v ≡ true → over h up v x ≡ true → over h up u x ≡ true
  over_trans u v x a = climb_ind h up F (λ x. over h up v x ≡ true → over h up u x ≡ true)
      (λ b. by_eq v 0 (λ e. rw e at a) (λ d. clash b (over_zero v d)))
      (λ x d ih b. over_cases v x b (λ e. rw e at a) (λ _ c. over_up u x (ih (up x) (F.fall x d) c))) x

  -- what is above and not the same is higher
  pub over_low : (v x : ℕ) → over h up v x ≡ true → v ≢ x → h v < h x
  over_low v x = climb_ind h up F (λ x. over h up v x ≡ true → v ≢ x → h v < h x)
      (λ b d. clash b (over_zero v d))
      (λ x d ih b ne. over_cases v x b (λ e. absurd (ne e)) (λ _ c.
      let l : h (up x) < h x = F.fall x d in
      by_eq v (up x) (λ e. rw e l) (λ k. omega (arith, ih (up x) l c k)))) x

  pub over_anti : (v x : ℕ) → over h up v x ≡ true → over h up x v ≡ true → v ≡ x
  over_anti v x a b = by_eq v x (λ e. e) (λ d. absurd (omega (arith, over_low v x a d, over_low x v b (λ e. d (sym e)))))

  -- the step below v on the way from x
  pub over_child : (v x : ℕ) → over h up v x ≡ true → v ≢ x → (c : ℕ) × (c ≢ 0) × (up c ≡ v) × (over h up c x ≡ true)
  over_child v x = climb_ind h up F (λ x. over h up v x ≡ true → v ≢ x → (c : ℕ) × (c ≢ 0) × (up c ≡ v) × (over h up c x ≡ true))
      (λ b d. clash b (over_zero v d))
      (λ x d ih b ne. over_cases v x b (λ e. absurd (ne e)) (λ _ c.
      by_eq v (up x) (λ e. (x, d, sym e, over_self x))
      (λ k. let r = ih (up x) (F.fall x d) c k in (r.0, r.1, r.2, over_up r.0 x r.3)))) x

  pub meet_zero : (y : ℕ) → meet h up 0 y ≡ 0
  unfolding meet seek
  meet_zero y = seek_zero h up F (λ a. over h up a y) (h 0)

  pub meet_stop : (x y : ℕ) → over h up x y ≡ true → meet h up x y ≡ x
  unfolding meet
  meet_stop x y t = seek_eq h up F (λ a. over h up a y) x ∙ rw t

  pub meet_go : (x y : ℕ) → over h up x y ≡ false → meet h up x y ≡ meet h up (up x) y
  unfolding meet
  meet_go x y t = seek_eq h up F (λ a. over h up a y) x ∙ rw t

  -- what is above both is above where they meet
  pub meet_spec : (v x y : ℕ) → v ≢ 0 → (over h up v x && over h up v y) ≡ over h up v (meet h up x y)
  meet_spec v x y z = climb_ind h up F (λ x. (over h up v x && over h up v y) ≡ over h up v (meet h up x y))
      (rw (meet_zero y, over_zero v z))
      (λ x d ih. by_bool (over h up x y) (λ t. rw (meet_stop x y t) (stop x t))
      (λ t. rw (meet_go x y t) (drop x t ∙ ih (up x) (F.fall x d)))) x
    where
      stop : (x : ℕ) → over h up x y ≡ true → (over h up v x && over h up v y) ≡ over h up v x
      stop x t = by_bool (over h up v x) (λ a. rw (a, over_trans v x y a t)) (λ a. rw a)

      drop : (x : ℕ) → over h up x y ≡ false → (over h up v x && over h up v y) ≡ (over h up v (up x) && over h up v y)
      drop x t = by_eq v x (λ e. let f : over h up v y ≡ false = rw e t in rw f (and-false (over h up v x) ∙ sym (and-false (over h up v (up x)))))
          (λ k. rw (over_not v x k))

module _ (h up : ℕ → ℕ) (F : Falls h up) where
  pub meet_same : (x y : ℕ) → x ≡ y → meet h up x y ≡ x
  meet_same x y e = rw (← e) (meet_stop h up F x x (over_self h up F x))

  pub meet_left : (x y : ℕ) → h y ≤ h x → x ≢ y → meet h up x y ≡ meet h up (up x) y
  meet_left x y l d = by_bool (over h up x y) (λ t. absurd (omega (arith, over_low h up F x y t d))) (λ t. meet_go h up F x y t)

  pub meet_right : (x y : ℕ) → h x < h y → meet h up x y ≡ meet h up x (up y)
  meet_right x y = climb_ind h up F (λ x. h x < h y → meet h up x y ≡ meet h up x (up y))
      (λ l. meet_zero h up F y ∙ sym (meet_zero h up F (up y)))
      (λ x d ih l.
      let e : over h up x y ≡ over h up x (up y) = over_not h up F x y (λ q. omega (arith, ap h q)) in
      by_bool (over h up x y)
      (λ t. meet_stop h up F x y t ∙ sym (meet_stop h up F x (up y) (sym e ∙ t)))
      (λ t. meet_go h up F x y t ∙ ih (up x) (F.fall x d) (omega (arith, F.fall x d)) ∙ sym (meet_go h up F x (up y) (sym e ∙ t)))) x

  -- of two that differ, the lower one is a node
  pub low_some : (x y : ℕ) → h y ≤ h x → x ≢ y → x ≢ 0
  low_some x y l d e = d (by_eq y 0 (λ q. e ∙ sym q) (λ q. absurd (omega (arith, low y q))))
    where
      low : (y : ℕ) → y ≢ 0 → h x < h y
      low y = climb_ind h up F (λ y. y ≢ 0 → h x < h y) (λ q. absurd (q refl))
          (λ y q ih _. by_eq (up y) 0 (λ z. let a : h (up y) < h y = F.fall y q in omega (arith, ap h z, ap h e)) (λ z. omega (arith, F.fall y q, ih (up y) (F.fall y q) z))) y

  module _ (f : ℕ → ℕ) (b : ℕ) where
    along_fuel : (j k a : ℕ) → over h up b a ≡ true → h a ≤ j → h a ≤ k → along_in j up f b a ≡ along_in k up f b a
    unfolding along_in
    along_fuel zero zero a t lj lk = refl
    along_fuel zero (suc k) a t lj lk = over_cases h up F b a t (λ e. rw (is_same (sym e)))
        (λ d _. by_eq a 0 (λ e. by_eq b 0 (λ q. absurd (d (q ∙ sym e))) (λ q. clash (rw e at t) (over_zero h up F b q))) (λ q. absurd (omega (arith, F.fall a q))))
    along_fuel (suc j) zero a t lj lk = over_cases h up F b a t (λ e. rw (is_same (sym e)))
        (λ d _. by_eq a 0 (λ e. by_eq b 0 (λ q. absurd (d (q ∙ sym e))) (λ q. clash (rw e at t) (over_zero h up F b q))) (λ q. absurd (omega (arith, F.fall a q))))
    along_fuel (suc j) (suc k) a t lj lk = over_cases h up F b a t (λ e. rw (is_same (sym e)))
        (λ d t₂. by_eq a 0 (λ e. by_eq b 0 (λ q. absurd (d (q ∙ sym e))) (λ q. clash (rw e at t) (over_zero h up F b q)))
        (λ q. let l : h (up a) < h a = F.fall a q in
        rw (not_same (λ z. d (sym z)), along_fuel j k (up a) t₂ (omega arith) (omega arith))))

    stop_in : (k a : ℕ) → a ≡ b → along_in k up f b a ≡ 0
    unfolding along_in
    stop_in zero a e = refl
    stop_in (suc k) a e = rw (is_same e)

    pub along_stop : (a : ℕ) → a ≡ b → along h up f b a ≡ 0
    unfolding along
    along_stop a e = stop_in (h a) a e

    -- a node that is not b, with b above it: its parent has b above it too
    pub along_some : (a : ℕ) → over h up b a ≡ true → a ≢ b → a ≢ 0
    along_some a t d e = by_eq b 0 (λ q. d (e ∙ sym q)) (λ q. clash (rw e at t) (over_zero h up F b q))

    pub along_over : (a : ℕ) → over h up b a ≡ true → a ≢ b → over h up b (up a) ≡ true
    along_over a t d = sym (over_not h up F b a (λ e. d (sym e))) ∙ t

    go_in : (k a : ℕ) → a ≢ b → along_in (suc k) up f b a ≡ f a + along_in k up f b (up a)
    unfolding along_in
    go_in k a d = rw (not_same d)

    pub along_go : (a : ℕ) → over h up b a ≡ true → a ≢ b → along h up f b a ≡ f a + along h up f b (up a)
    unfolding along
    along_go a t d =
        let l : h (up a) < h a = F.fall a (along_some a t d) in
        along_fuel (h a) (suc (h a)) a t (omega arith) (omega arith) ∙ go_in (h a) a d
        ∙ ap (λ (r : ℕ). f a + r) (along_fuel (h a) (h (up a)) (up a) (along_over a t d) (omega arith) (omega arith))

-- a climb stays below a bound that each parent keeps
seek_in_lem : (up : ℕ → ℕ) (stop : ℕ → Bool) (m : ℕ) → ((v : ℕ) → up v < m) → (k x : ℕ) → x < m → seek_in k stop up x < m
unfolding seek_in
seek_in_lem up stop m b zero x l = l
seek_in_lem up stop m b (suc k) x l = by_bool (stop x) (λ t. rw t l) (λ t. rw t (seek_in_lem up stop m b k (up x) (b x)))

-- where two climbs meet is above both, be it 0
module _ (h up : ℕ → ℕ) (F : Falls h up) where
  over_none : (y : ℕ) → over h up 0 y ≡ true
  over_none = climb_ind h up F (λ y. over h up 0 y ≡ true) (over_self h up F 0) (λ y d ih. over_up h up F 0 y (ih (up y) (F.fall y d)))

  pub meet_over_left : (x y : ℕ) → over h up (meet h up x y) x ≡ true
  meet_over_left x y = climb_ind h up F (λ x. over h up (meet h up x y) x ≡ true)
      (rw (meet_zero h up F y) (over_self h up F 0))
      (λ x d ih. by_bool (over h up x y) (λ t. rw (meet_stop h up F x y t) (over_self h up F x))
      (λ t. rw (meet_go h up F x y t) (over_up h up F _ x (ih (up x) (F.fall x d))))) x

  pub meet_over_right : (x y : ℕ) → over h up (meet h up x y) y ≡ true
  meet_over_right x y = climb_ind h up F (λ x. over h up (meet h up x y) y ≡ true)
      (rw (meet_zero h up F y) (over_none y))
      (λ x d ih. by_bool (over h up x y) (λ t. rw (meet_stop h up F x y t) t)
      (λ t. rw (meet_go h up F x y t) (ih (up x) (F.fall x d)))) x
