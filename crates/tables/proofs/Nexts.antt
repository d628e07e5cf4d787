-- The turns of the pass that notes each child at its parent, from the highest down: an entry is the lowest child among those passed.
-- A child that is its parent's next one replaces the entry, for it is lower; any other leaves the entries of 1 to n as they are.
-- Assumes nothing.
use Rattle.std.proofs.Common.{◌≡◌, ◌≢◌, ℕ, ◌-◌, ◌≤◌, ◌<◌, Bool, true, false, ◌&&◌, refl, sym, ap, ◌∙◌, arith}
use Rattle.finite.specs.Tests.{same, under}
use Rattle.finite.specs.Range.{first}
use Rattle.finite.proofs.Cases.{by_eq, by_less, by_order, clash}
use Rattle.std.proofs.lemmas.Bool.{and_from, and_left, and_right}
use Rattle.finite.proofs.Tests.{and_l, and_r, is_same, same_is, not_same, is_under, under_is, not_under}
use Rattle.finite.proofs.Every.{first_is, first_none, first_low, first_only, first_same}
use Rattle.tables.specs.Children.{is_next, next, inside, inside_after}

-- the place of a child in the pass
pub inside_out : (n p : ℕ) → n < p → 0 ≡ inside n p
unfolding inside
inside_out n p l = rw (is_under l)

pub inside_in : (n p : ℕ) → p ≤ n → p ≡ inside n p
unfolding inside
inside_in n p l = rw (not_under l)

pub inside_high : (n p : ℕ) → inside n p ≤ n
inside_high n p = by_less n p (λ h. omega (arith, inside_out n p h)) (λ h. omega (arith, inside_in n p h))

module _ (n : ℕ) (after : ℕ → ℕ) (p w q a : ℕ) (e : q ≡ inside n p) (f : a ≡ after q) where
  pub after_no : w ≤ a → 0 ≡ inside_after n after p w
  unfolding inside_after
  after_no l = rw (← e, not_under {m = after q} {n = w} (omega arith))

  pub after_yes : a < w → q ≡ inside_after n after p w
  unfolding inside_after
  after_yes l = rw (← e, is_under {m = after q} {n = w} (omega arith))

-- a slot that is not 0 is the parent, and a parent that is no slot has no such child
slot_is : (n : ℕ) (after : ℕ → ℕ) (p w q : ℕ) → q ≡ inside_after n after p w → 1 ≤ q → (q ≡ p) × (after p < w)
slot_is n after p w q e l = by_less (after (inside n p)) w
    (λ h. let y = after_yes n after p w (inside n p) (after (inside n p)) refl refl h in
    by_less n p (λ g. absurd (omega (arith, inside_out n p g))) (λ g. let i = inside_in n p g in (omega arith, rw (← i) at h)))
    (λ h. absurd (omega (arith, after_no n after p w (inside n p) (after (inside n p)) refl refl h)))

slot_not : (n : ℕ) (after : ℕ → ℕ) (p w q : ℕ) → q ≡ inside_after n after p w → (v : ℕ) → v ≤ n → v ≡ p → v ≢ q → w ≤ after v
slot_not n after p w q e v u ep d = by_less (after v) w
    (λ h. absurd (d (ep ∙ after_yes n after p w p (after p) (inside_in n p (omega arith)) refl (rw ep at h) ∙ sym e)))
    (λ h. h)

pub ruleset slots = (inside_out, inside_in, after_no, after_yes)

-- the lowest above w that passes: w itself, or what it was
abbrev pub lowest : ℕ → (ℕ → Bool) → ℕ → ℕ
lowest n f w = first n (λ x. under w x && f x)

pub lowest_yes : (n w : ℕ) (f : ℕ → Bool) → 1 ≤ w → w ≤ n → f w ≡ true → w ≡ lowest n f (w - 1)
lowest_yes n w f l u t = sym (first_only n w (λ x. under (w - 1) x && f x) l u (and_from (under (w - 1) w) (f w) (is_under (omega arith)) t)
    (λ x a b. and_left (under (w - 1) x) (f x) (not_under (omega arith))))

pub lowest_no : (n w : ℕ) (f : ℕ → Bool) → 1 ≤ w → f w ≡ false → lowest n f w ≡ lowest n f (w - 1)
lowest_no n w f l t = first_same n (λ x. under w x && f x) (λ x. under (w - 1) x && f x) (λ x a b. by_order x w
    (λ h. and_left (under w x) (f x) (not_under (omega arith)) ∙ sym (and_left (under (w - 1) x) (f x) (not_under (omega arith))))
    (λ h. rw h (and_right (under w w) (f w) t ∙ sym (and_right (under (w - 1) w) (f w) t)))
    (λ h. rw (is_under h, is_under {m = w - 1} {n = x} (omega arith))))

module _ (n : ℕ) (f after : ℕ → ℕ) where
  -- what is written at 1..n is a child of it above its entry, and it is noted nowhere else
  pub noted_here : (w p q : ℕ) → p ≡ f w → q ≡ inside_after n after p w → 1 ≤ q → is_next f (after q) q w ≡ true
  unfolding is_next
  noted_here w p q ep eq l =
      let r = slot_is n after p w q eq l in
      let e = r.0 in
      rw e (and_from (under (after p) w) (same (f w) p) (is_under r.1) (is_same (sym ep)))

  pub noted_not : (w p q : ℕ) → p ≡ f w → q ≡ inside_after n after p w → (v : ℕ) → v ≤ n → v ≢ q → is_next f (after v) v w ≡ false
  unfolding is_next
  noted_not w p q ep eq v u d = by_eq (f w) v
      (λ e. and_left (under (after v) w) (same (f w) v) (not_under (slot_not n after p w q eq v u (sym (ep ∙ e)) d)))
      (λ e. and_right (under (after v) w) (same (f w) v) (not_same e))

-- what the next one is: in the range, above a, with the entry x; none between has that entry, and none above a has it where there is no next one
module _ (n : ℕ) (l : ℕ → ℕ) (a x : ℕ) where
  pub next_is : next n l a x ≢ 0 → (next n l a x ≤ n) × (a < next n l a x) × (l (next n l a x) ≡ x)
  unfolding next is_next
  next_is d =
      let r = first_is n (is_next l a x) d in
      (r.0, under_is a _ (and_l _ _ r.1), same_is _ x (and_r (under a (next n l a x)) _ r.1))

  pub next_none : next n l a x ≡ 0 → (v : ℕ) → a < v → v ≤ n → l v ≢ x
  unfolding next is_next
  next_none e v h u q = clash (and_from (under a v) (same (l v) x) (is_under h) (is_same q)) (first_none n (is_next l a x) e v (omega arith) u)

  pub next_low : (v : ℕ) → a < v → v < next n l a x → l v ≢ x
  unfolding next is_next
  next_low v h u q = clash (and_from (under a v) (same (l v) x) (is_under h) (is_same q)) (first_low n (is_next l a x) v (omega arith) u)

-- the next one by the parents of 1..n alone
pub next_same : (n : ℕ) (f g : ℕ → ℕ) (a x : ℕ) → ((v : ℕ) → 1 ≤ v → v ≤ n → f v ≡ g v) → next n f a x ≡ next n g a x
unfolding next is_next
next_same n f g a x e = first_same n _ _ (λ v l u. ap (λ (y : ℕ). under a v && same y x) (e v l u))
