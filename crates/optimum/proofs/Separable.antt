-- Separable optimisation: replace the parts of any switching one after the other by the best ones; by the identity of four sums each exchange
-- changes the cost as it does with all other parts false, so the cost never rises. At equal cost every part was least, so the first difference of
-- the whole is the first difference of its part.
-- Assumes nothing.
use Rattle.std.proofs.Common.{◌≡◌, refl, sym, ◌∙◌, ap, ◌≢◌, ◌↔◌, false, cond, ℕ, zero, suc, ◌+◌, ◌≤◌, ◌<◌, arith}
use mathlib.Core.Bool.{Bool-discrete}
use Rattle.finite.specs.Tests.{under}
use Rattle.finite.specs.Range.{sum}
use Rattle.finite.proofs.Cases.{by_eq, by_order, clash}
use Rattle.finite.proofs.Tests.{is_same, not_same, is_under, not_under}
use Rattle.finite.proofs.Sum.{sum_same, sum_four}
use Rattle.topology.specs.Switchings.{Switching, NotAfter, equal, before}
use Rattle.optimum.specs.inner.Separable.{Separable, only, joined, BestParts}

pub only_in : (part : ℕ → ℕ) (c : ℕ) (σ : Switching) (r : ℕ) → part r ≡ c → only part c σ r ≡ σ r
unfolding only
only_in part c σ r e = rw (is_same e)

pub only_out : (part : ℕ → ℕ) (c : ℕ) (σ : Switching) (r : ℕ) → part r ≢ c → only part c σ r ≡ false
unfolding only
only_out part c σ r d = rw (not_same d)

-- the first difference below k
data Difference (D : ℕ → Type 0) (σ τ : Switching) (k : ℕ) : Type 0 where
  none : ((r : ℕ) → r < k → D r → σ r ≡ τ r) → Difference D σ τ k
  at : (r : ℕ) → D r → ((q : ℕ) → q < r → D q → σ q ≡ τ q) → σ r ≢ τ r → Difference D σ τ k

difference : (D : ℕ → Type 0) → ((r : ℕ) → Dec (D r)) → (σ τ : Switching) (k : ℕ) → Difference D σ τ k
difference D dec σ τ zero = none (λ r l. absurd (omega arith))
difference D dec σ τ (suc k) = go (difference D dec σ τ k)
  where
    last : ((r : ℕ) → r < k → D r → σ r ≡ τ r) → Dec (D k) → Dec (σ k ≡ τ k) → Difference D σ τ (suc k)
    last f (no q) e = none (λ r l d. by_eq r k (λ u. absurd (q (rw u at d))) (λ u. f r (omega arith) d))
    last f (yes d) (yes e) = none (λ r l d. by_eq r k (λ u. rw u e) (λ u. f r (omega arith) d))
    last f (yes d) (no e) = at k d f e

    go : Difference D σ τ k → Difference D σ τ (suc k)
    go (none f) = last f (dec k) (Bool-discrete (σ k) (τ k))
    go (at r d f e) = at r d f e

-- a on the parts below k, b on the others
mix : (ℕ → ℕ) → Switching → Switching → ℕ → Switching
mix part a b k r = cond (under (part r) k) (a r) (b r)

module _ (part : ℕ → ℕ) (a b : Switching) (k r : ℕ) where
  mix_low : part r < k → mix part a b k r ≡ a r
  unfolding mix
  mix_low l = rw (is_under l)

  mix_high : k ≤ part r → mix part a b k r ≡ b r
  unfolding mix
  mix_high l = rw (not_under l)

mix_skip : (part : ℕ → ℕ) (a b : Switching) (k r : ℕ) → part r ≢ k → mix part a b (suc k) r ≡ mix part a b k r
mix_skip part a b k r d =
    by_order (part r) k (λ l. mix_low part a b (suc k) r (omega arith) ∙ sym (mix_low part a b k r l)) (λ e. absurd (d e))
    (λ l. mix_high part a b (suc k) r l ∙ sym (mix_high part a b k r (omega arith)))

module _ (n : ℕ) (D : ℕ → Type 0) (part : ℕ → ℕ) (w : Switching → ℕ → ℕ) (S : Separable n D part w) (best : ℕ → Switching)
    (B : BestParts n D part w best) (τ : Switching) where
  abbrev whole : Switching
  whole = joined part best

  -- τ with the parts below k exchanged for the best ones
  abbrev exchanged : ℕ → Switching
  exchanged = mix part whole τ

  abbrev cost : Switching → ℕ
  cost σ = sum n (w σ)

  -- one part exchanged: the identity of four sums
  four : (c : ℕ) → cost (exchanged (suc c)) + cost (only part c τ) ≡ cost (exchanged c) + cost (only part c (best c))
  unfolding joined
  four c = sum_four n (w (exchanged (suc c))) (w (only part c τ)) (w (exchanged c)) (w (only part c (best c))) (λ v l u. by_eq (part v) c (here v l u) (there v l u))
    where
      here : (v : ℕ) → 1 ≤ v → v ≤ n → part v ≡ c → w (exchanged (suc c)) v + w (only part c τ) v ≡ w (exchanged c) v + w (only part c (best c)) v
      here v l u e =
          let a : w (exchanged (suc c)) v ≡ w (only part c (best c)) v =
          S.near (exchanged (suc c)) (only part c (best c)) v l u (λ r _ q.
          let e₂ : part r ≡ c = q ∙ e in
          mix_low part whole τ (suc c) r (omega arith) ∙ ap (λ (k : ℕ). best k r) e₂ ∙ sym (only_in part c (best c) r e₂)) in
          let b : w (only part c τ) v ≡ w (exchanged c) v =
          S.near (only part c τ) (exchanged c) v l u (λ r _ q.
          let e₂ : part r ≡ c = q ∙ e in
          only_in part c τ r e₂ ∙ sym (mix_high part whole τ c r (omega arith))) in
          omega arith

      there : (v : ℕ) → 1 ≤ v → v ≤ n → part v ≢ c → w (exchanged (suc c)) v + w (only part c τ) v ≡ w (exchanged c) v + w (only part c (best c)) v
      there v l u d =
          let a : w (exchanged (suc c)) v ≡ w (exchanged c) v =
          S.near (exchanged (suc c)) (exchanged c) v l u (λ r _ q. mix_skip part whole τ c r (λ e. d (sym q ∙ e))) in
          let b : w (only part c τ) v ≡ w (only part c (best c)) v =
          S.near (only part c τ) (only part c (best c)) v l u (λ r _ q.
          only_out part c τ r (λ e. d (sym q ∙ e)) ∙ sym (only_out part c (best c) r (λ e. d (sym q ∙ e)))) in
          omega arith

  begins : cost (exchanged 0) ≡ cost τ
  begins = sum_same n (w (exchanged 0)) (w τ) (λ v l u. S.near (exchanged 0) τ v l u (λ r _ q. mix_high part whole τ 0 r (omega arith)))

  ends : cost (exchanged (suc n)) ≡ cost whole
  ends = sum_same n (w (exchanged (suc n))) (w whole) (λ v l u. S.near (exchanged (suc n)) whole v l u (λ r t q. mix_low part whole τ (suc n) r (omega (arith, S.parts r t))))

  -- the parts below k exchanged
  chain : (k : ℕ) → cost (exchanged k) ≤ cost τ
  chain zero = omega (arith, begins)
  chain (suc c) = omega (arith, chain c, four c, B.least c τ)

  -- no switching costs less
  pub joined_least : cost (joined part best) ≤ cost τ
  joined_least = omega (arith, chain (suc n), ends)

  tight : (k : ℕ) → cost (exchanged k) ≡ cost τ → (c : ℕ) → c < k → cost (only part c (best c)) ≡ cost (only part c τ)
  tight zero e c l = absurd (omega arith)
  tight (suc j) e c l = by_eq c j (λ q. rw q (omega (arith, four j, B.least j τ, chain j)))
      (λ q. tight j (omega (arith, four j, B.least j τ, chain j)) c (omega arith))

  loose : ((c : ℕ) → c ≤ n → cost (only part c (best c)) ≡ cost (only part c τ)) → (k : ℕ) → k ≤ suc n → cost (exchanged k) ≡ cost τ
  loose h zero l = begins
  loose h (suc c) l = omega (arith, loose h c (omega arith), four c, h c (omega arith))

  -- least as a whole just when least in each part
  pub least_parts : (cost (joined part best) ≡ cost τ) ↔ ((c : ℕ) → c ≤ n → cost (only part c (best c)) ≡ cost (only part c τ))
  least_parts = ((λ e c l. tight (suc n) (ends ∙ e) c (omega arith)), λ h. sym ends ∙ loose h (suc n) (omega arith))

  -- of those that cost as little, this one is the first
  pub joined_first : cost (joined part best) ≡ cost τ → NotAfter D (joined part best) τ
  unfolding joined
  joined_first e = go (difference D S.test whole τ (suc n))
    where
      each : (c : ℕ) → c ≤ n → NotAfter (λ r. D r × (part r ≡ c)) (best c) τ
      each c l = B.first c τ (least_parts.0 e c l)

      meet : (r : ℕ) → D r → ((q : ℕ) → q < r → D q → whole q ≡ τ q) → whole r ≢ τ r
          → NotAfter (λ q. D q × (part q ≡ part r)) (best (part r)) τ → NotAfter D whole τ
      meet r d f x (equal g) = absurd (x (g r (d, refl)))
      meet r d f x (before q (d₂, e₂) g off on) =
          by_order q r (λ l. let own : best (part q) q ≡ τ q = f q l d₂ in clash on (sym own ∙ ap (λ (k : ℕ). best k q) e₂ ∙ off))
          (λ u. before r d f (rw u at off) (rw u at on))
          (λ l. absurd (x (g r l (d, refl))))

      go : Difference D whole τ (suc n) → NotAfter D whole τ
      go (none f) = equal (λ r d. f r (omega (arith, S.high r d)) d)
      go (at r d f x) = meet r d f x (each (part r) (S.parts r d))
