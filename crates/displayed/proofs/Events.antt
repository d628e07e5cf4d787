-- The event of a gene by what 01 says of it: 0 exactly for a leaf gene, 2 exactly when a child sits at the same node, 3 exactly when none does and an on
-- secondary arc leaves the node, 1 otherwise. The four cases exclude each other, so each reading holds both ways.
-- Assumes nothing.
use Rattle.std.proofs.Common.{◌≡◌, refl, ◌≢◌, ◌↔◌, ◌⊎◌, inl, inr, true, false, cond, ◌||◌, ℕ, ◌≤◌, arith}
use Rattle.finite.specs.Tests.{same}
use Rattle.finite.proofs.Cases.{by_bool, by_eq, clash}
use Rattle.std.proofs.lemmas.Bool.{or_right}
use Rattle.finite.proofs.Tests.{is_same, same_is, not_same, and_l, and_r}
use Rattle.finite.proofs.Every.{some_at, is_some}
use Rattle.reconciliation.specs.GeneTrees.{GeneTree}
use Rattle.displayed.specs.Displayed.{Displayed, NodeOf}
use Rattle.displayed.specs.Mapping.{place, sends, sits, duplicates_at, is_duplication, event}

-- an on arc that is a transfer leaves v
pub record Sends (T : Displayed) (v : ℕ) : Type 0 where
  pub end : ℕ
  pub end_node : NodeOf T end
  pub on : T.lateral end ≡ true
  pub from : T.up end ≡ v

pub sends_is : (T : Displayed) (v : ℕ) → sends T v ≡ true → Sends T v
unfolding sends
sends_is T v t =
    let r = some_at T.size _ t in
    record { end = r.0; end_node = omega (arith, r.1, r.2); on = and_l (T.lateral r.0) _ r.3; from = same_is _ _ (and_r (T.lateral r.0) _ r.3) }

pub is_sends : (T : Displayed) (v : ℕ) → Sends T v → sends T v ≡ true
unfolding sends
is_sends T v r = is_some T.size r.end _ r.end_node.low r.end_node.high (rw (r.on, is_same r.from))

module _ (T : Displayed) (G : GeneTree) (g : ℕ) where
  -- a child of g sits where g sits
  abbrev pub ChildHere : Type 0
  ChildHere = (place T G (G.left g) ≡ place T G g) ⊎ (place T G (G.right g) ≡ place T G g)

  -- for the code: the test of an inner gene
  pub duplication_inner : G.left g ≢ 0 → is_duplication T G g ≡ (same (place T G (G.left g)) (place T G g) || same (place T G (G.right g)) (place T G g))
  unfolding is_duplication duplicates_at sits
  duplication_inner d = rw (not_same d)

  pub duplication_leaf : G.left g ≡ 0 → is_duplication T G g ≡ false
  unfolding is_duplication duplicates_at
  duplication_leaf e = rw (is_same e)

  pub event_leaf : G.left g ≡ 0 → event T G g ≡ 0
  unfolding event
  event_leaf e = rw (is_same e)

  pub event_inner : G.left g ≢ 0
      → event T G g ≡ cond (same (place T G (G.left g)) (place T G g) || same (place T G (G.right g)) (place T G g)) 2 (cond (sends T (place T G g)) 3 1)
  unfolding event
  event_inner d = rw (not_same d, duplication_inner d)

  pub duplication_is : is_duplication T G g ≡ true → (G.left g ≢ 0) × ChildHere
  duplication_is t = by_eq (G.left g) 0 (λ e. clash t (duplication_leaf e))
      (λ d. (d, by_eq (place T G (G.left g)) (place T G g) (λ e. inl e) (λ n. inr (same_is _ _ (rw (duplication_inner d, not_same n) at t)))))

  pub is_duplication_lem : G.left g ≢ 0 → ChildHere → is_duplication T G g ≡ true
  is_duplication_lem d (inl e) = rw (duplication_inner d, is_same e)
  is_duplication_lem d (inr e) = rw (duplication_inner d) (or_right (same (place T G (G.left g)) (place T G g)) _ (is_same e))

  no_duplication : (¬ ChildHere) → is_duplication T G g ≡ false
  no_duplication n = by_bool (is_duplication T G g) (λ t. absurd (n (duplication_is t).1)) (λ t. t)

  -- the events of inner genes
  event_duplication : G.left g ≢ 0 → ChildHere → event T G g ≡ 2
  unfolding event
  event_duplication d h = rw (not_same d, is_duplication_lem d h)

  event_transfer : G.left g ≢ 0 → (¬ ChildHere) → Sends T (place T G g) → event T G g ≡ 3
  unfolding event
  event_transfer d n r = rw (not_same d, no_duplication n, is_sends T (place T G g) r)

  event_speciation : G.left g ≢ 0 → (¬ ChildHere) → (¬ (Sends T (place T G g))) → event T G g ≡ 1
  unfolding event
  event_speciation d n m = rw (not_same d, no_duplication n, by_bool (sends T (place T G g)) (λ t. absurd (m (sends_is T (place T G g) t))) (λ t. t))

  -- one of the four holds
  pub by_event : {A : Type 0} → (G.left g ≡ 0 → A) → (G.left g ≢ 0 → ChildHere → A) → (G.left g ≢ 0 → (¬ ChildHere) → Sends T (place T G g) → A)
      → (G.left g ≢ 0 → (¬ ChildHere) → (¬ (Sends T (place T G g))) → A) → A
  by_event f₀ f₂ f₃ f₁ = by_eq (G.left g) 0 f₀ (λ d. by_bool (is_duplication T G g) (λ t. f₂ d (duplication_is t).1)
      (λ t. let n : ¬ ChildHere = λ h. clash (is_duplication_lem d h) t in
      by_bool (sends T (place T G g)) (λ q. f₃ d n (sends_is T (place T G g) q)) (λ q. f₁ d n (λ r. clash (is_sends T (place T G g) r) q))))

  pub event_2_iff : (event T G g ≡ 2) ↔ ((G.left g ≢ 0) × ChildHere)
  event_2_iff = (
    (λ e. by_event (λ z. absurd (omega (arith, event_leaf z))) (λ d h. (d, h)) (λ d n r. absurd (omega (arith, event_transfer d n r)))
        (λ d n m. absurd (omega (arith, event_speciation d n m)))),
    λ h. event_duplication h.0 h.1,
  )

  pub event_3_iff : (event T G g ≡ 3) ↔ ((G.left g ≢ 0) × (¬ ChildHere) × Sends T (place T G g))
  event_3_iff = (
    (λ e. by_event (λ z. absurd (omega (arith, event_leaf z))) (λ d h. absurd (omega (arith, event_duplication d h))) (λ d n r. (d, n, r))
        (λ d n m. absurd (omega (arith, event_speciation d n m)))),
    λ h. event_transfer h.0 h.1 h.2,
  )

  pub event_1_iff : (event T G g ≡ 1) ↔ ((G.left g ≢ 0) × (¬ ChildHere) × (¬ (Sends T (place T G g))))
  event_1_iff = (
    (λ e. by_event (λ z. absurd (omega (arith, event_leaf z))) (λ d h. absurd (omega (arith, event_duplication d h)))
        (λ d n r. absurd (omega (arith, event_transfer d n r))) (λ d n m. (d, n, m))),
    λ h. event_speciation h.0 h.1 h.2,
  )

  -- the test that counts duplications
  pub event_test : same (event T G g) 2 ≡ is_duplication T G g
  event_test = by_bool (is_duplication T G g)
      (λ t. rw (event_duplication (duplication_is t).0 (duplication_is t).1, t) (is_same {m = 2} refl))
      (λ t. rw t (not_same (λ e. let h = event_2_iff.0 e in clash (is_duplication_lem h.0 h.1) t)))

  pub event_small : event T G g ≤ 3
  event_small = by_event (λ z. omega (arith, event_leaf z)) (λ d h. omega (arith, event_duplication d h)) (λ d n r. omega (arith, event_transfer d n r))
      (λ d n m. omega (arith, event_speciation d n m))
