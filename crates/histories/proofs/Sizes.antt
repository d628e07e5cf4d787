-- How many genes lie below a gene: those below its two children are apart, for of two genes above a third one is above the other.
-- Assumes nothing.
use Rattle.std.proofs.Common.{◌≡◌, refl, sym, ◌≢◌, ◌⊎◌, inl, inr, ⊎_elim, Bool, true, false, ◌&&◌, not, ℕ, suc, ◌+◌, ◌≤◌, ◌<◌, arith}
use Rattle.finite.specs.Tests.{same, tally}
use Rattle.finite.specs.Range.{count}
use Rattle.finite.proofs.Cases.{by_eq, by_bool, clash}
use Rattle.std.proofs.lemmas.Bool.{and_from, and_right, not_from_false, not_from_true}
use Rattle.finite.proofs.Tests.{and_l, is_same, not_same, tally_yes, tally_no, tally_imp}
use Rattle.finite.proofs.Sum.{sum_add, sum_le}
use Rattle.finite.proofs.Count.{count_less, count_le}
use Rattle.topology.specs.Climbing.{Falls, over}
use Rattle.topology.proofs.Climbing.{climb_ind, over_self, over_up, over_not, over_zero, over_cases, over_trans, over_low}
use Rattle.reconciliation.specs.GeneTrees.{GeneTree, Rooted}

-- a gene's own number bounds the way up from it
abbrev number : ℕ → ℕ
number g = g

module _ (up : ℕ → ℕ) (f : Falls number up) where
  -- two genes above a third: one is above the other
  chain : (a b : ℕ) → a ≢ 0 → (u : ℕ) → over number up a u ≡ true → over number up b u ≡ true → (over number up a b ≡ true) ⊎ (over number up b a ≡ true)
  chain a b d = climb_ind number up f (λ u. over number up a u ≡ true → over number up b u ≡ true → (over number up a b ≡ true) ⊎ (over number up b a ≡ true))
      (λ p q. clash p (over_zero number up f a d))
      (λ x n ih p q. over_cases number up f a x p
      (λ e. inr (rw e q))
      (λ _ p₂. over_cases number up f b x q (λ e. inl (rw e p)) (λ _ q₂. ih (up x) (f.fall x n) p₂ q₂)))

  -- the genes below two children of one gene are apart
  pub siblings : (g a b : ℕ) → a ≢ 0 → b ≢ 0 → a ≢ b → up a ≡ g → up b ≡ g → (u : ℕ) → over number up a u ≡ true → over number up b u ≡ false
  siblings g a b na nb d ea eb u p = by_bool (over number up b u) (λ q. absurd (⊎_elim (λ r. no a b g na d ea eb r) (λ r. no b a g nb (λ e. d (sym e)) eb ea r) (chain a b na u p q))) (λ q. q)
    where
      no : (a b g : ℕ) → a ≢ 0 → a ≢ b → up a ≡ g → up b ≡ g → over number up a b ≡ true → ⊥
      no a b g na d ea eb r =
          let q : over number up a g ≡ true = rw (over_not number up f a b d, eb) at r in
          let l : g < a = rw ea at (f.fall a na) in
          by_eq a g (λ e. omega arith) (λ e. omega (arith, over_low number up f a g q e))

module _ (G : GeneTree) (t : Rooted G) where
  open G use {left, right, parent as up}

  pub up_falls : Falls number up
  up_falls = record {
    stay = by_eq (up 0) 0 (λ e. e) (λ d. absurd (omega (arith, less 0 d)));
    fall = λ x d. by_eq (up x) 0 (λ e. omega arith) (λ e. less x e);
  }
    where
      less : (x : ℕ) → up x ≢ 0 → up x < x
      less x d = let i = t.parent_inner x d in
          ⊎_elim (λ e. omega (arith, t.left_more (up x) i)) (λ e. omega (arith, t.right_more (up x) i)) (t.is_child x d)

  -- u is properly below g
  below : ℕ → ℕ → Bool
  below g u = over number up g u && not (same g u)

  -- a gene and those properly below it
  pub size : ℕ → ℕ
  size g = suc (count G.count (below g))

  pub size_low : (g : ℕ) → 1 ≤ size g
  unfolding size
  size_low g = omega arith

  pub size_le : (g : ℕ) → size g ≤ suc G.count
  unfolding size
  size_le g = omega (arith, count_le G.count (below g))

  -- the genes properly below g, and g itself
  size_over : (a : ℕ) → 1 ≤ a → a ≤ G.count → size a ≤ count G.count (over number up a)
  unfolding size below
  size_over a l u = omega (
    arith,
    count_less G.count a (below a) (over number up a) (λ v t. and_l (over number up a v) _ t) l u
        (and_right (over number up a a) (not (same a a)) (not_from_true (same a a) (is_same {m = a} refl))) (over_self number up up_falls a),
  )

  module _ (g : ℕ) (d : left g ≢ 0) where
    right_some : right g ≢ 0
    right_some e = omega (arith, t.right_more g d)

    child_below : (c u : ℕ) → up c ≡ g → g < c → over number up c u ≡ true → below g u ≡ true
    unfolding below
    child_below c u e l p =
        let q = over_trans number up up_falls g c u (over_up number up up_falls g c (rw e (over_self number up up_falls g))) p in
        and_from (over number up g u) (not (same g u)) q (not_from_false (same g u) (not_same {m = g} {n = u} (λ r. by_eq c u (λ s. omega arith) (λ s. omega (arith, over_low number up up_falls c u p s)))))

    -- a gene's size exceeds its children's together
    pub size_splits : size (left g) + size (right g) < size g
    unfolding size count
    size_splits = omega (
      arith,
      size_over (left g) (omega arith) (t.left_in g d),
      size_over (right g) (omega (arith, right_some)) (t.right_in g d),
      sum_add G.count (λ u. tally (over number up (left g) u)) (λ u. tally (over number up (right g) u)),
      sum_le G.count (λ u. tally (over number up (left g) u) + tally (over number up (right g) u)) (λ u. tally (below g u)) (λ u _ _. apart u),
    )
      where
        apart : (u : ℕ) → tally (over number up (left g) u) + tally (over number up (right g) u) ≤ tally (below g u)
        apart u = by_bool (over number up (left g) u)
            (λ y. omega (
              arith,
              tally_yes (over number up (left g) u) y,
              tally_no (over number up (right g) u) (siblings up up_falls g (left g) (right g) d right_some (t.apart g d) (t.left_parent g d) (t.right_parent g d) u y),
              tally_yes (below g u) (child_below (left g) u (t.left_parent g d) (t.left_more g d) y),
            ))
            (λ y. omega (
              arith,
              tally_no (over number up (left g) u) y,
              tally_imp (over number up (right g) u) (below g u) (λ q. child_below (right g) u (t.right_parent g d) (t.right_more g d) q),
            ))
