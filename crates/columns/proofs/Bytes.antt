-- `same_bytes` decides whether two lists of bytes are equal: by induction on both.
-- Assumes nothing.
use Rattle.std.proofs.Common.{ℕ, ◌≡◌, refl, true, List, [], ◌∷◌, eqb, eqb-true, eq-eqb}
use Rattle.finite.proofs.Tests.{and_l, and_r}
use Rattle.columns.specs.Fields.{same_bytes}

same_refl : (xs : List ℕ) → same_bytes xs xs ≡ true
unfolding same_bytes
same_refl [] = refl
same_refl (x ∷ xs) = simp (eq-eqb x x refl, same_refl xs)

pub same_eq : (xs ys : List ℕ) → same_bytes xs ys ≡ true → xs ≡ ys
unfolding same_bytes
same_eq [] [] e = refl
same_eq [] (y ∷ ys) e = cc
same_eq (x ∷ xs) [] e = cc
same_eq (x ∷ xs) (y ∷ ys) e =
    cc (eqb-true x y (and_l (eqb x y) (same_bytes xs ys) e), same_eq xs ys (and_r (eqb x y) (same_bytes xs ys) e))

pub eq_same : (xs ys : List ℕ) → xs ≡ ys → same_bytes xs ys ≡ true
eq_same xs ys e = rw e (same_refl ys)
