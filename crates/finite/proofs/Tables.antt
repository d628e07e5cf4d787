-- The laws of a filled table and of a list of zeros: what they hold at each place.
-- Assumes nothing.
use Rattle.std.proofs.Common.{ℕ, zero, suc, ◌≤◌, ◌<◌, ◌≡◌, refl, sym, ◌∙◌, List, length, length-set, replicate, get_or-set_same, get_or-set_other, arith}
use mathlib.Core.Path.{fun_ext}
use lib.ListN.{length-replicate}
use Rattle.finite.specs.Tests.{under}
use Rattle.finite.specs.Tables.{at, zeros, filled, within}
use Rattle.finite.proofs.Cases.{by_eq, by_order, by_less}
use Rattle.std.proofs.lemmas.Bool.{and_right}
use Rattle.finite.proofs.Tests.{is_under, not_under}

pub length_filled : (k : ℕ) (l : List ℕ) (f : ℕ → ℕ) → length (filled k l f) ≡ length l
unfolding filled
length_filled zero l f = refl
length_filled (suc k) l f = rw length-set (length_filled k l f)

-- f at 1..k, what it held elsewhere
pub filled_in : (k : ℕ) (l : List ℕ) (f : ℕ → ℕ) (v : ℕ) → 1 ≤ v → v ≤ k → k < length l → at (filled k l f) v ≡ f v
unfolding filled
filled_in zero l f v a b h = absurd (omega arith)
filled_in (suc k) l f v a b h = by_eq v (suc k)
    (λ e. rw e (get_or-set_same (filled k l f) (suc k) (f (suc k)) 0 (omega (arith, length_filled k l f))))
    (λ d. get_or-set_other (filled k l f) (suc k) v (f (suc k)) 0 d ∙ filled_in k l f v a (omega arith) (omega arith))

pub filled_out : (k : ℕ) (l : List ℕ) (f : ℕ → ℕ) (v : ℕ) → k < v → at (filled k l f) v ≡ at l v
unfolding filled
filled_out zero l f v h = refl
filled_out (suc k) l f v h = get_or-set_other (filled k l f) (suc k) v (f (suc k)) 0 (λ e. omega arith) ∙ filled_out k l f v (omega arith)

pub filled_zero : (k : ℕ) (l : List ℕ) (f : ℕ → ℕ) → at (filled k l f) 0 ≡ at l 0
unfolding filled
filled_zero zero l f = refl
filled_zero (suc k) l f = get_or-set_other (filled k l f) (suc k) 0 (f (suc k)) 0 (λ e. omega arith) ∙ filled_zero k l f

-- f at 1..n, 0 elsewhere
pub within_in : (n : ℕ) (f : ℕ → ℕ) (v : ℕ) → 1 ≤ v → v ≤ n → within n f v ≡ f v
unfolding within
within_in n f v a b = rw (is_under {m = 0} {n = v} (omega arith), is_under {m = v} {n = suc n} (omega arith))

pub within_zero : (n : ℕ) (f : ℕ → ℕ) → within n f 0 ≡ 0
unfolding within
within_zero n f = rw (not_under {m = 0} {n = 0} (omega arith))

pub within_out : (n : ℕ) (f : ℕ → ℕ) (v : ℕ) → n < v → within n f v ≡ 0
unfolding within
within_out n f v l = rw (and_right (under 0 v) (under v (suc n)) (not_under {m = v} {n = suc n} (omega arith)))

-- f and g agree at 1..n
pub within_same : (n : ℕ) (f g : ℕ → ℕ) → ((v : ℕ) → 1 ≤ v → v ≤ n → f v ≡ g v) → within n f ≡ within n g
within_same n f g e = fun_ext (λ v. by_eq v 0 (λ z. rw z (within_zero n f ∙ sym (within_zero n g)))
    (λ d. by_less n v (λ l. within_out n f v l ∙ sym (within_out n g v l)) (λ l. within_in n f v (omega arith) l ∙ e v (omega arith) l ∙ sym (within_in n g v (omega arith) l))))

-- a table of zeros filled at 1..n
pub filled_within : (n : ℕ) (l : List ℕ) (f : ℕ → ℕ) → n < length l → ((v : ℕ) → at l v ≡ 0) → at (filled n l f) ≡ within n f
filled_within n l f b z = fun_ext (λ v. by_eq v 0
    (λ q. rw q (filled_zero n l f ∙ z 0 ∙ sym (within_zero n f)))
    (λ d. by_order n v (λ g. filled_out n l f v g ∙ z v ∙ sym (within_out n f v g))
    (λ q. filled_in n l f v (omega arith) (omega arith) b ∙ sym (within_in n f v (omega arith) (omega arith)))
    (λ g. filled_in n l f v (omega arith) (omega arith) b ∙ sym (within_in n f v (omega arith) (omega arith)))))

-- a list of zeros holds 0 everywhere, also past its end
pub replicate_at : (k v : ℕ) → at (replicate k 0) v ≡ 0
replicate_at zero v = refl
replicate_at (suc k) zero = refl
replicate_at (suc k) (suc v) = replicate_at k v

pub zeros_long : length zeros ≡ 128
unfolding zeros
zeros_long = length-replicate {A = ℕ} 128 0

pub zeros_at : (v : ℕ) → at zeros v ≡ 0
unfolding zeros
zeros_at = replicate_at 128
