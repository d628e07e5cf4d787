-- The laws of the table of results: what a table without entries holds, and what a write changes and keeps.
-- Assumes nothing.
use Rattle.std.proofs.Common.{◌≡◌, ◌≢◌, ℕ, ◌<◌, List, length, set, ap, ◌∙◌, arith}
use Rattle.std.proofs.lemmas.List.{length-replicate, get_or-replicate, get_or-set_same, get_or-set_other, get_or_past}
use Rattle.finite.proofs.Cases.{by_eq, by_less}
use Rattle.layout.specs.declared.results.Placed.{Placed}
use Rattle.layout.specs.inner.Results.{unplaced, blank, placed}

pub blank_long : length blank ≡ 128
unfolding blank
blank_long = length-replicate 128 unplaced

pub blank_placed : (g : ℕ) → placed blank g ≡ unplaced
unfolding blank
blank_placed g = by_less g 128 (λ l. get_or-replicate 128 g unplaced unplaced l) (λ l. get_or_past blank g unplaced (omega (arith, length-replicate 128 unplaced)))

-- x is written of gene k
module _ (r : List Placed) (k : ℕ) (x : Placed) (l : k < length r) where
  pub written_here : placed (set r k x) k ≡ x
  written_here = get_or-set_same r k x unplaced l

  pub written_other : (g : ℕ) → g ≢ k → placed (set r k x) g ≡ placed r g
  written_other g d = get_or-set_other r k g x unplaced d

  -- what x says as before, the table says of every gene as before
  pub written_kept : (f : Placed → ℕ) → f x ≡ f (placed r k) → (g : ℕ) → f (placed (set r k x) g) ≡ f (placed r g)
  written_kept f e g = by_eq g k (λ q. rw q (ap f written_here ∙ e)) (λ d. ap f (written_other g d))
