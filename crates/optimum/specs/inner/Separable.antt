-- Optimisation in parts. Places that pass D are to be set, each belongs to the part `part r`, and v in 1..n is charged w σ v; the charge of v
-- depends only on how the places of v's own part are set.
-- Assumes nothing.
use Rattle.std.specs.Prelude.{◌≡◌, false, cond, ℕ, ◌≤◌}
use Rattle.finite.specs.Tests.{same}
use Rattle.finite.specs.Range.{sum}
use Rattle.topology.specs.Switchings.{Switching, NotAfter}

pub record Separable (n : ℕ) (D : ℕ → Type 0) (part : ℕ → ℕ) (w : Switching → ℕ → ℕ) : Type 0 where
  pub test : (r : ℕ) → Dec (D r)
  pub low : (r : ℕ) → D r → 1 ≤ r
  pub high : (r : ℕ) → D r → r ≤ n
  pub parts : (r : ℕ) → D r → part r ≤ n
  pub near : (σ τ : Switching) (v : ℕ) → 1 ≤ v → v ≤ n → ((r : ℕ) → D r → part r ≡ part v → σ r ≡ τ r) → w σ v ≡ w τ v

-- σ at the places of part c, false elsewhere
unfoldable pub only : (ℕ → ℕ) → ℕ → Switching → Switching
only part c σ r = cond (same (part r) c) (σ r) false

-- each part's own choice
unfoldable pub joined : (ℕ → ℕ) → (ℕ → Switching) → Switching
joined part best r = best (part r) r

-- best c is least for part c, all other parts false, and the first of those that are as little
pub record BestParts (n : ℕ) (D : ℕ → Type 0) (part : ℕ → ℕ) (w : Switching → ℕ → ℕ) (best : ℕ → Switching) : Type 0 where
  pub least : (c : ℕ) (τ : Switching) → sum n (w (only part c (best c))) ≤ sum n (w (only part c τ))
  pub first : (c : ℕ) (τ : Switching) → sum n (w (only part c (best c))) ≡ sum n (w (only part c τ)) → NotAfter (λ r. D r × (part r ≡ c)) (best c) τ
