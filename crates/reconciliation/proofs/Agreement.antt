-- Only what a switching says at reticulations counts: switchings that agree there have the same parent function and the same on secondary arcs, and
-- everything else is computed from these two.
-- Assumes nothing.
use mathlib.Core.Path.{fun_ext}
use mathlib.Core.Bool.{and-false}
use Rattle.std.proofs.Common.{◌≡◌, ℕ}
use Rattle.finite.proofs.Cases.{by_eq}
use Rattle.finite.proofs.Tests.{is_same}
use Rattle.topology.specs.Networks.{Network, Reticulation, is_reticulation}
use Rattle.topology.specs.Switchings.{Switching, on_secondary, parent}
use Rattle.topology.proofs.Above.{parent_agree}

module _ (N : Network) (σ τ : Switching) (a : (r : ℕ) → Reticulation N r → σ r ≡ τ r) where
  pub parent_same : parent N σ ≡ parent N τ
  parent_same = fun_ext (λ v. parent_agree N σ τ v (a v))

  pub secondary_same : on_secondary N σ ≡ on_secondary N τ
  unfolding on_secondary is_reticulation
  secondary_same = fun_ext (λ v. by_eq (N.secondary v) 0 (λ e. rw (is_same e, and-false (σ v), and-false (τ v))) (λ d. rw (a v d)))
