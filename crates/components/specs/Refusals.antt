-- Refusal 11 of 01: a test that computes, and beside it what 01 says (`Refusal11`), which proofs/Readings shows to be the same in a sound network.
-- Assumes nothing.
use Rattle.std.specs.Prelude.{◌≡◌, ◌↔◌, Bool, true, List, [], ◌∷◌, ℕ, ◌<◌}
use Rattle.finite.specs.Tests.{under}
use Rattle.finite.specs.Range.{any, count}
use Rattle.finite.specs.Refusals.{Refusal}
use Rattle.topology.specs.Networks.{Network, Node, Reticulation}
use Rattle.topology.specs.Components.{Linked, reticulation_count}
use Rattle.topology.specs.Lines.{NodeLines, network}

-- 11: "a component holds more than 8 reticulations". A component goes by its top, so c is the top of one
unfoldable pub crowded_at : Network → ℕ → Bool
crowded_at N c = under 8 (reticulation_count N c)

unfoldable pub refusal11 : Network → Bool
refusal11 N = any N.size (crowded_at N)

-- the reticulations that walks without cut arcs link with a node, told by a test, are more than 8
pub record Refusal11 (N : Network) : Type 0 where
  pub node : ℕ
  pub is_node : Node N node
  pub inside : ℕ → Bool
  pub inside_iff : (r : ℕ) → (inside r ≡ true) ↔ (Reticulation N r × Linked N node r)
  pub more : 8 < count N.size inside

-- the refusals that the components of a network can cause, in the order of checking
unfoldable pub component_refusals : NodeLines → List Refusal
component_refusals L = record { number = 11; test = refusal11 (network L); condition = Refusal11 (network L) } ∷ []
