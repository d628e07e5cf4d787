-- The components of a network as 01 words them ("Settings and placement", first paragraph): pieces left when all cut arcs are taken away. What the report
-- says of them is said here of any functions and numbers; proofs/Pieces shows it of those that compute (crates topology and optimum).
-- Assumes nothing.
use Rattle.std.specs.Prelude.{◌≡◌, ◌↔◌, Bool, true, cond, ℕ, ◌^◌, ◌≤◌}
use Rattle.finite.specs.Tests.{same}
use Rattle.finite.specs.Range.{sum}
use Rattle.topology.specs.Networks.{Network, Node, Reticulation}
use Rattle.topology.specs.Components.{Linked, Top, TopOf}
use Rattle.readings.specs.Many.{Many}

module _ (N : Network) where
  -- v's component has k reticulations
  abbrev pub Holds : ℕ → ℕ → Type 0
  Holds v k = Many N (λ r. Reticulation N r × Linked N v r) k

  -- the top of each node's component, and by a component's top how many reticulations it has
  pub record Pieces (top held : ℕ → ℕ) : Type 0 where
    pub tops : (v : ℕ) → Node N v → TopOf N v (top v)
    pub linked : (v w : ℕ) → Node N v → Node N w → Linked N v w ↔ (top v ≡ top w)
    pub holds : (v : ℕ) → Node N v → Holds v (held (top v))

  -- "the sum of 2^k over components with k at least 1", each component by its top
  pub record SumOfTrials (trials : ℕ) : Type 0 where
    pub is_top : ℕ → Bool
    pub held : ℕ → ℕ
    pub told : (v : ℕ) → Node N v → (is_top v ≡ true) ↔ Top N v
    pub holds : (v : ℕ) → Node N v → Holds v (held v)
    pub number : trials ≡ sum N.size (λ v. cond (is_top v) (cond (same (held v) 0) 0 (2 ^ held v)) 0)

  -- "components that have any": as many tops as have a reticulation linked with them
  pub record WithAny (components : ℕ) : Type 0 where
    pub held : ℕ → ℕ
    pub holds : (v : ℕ) → Node N v → Holds v (held v)
    pub number : Many N (λ v. Top N v × (1 ≤ held v)) components
