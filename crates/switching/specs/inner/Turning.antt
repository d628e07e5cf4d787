-- The tree of a network while single reticulations are turned (01, "Settings and placement": "A setting turns on one parent arc of each reticulation").
-- Assumes nothing.
use Rattle.std.specs.Prelude.{◌≡◌, Bool, cond, List, ℕ, ◌+◌, ◌-◌, ◌≤◌, set}
use Rattle.finite.specs.Tests.{same}
use Rattle.finite.specs.Tables.{at}
use Rattle.topology.specs.Networks.{Network, Reticulation}
use Rattle.topology.specs.Switchings.{Switching}
use Rattle.layout.specs.declared.tree.Tree.{Tree}
use Rattle.layout.specs.inner.Tree.{Held}

-- σ with reticulation r turned: b tells whether to its secondary parent
unfoldable pub turned : Switching → ℕ → Bool → Switching
turned σ r b v = cond (same v r) b (σ v)

-- the "parent taken" (01, "The report") by a reticulation with secondary parent s and principal parent p
unfoldable pub parent_taken : Bool → (s p : ℕ) → ℕ
parent_taken b s p = cond b s p

-- an on arc that left p leaves q
unfoldable pub arc_moved : List ℕ → (p q : ℕ) → List ℕ
arc_moved arcs p q = let fewer = set arcs p (at arcs p - 1) in set fewer q (at fewer q + 1)

-- from tree t to tree s reticulation r is turned, whatever switching t held
pub record Turns (N : Network) (r : ℕ) (b : Bool) (t s : Tree) : Type 0 where
  pub holds : (σ : Switching) → Held N σ t → Held N (turned σ r b) s

-- the tree holds N under some switching
pub record SomeHeld (N : Network) (t : Tree) : Type 0 where
  pub switching : Switching
  pub held : Held N switching t

-- the same, and the reticulations up to v are as τ has them
pub record TurnedTo (N : Network) (τ : Switching) (v : ℕ) (t : Tree) : Type 0 where
  pub switching : Switching
  pub held : Held N switching t
  pub done : (r : ℕ) → Reticulation N r → r ≤ v → switching r ≡ τ r
