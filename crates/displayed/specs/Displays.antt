-- How a network and a switching make a displayed tree. What is particular to LGT networks stands here: which on arcs are transfers, and which nodes fork.
-- Assumes nothing.
use Rattle.std.specs.Prelude.{◌≡◌, Bool, ℕ}
use Rattle.finite.specs.Tests.{same}
use Rattle.finite.specs.Range.{children}
use Rattle.topology.specs.Networks.{Network, Node}
use Rattle.topology.specs.Switchings.{Switching, on_secondary, parent}
use Rattle.topology.specs.Components.{component, Agree}
use Rattle.displayed.specs.Displayed.{Displayed}

-- a network under a switching, off arcs left out
pub record Switched : Type 0 where
  pub size : ℕ
  -- the parent whose arc into v is on, 0 for none; what bounds a climb
  pub up : ℕ → ℕ
  pub rank : ℕ → ℕ
  -- the on arc into v is secondary
  pub secondary : ℕ → Bool

unfoldable pub switched : Network → Switching → Switched
switched N σ = record { size = N.size; up = parent N σ; rank = N.rank; secondary = on_secondary N σ }

-- what the rules say of the on arcs: which are transfers, and which nodes have two
pub record Marks : Type 0 where
  pub lateral : Switched → ℕ → Bool
  pub forks : Switched → ℕ → Bool

unfoldable pub display : Marks → Switched → Displayed
display M W = record { size = W.size; up = W.up; rank = W.rank; lateral = M.lateral W; forks = M.forks W }

-- the tree that N displays under σ
abbrev pub displayed : Network → Marks → Switching → Displayed
displayed N M σ = display M (switched N σ)

-- marks are near when those of v and of the arcs out of v depend on the switching of v's own component alone
pub record Near (N : Network) (M : Marks) : Type 0 where
  pub lateral : (σ τ : Switching) (v c : ℕ) → Node N v → Agree N σ τ (component N v) → Node N c → parent N τ c ≡ v
      → M.lateral (switched N σ) c ≡ M.lateral (switched N τ) c
  pub forks : (σ τ : Switching) (v : ℕ) → Node N v → Agree N σ τ (component N v) → M.forks (switched N σ) v ≡ M.forks (switched N τ) v

-- "two on arcs" leave v
unfoldable pub two_arcs : Switched → ℕ → Bool
two_arcs W v = same (children W.size W.up v) 2

-- "transfers are the on secondary arcs" (01, "Settings and placement")
unfoldable pub base : Marks
base = record { lateral = λ W. W.secondary; forks = two_arcs }
