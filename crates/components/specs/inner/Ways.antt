-- The ways in the principal tree between the two ends of the secondary arcs, as marks in a table: what they pass is no top (01, "Settings and
-- placement": "A cut arc is one whose removal parts the network").
-- Assumes nothing.
use Rattle.std.specs.Prelude.{◌≡◌, Bool, ◌&&◌, ◌||◌, not, List, ℕ, ◌≤◌, length}
use Rattle.std.specs.Bool.{beq}
use Rattle.finite.specs.Range.{any}
use Rattle.finite.specs.Tables.{at, holds}
use Rattle.topology.specs.Networks.{Network, Node, is_reticulation}
use Rattle.topology.specs.Switchings.{all_principal, above}
use Rattle.topology.specs.Components.{is_top}

-- the column holds the ranks
pub record Ranked (N : Network) (t : List ℕ) : Type 0 where
  pub ranks : (v : ℕ) → v ≤ N.size → at t v ≡ N.rank v

-- w is above just one of a and b in the principal tree: on the way between them, the node where they meet left out
unfoldable pub between : Network → (a b w : ℕ) → Bool
between N a b w = not (beq (above N all_principal w a) (above N all_principal w b))

-- w is on the way between the two ends of the secondary arc into r
unfoldable pub bridged : Network → (w r : ℕ) → Bool
bridged N w r = is_reticulation N r && between N r (N.secondary r) w

-- marks and then the way between x and y
pub record MarkedWay (N : Network) (before after : List Bool) (x y : ℕ) : Type 0 where
  pub long : length after ≡ 128
  pub at_each : (w : ℕ) → holds after w ≡ (holds before w || between N x y w)

-- the ways of the reticulations 1..k
pub record MarkedWays (N : Network) (marks : List Bool) (k : ℕ) : Type 0 where
  pub long : length marks ≡ 128
  pub at_each : (w : ℕ) → holds marks w ≡ any k (bridged N w)

-- what is marked is no top
pub record NonTops (N : Network) (marks : List Bool) : Type 0 where
  pub at_each : (w : ℕ) → Node N w → is_top N w ≡ not (holds marks w)
