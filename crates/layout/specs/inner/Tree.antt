-- The table of the tree that a network displays under a switching: of each node the parent whose arc is on, whether that arc is secondary, its rank, and how
-- many on arcs leave it.
-- Assumes nothing.
use Rattle.std.specs.Prelude.{◌≡◌, Bool, false, ℕ, ◌≤◌, ◌<◌, replicate}
use Rattle.finite.specs.Tables.{at, holds, zeros}
use Rattle.topology.specs.Networks.{Network, Node}
use Rattle.topology.specs.Switchings.{Switching, on_secondary, parent, on_arcs}
use Rattle.layout.specs.declared.tree.Tree.{Tree}

abbrev pub up : Tree → ℕ → ℕ
up t = at t.up

abbrev pub lateral : Tree → ℕ → Bool
lateral t = holds t.lateral

abbrev pub rank : Tree → ℕ → ℕ
rank t = at t.rank

abbrev pub arcs : Tree → ℕ → ℕ
arcs t = at t.arcs

-- a table without entries
abbrev pub blank : Tree
blank = record { up = zeros; lateral = replicate 128 false; rank = zeros; arcs = zeros }

-- the table holds network N under switching σ; rows of no node are zeros
pub record Held (N : Network) (σ : Switching) (t : Tree) : Type 0 where
  pub ups : (v : ℕ) → up t v ≡ parent N σ v
  pub laterals : (v : ℕ) → lateral t v ≡ on_secondary N σ v
  pub ranks : (v : ℕ) → v ≤ N.size → rank t v ≡ N.rank v
  pub counts : (v : ℕ) → Node N v → arcs t v ≡ on_arcs N σ v
  pub past : (v : ℕ) → N.size < v → rank t v ≡ 0
