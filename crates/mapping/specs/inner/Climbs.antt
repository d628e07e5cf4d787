-- A displayed tree in a table, and where two climbers in it meet.
-- Assumes nothing.
use Rattle.std.specs.Prelude.{◌≡◌, ◌≢◌, ◌⊎◌, ℕ, ◌+◌, ◌≤◌}
use Rattle.finite.specs.Tests.{same, tally}
use Rattle.layout.specs.inner.Tree.{up, lateral, rank, arcs}
use Rattle.layout.specs.declared.tree.Tree.{Tree as Table}
use Rattle.displayed.specs.Displayed.{Displayed, NodeOf, Tree, common, way, departure}
use Rattle.displayed.specs.inner.Arcs.{move, mark}
use Rattle.displayed.specs.inner.Tabled.{tree_in}
use Rattle.mapping.specs.declared.Way.{Way}
use Rattle.mapping.specs.declared.Climber.{Climber}
use Rattle.mapping.specs.declared.Met.{Met}

-- 1 for a node that two on arcs leave
unfoldable pub fork_in : Table → ℕ → ℕ
fork_in t v = tally (same (arcs t v) 2)

-- the tree of the nodes 1 .. n
unfoldable pub tree_of : ℕ → Table → Displayed
tree_of n t = tree_in n (up t) (rank t) (λ v. tally (lateral t v)) (fork_in t)

-- what a climb needs of the table: a tree of at most 127 nodes, each with a rank, and no more than two on arcs out of a node
pub record Climbable (n : ℕ) (t : Table) : Type 0 where
  pub few : n ≤ 127
  pub tree : Tree (tree_of n t)
  pub ranks : (v : ℕ) → 1 ≤ v → v ≤ n → 1 ≤ rank t v
  pub ups : (v : ℕ) → up t v ≤ n
  pub narrow : (c d e : ℕ) → NodeOf (tree_of n t) c → NodeOf (tree_of n t) d → NodeOf (tree_of n t) e → c ≢ d → up t c ≡ up t d → up t e ≡ up t c → (e ≡ c) ⊎ (e ≡ d)

-- a way to which an arc can be added
pub record Light (w : Way) : Type 0 where
  pub transfers : w.transfers ≤ 1000
  pub losses : w.losses ≤ 1000

-- a climber that has climbed no arc yet
unfoldable pub starting : Table → ℕ → Climber
starting t x = record { at = x; rank = rank t x; way = record { transfers = 0; losses = 0; last = 0 } }

-- the climber once the arc into the node where it stands is climbed too: a transfer where it is secondary, a loss where two on arcs leave its upper end
unfoldable pub climbed_by : Table → Climber → Climber
climbed_by t c = record {
  at = up t c.at;
  rank = rank t (up t c.at);
  way = record { transfers = c.way.transfers + tally (lateral t c.at); losses = c.way.losses + fork_in t (up t c.at); last = c.at };
}

-- w is the way from b down to x: what its arcs add up to, every node above x being passed, and its first arc, 0 where there is none
pub record IsWay (T : Displayed) (b x : ℕ) (w : Way) : Type 0 where
  pub transfers : w.transfers ≡ way T (move T) b x
  pub losses : w.losses ≡ way T (mark T) b x
  pub last : w.last ≡ departure T b x

-- "the lowest node from which both .. are reached along on arcs" (01, "Settings and placement"), and the ways down from it
pub record Meeting (T : Displayed) (x y : ℕ) (r : Met) : Type 0 where
  pub node : r.node ≡ common T x y
  pub left : IsWay T (common T x y) x r.left
  pub right : IsWay T (common T x y) y r.right
