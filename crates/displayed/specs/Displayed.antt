-- What a switching leaves of a network, as a climb sees it: the tree that it displays. The mapping (specs/Mapping), its cost and the search know a
-- network under a switching by this record alone; how a network and a switching make it is specs/Displays.
-- Assumes nothing.
use Rattle.std.specs.Prelude.{◌≡◌, Bool, ℕ, ◌≤◌}
use Rattle.finite.specs.Tests.{same}
use Rattle.topology.specs.Climbing.{Falls, seek, over, meet, along}

-- the nodes are 1..size, and an on arc goes by its lower end
pub record Displayed : Type 0 where
  pub size : ℕ
  -- the parent whose arc into v is on, 0 for none
  pub up : ℕ → ℕ
  -- falls along up
  pub rank : ℕ → ℕ
  -- the on arc into v is a transfer
  pub lateral : ℕ → Bool
  -- two on arcs leave v
  pub forks : ℕ → Bool

-- v is a node
pub record NodeOf (T : Displayed) (v : ℕ) : Type 0 where
  pub low : 1 ≤ v
  pub high : v ≤ T.size

-- it is a tree: the rank falls along the on arcs, parents are nodes, and one node has no parent
pub record Tree (T : Displayed) : Type 0 where
  pub falls : Falls T.rank T.up
  pub inside : (v : ℕ) → NodeOf T v → T.up v ≤ T.size
  pub root : ℕ
  pub root_in : NodeOf T root
  pub root_up : T.up root ≡ 0
  pub root_one : (v : ℕ) → NodeOf T v → T.up v ≡ 0 → v ≡ root

-- x is reached from v along on arcs, a node reaching itself
abbrev pub reaches : Displayed → ℕ → ℕ → Bool
reaches T v x = over T.rank T.up v x

-- the lowest node from which both x and y are reached
abbrev pub common : Displayed → ℕ → ℕ → ℕ
common T x y = meet T.rank T.up x y

-- the sum of f over the arcs of the way from v down to x, each by its lower end
abbrev pub way : Displayed → (ℕ → ℕ) → ℕ → ℕ → ℕ
way T f v x = along T.rank T.up f v x

-- the lower end of the arc by which the way from v down to x leaves v, the last arc of a climb from x to v; 0 where x is v
abbrev pub departure : Displayed → ℕ → ℕ → ℕ
departure T v x = seek T.rank (λ c. same (T.up c) v) T.up x
