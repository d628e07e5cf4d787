-- The table of what is worked out once of a network: of each node its rank and the top of its component, at a top how many reticulations the component
-- has, of a reticulation how many of its component have a lower number.
-- Assumes nothing.
use Rattle.std.specs.Prelude.{◌≡◌, List, ℕ, ◌≤◌, ◌<◌}
use Rattle.finite.specs.Tables.{at}
use Rattle.topology.specs.Networks.{Network, Node, Reticulation}
use Rattle.topology.specs.Components.{component, index_of}
use Rattle.topology.specs.Components as Components
use Rattle.layout.specs.declared.parts.Parts.{Parts}

abbrev pub rank : Parts → ℕ → ℕ
rank t = at t.rank

abbrev pub top : Parts → ℕ → ℕ
top t = at t.top

abbrev pub reticulation_count : Parts → ℕ → ℕ
reticulation_count t = at t.reticulation_count

abbrev pub index : Parts → ℕ → ℕ
index t = at t.index

-- a column has 0 for every number that is none of 1 to n
pub record Bare (n : ℕ) (c : List ℕ) : Type 0 where
  pub none : at c 0 ≡ 0
  pub past : (v : ℕ) → n < v → at c v ≡ 0

-- the table holds the parts of N
pub record Parted (N : Network) (t : Parts) : Type 0 where
  pub ranks : (v : ℕ) → v ≤ N.size → rank t v ≡ N.rank v
  pub tops : (v : ℕ) → Node N v → top t v ≡ component N v
  pub counts : (c : ℕ) → Node N c → reticulation_count t c ≡ Components.reticulation_count N c
  pub indices : (r : ℕ) → Reticulation N r → index t r ≡ index_of N r
  pub bare_ranks : Bare N.size t.rank
  pub bare_tops : Bare N.size t.top
  pub bare_counts : Bare N.size t.reticulation_count
  pub bare_indices : Bare N.size t.index
