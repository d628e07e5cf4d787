-- The table of a network's parts while it is filled.
-- Assumes nothing.
use Rattle.std.specs.Prelude.{◌≡◌, ℕ, ◌≤◌, ◌<◌}
use Rattle.finite.specs.Range.{count}
use Rattle.finite.specs.Tables.{at, zeros}
use Rattle.topology.specs.Networks.{Network, Node, Reticulation}
use Rattle.topology.specs.Components.{component, member_of, index_of}
use Rattle.topology.specs.Lines.{rank_of}
use Rattle.layout.specs.declared.lines.NodeColumns.{NodeColumns}
use Rattle.layout.specs.declared.parts.Parts.{Parts}
use Rattle.layout.specs.inner.Parts.{rank, top, reticulation_count, index, Bare}

-- stamps as six columns hold them (01, "The sheet")
pub record Dated (n : ℕ) (l : NodeColumns) : Type 0 where
  pub small : (v : ℕ) → 1 ≤ v → v ≤ n → at l.stamp v < 1000000

-- a table without entries
abbrev pub blank : Parts
blank = record { rank = zeros; top = zeros; reticulation_count = zeros; index = zeros }

-- the rank of node v by its line
unfoldable pub rank_at : NodeColumns → ℕ → ℕ
rank_at l v = rank_of (at l.secondary v) (at l.stamp v)

-- the table holds the parts of N (`Parted` of layout), the reticulations up to v alone being counted
pub record PartedTo (N : Network) (v : ℕ) (t : Parts) : Type 0 where
  pub ranks : (w : ℕ) → w ≤ N.size → rank t w ≡ N.rank w
  pub tops : (w : ℕ) → Node N w → top t w ≡ component N w
  pub counts : (c : ℕ) → Node N c → reticulation_count t c ≡ count v (member_of N c)
  pub indices : (r : ℕ) → Reticulation N r → r ≤ v → index t r ≡ index_of N r
  pub bare_ranks : Bare N.size t.rank
  pub bare_tops : Bare N.size t.top
  pub bare_counts : Bare N.size t.reticulation_count
  pub bare_indices : Bare N.size t.index
