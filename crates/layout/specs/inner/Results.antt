-- The table of what the report says of each gene (01, "The report"): "gene, place, event, transfers and losses on the way from its parent gene".
-- Assumes nothing.
use Rattle.std.specs.Prelude.{List, ℕ, slice_index_or, replicate}
use Rattle.layout.specs.Events.{number}
use Rattle.layout.specs.declared.events.Event.TheVariants.{LeafGene}
use Rattle.layout.specs.declared.results.Placed.{Placed}

-- a gene of which nothing is known
abbrev pub unplaced : Placed
unplaced = record { place = 0; event = LeafGene; transfers = 0; losses = 0 }

-- a table without entries
unfoldable pub blank : List Placed
blank = replicate 128 unplaced

-- what a table holds for a gene: nothing past its end
abbrev pub placed : List Placed → ℕ → Placed
placed t g = slice_index_or t g unplaced

abbrev pub place : List Placed → ℕ → ℕ
place t g = (placed t g).place

abbrev pub event : List Placed → ℕ → ℕ
event t g = number (placed t g).event

abbrev pub transfers : List Placed → ℕ → ℕ
transfers t g = (placed t g).transfers

abbrev pub losses : List Placed → ℕ → ℕ
losses t g = (placed t g).losses
