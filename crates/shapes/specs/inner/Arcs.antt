-- The arcs of a node as the code reads them for refusals 8, 9 and 10.
-- Assumes nothing.
use Rattle.std.specs.Prelude.{ℕ}
use Rattle.finite.specs.Tables.{at}
use Rattle.layout.specs.declared.lines.NodeColumns.{NodeColumns}
use Rattle.shapes.specs.declared.counts.Counts.{Counts}
use Rattle.shapes.specs.declared.nodes.Arcs.{Arcs}

abbrev pub arcs_at : NodeColumns → Counts → ℕ → Arcs
arcs_at l c v = record { principal_parent = at l.principal v; secondary_parent = at l.secondary v; principals_out = at c.principals v; secondaries_out = at c.secondaries v; plains_out = at c.plains v }
