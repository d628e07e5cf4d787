-- The lines of a sheet by column (01, "The sheet"): "Header: network nodes n, gene nodes m, costs ..", "n network lines: node number (1 to n, in order),
-- principal parent, secondary parent, stamp, species", "m gene lines: gene number (1 to m, in order), parent, species, 0, 0".
-- Assumes nothing.
use Rattle.std.specs.Prelude.{ℕ}
use Rattle.finite.specs.Tables.{at, within}
use Rattle.topology.specs.Networks.{Network}
use Rattle.topology.specs.Lines.{NodeLines, GeneLines, network}
use Rattle.layout.specs.declared.lines.NodeColumns.{NodeColumns}
use Rattle.layout.specs.declared.lines.GeneColumns.{GeneColumns}
use Rattle.layout.specs.declared.lines.Lines.{Lines}

-- n network lines, and m gene lines
unfoldable pub nodes_in : ℕ → NodeColumns → NodeLines
nodes_in n l = record {
  size = n;
  principal = within n (at l.principal);
  secondary = within n (at l.secondary);
  stamp = within n (at l.stamp);
  species = within n (at l.species);
}

unfoldable pub genes_in : ℕ → GeneColumns → GeneLines
genes_in m l = record { count = m; parent = within m (at l.parent); species = within m (at l.species) }

-- those of a sheet, by its header
abbrev pub nodes_of : Lines → NodeLines
nodes_of l = nodes_in l.header.nodes l.nodes

abbrev pub genes_of : Lines → GeneLines
genes_of l = genes_in l.header.genes l.genes

-- the network that the lines describe
abbrev pub network_of : Lines → Network
network_of l = network (nodes_of l)
