-- What a sheet says (01, "The sheet"): its lines and costs.
-- Assumes nothing.
use Rattle.std.specs.Prelude.{List, ℕ, ◌+◌}
use Rattle.finite.specs.Tables.{within}
use Rattle.topology.specs.Lines.{NodeLines, GeneLines}
use Rattle.layout.specs.Headers.{costs}
use Rattle.sheet.specs.Sheets.{header_in, nodes, genes, cell}
use Rattle.family.specs.Families.{Contents}

-- "n network lines: node number (1 to n, in order), principal parent, secondary parent, stamp, species": line v of the sheet is about node v
unfoldable pub node_lines : List ℕ → NodeLines
node_lines s = record {
  size = nodes s;
  principal = within (nodes s) (λ v. cell s v 1);
  secondary = within (nodes s) (λ v. cell s v 2);
  stamp = within (nodes s) (λ v. cell s v 3);
  species = within (nodes s) (λ v. cell s v 4);
}

-- "m gene lines: gene number (1 to m, in order), parent, species, 0, 0": line n + g is about gene g
unfoldable pub gene_lines : List ℕ → GeneLines
gene_lines s = record {
  count = genes s;
  parent = within (genes s) (λ g. cell s (nodes s + g) 1);
  species = within (genes s) (λ g. cell s (nodes s + g) 2);
}

unfoldable pub contents_of : List ℕ → Contents
contents_of s = record {
  nodes = node_lines s;
  genes = gene_lines s;
  costs = costs (header_in s);
}
