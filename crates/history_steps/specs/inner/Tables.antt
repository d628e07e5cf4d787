-- The table that the steps are chosen by, and what its family keeps.
-- Assumes nothing.
use Rattle.std.specs.Prelude.{List, ℕ}
use Rattle.histories.specs.inner.Rows.{Rows}
use Rattle.tellings.specs.inner.Lineages.{Levels, Lineage}
use Rattle.whole_network.specs.declared.source.Source.{Source}
use Rattle.whole_network.specs.inner.Stages.{HasRoom, family}

-- arcs lead down, each gene from 2 on is a child of its parent, and the table holds the least costs of all genes
pub record Tabled (f : Source) (table : List ℕ) : Type 0 where
  pub levels : Levels (family f)
  pub lineage : Lineage (family f)
  pub room : HasRoom f table
  pub rows : Rows (family f) table 0
