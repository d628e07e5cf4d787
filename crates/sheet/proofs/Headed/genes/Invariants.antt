-- Reading the gene lines. The invariant: those below g are well formed and in number, and stand in the columns.
-- Assumes nothing.
use Rattle.std.proofs.Common.{◌≡◌, ◌+◌, ◌-◌, ◌≤◌, true}
use Rattle.finite.specs.Range.{every}
use Rattle.sheet.specs.Sheets.{gene_line, gene_columns}
use Rattle.sheet.proofs.Headed.genes.Given as goal

abbrev pub invariant-loop-g : goal.invariant-loop-g
invariant-loop-g l = record {
  within : l.g ≤ l.self.header.genes + 1;
  every_line : every (l.g - 1) (gene_line l.self.text.now l.self.header.nodes) ≡ true;
  columns : l.genes ≡ gene_columns l.self.text.now l.self.header.nodes (l.g - 1);
}
