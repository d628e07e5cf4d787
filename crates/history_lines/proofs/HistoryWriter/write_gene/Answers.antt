-- The gene's start is known, and its last step tells the starts of its children.
-- Assumes nothing.
use Rattle.std.proofs.Common.{arith}
use Rattle.history_lines.proofs.Genes.{sends, start_may, known_then, gene_written, walk_room, genes_high}
use Rattle.history_lines.proofs.HistoryWriter.write_gene.Goals as goal

pub write_walk-last-requires : goal.write_walk-last-requires
write_walk-last-requires c = let r = c.requires in
    (r.0, r.1, r.2, start_may _ _ r.0 _ r.1 (genes_high c.args.self.source.now r.2) _ r.3, walk_room _ _ _ _ _ r.3 r.4)

pub settle-requires : goal.settle-requires
settle-requires c = let r = c.requires in (omega (arith, r.2, c.args.self.source.now.lines.now.within.few_genes), sends _ _ r.0 _ _ c.write_walk-last.ensures)

pub returns : goal.returns
returns c = let r = c.requires in
    let w = c.write_walk-last.ensures in
    (known_then _ _ r.0 _ r.1 (genes_high c.args.self.source.now r.2) _ _ _ r.3 w.leaves c.settle.ensures, gene_written _ _ _ _ _ _ r.3 w)
