-- The goals of `append` that are left: see Invariants.antt for the idea.
-- Assumes nothing.
use Rattle.std.proofs.Common.{arith}
use Rattle.finite.specs.Tables.{zeros}
use Rattle.history_lines.proofs.Starts.{start_low}
use Rattle.history_lines.proofs.Genes.{genes_high, genes_begun, gene_room, gene_turn, genes_after, genes_done}
use Rattle.history_lines.proofs.append.Goals as goal

pub overflow_cast-starts : goal.overflow_cast-starts
overflow_cast-starts c = omega (arith, c.first_start.ensures, start_low _ _ c.requires.0)

pub loop-g-init : goal.loop-g-init
unfolding zeros
loop-g-init c = (omega arith, genes_begun _ _ _ _ c.first_start.ensures)

pub write_gene-next-requires : goal.write_gene-next-requires
write_gene-next-requires c = let g = c.loop-g in
    let A = g.invariant.1 in
    (c.requires.0, g.auto.g, c.loop-g-test.true, A.known, gene_room _ _ c.requires.0 _ g.auto.g (genes_high c.args.source.now c.loop-g-test.true) _ _ c.requires.1 _ _ _ A _ g.auto.res)

pub loop-g-preserved : goal.loop-g-preserved
loop-g-preserved c = let g = c.loop-g in
    let w = c.write_gene-next.ensures in
    (omega (arith, c.loop-g-test.true), genes_after (gene_turn _ _ c.requires.0 _ g.auto.g (genes_high c.args.source.now c.loop-g-test.true) _ _ c.requires.1 _ _ _ g.invariant.1 _ _ _ w.0 w.1))

pub returns : goal.returns
returns c = genes_done c.args.source.now (omega (arith, c.loop-g-test.false, c.loop-g.invariant.0)) c.loop-g.invariant.1

pub returns-2 : goal.returns-2
returns-2 c = let g = c.loop-g in
    let w = c.write_gene-next.ensures in
    genes_done c.args.source.now (omega arith)
    (gene_turn _ _ c.requires.0 _ g.auto.g (genes_high c.args.source.now c.loop-g-test.true) _ _ c.requires.1 _ _ _ g.invariant.1 _ _ _ w.0 w.1)
