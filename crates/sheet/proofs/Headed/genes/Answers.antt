-- The goals of `genes` that are left: see Invariants.antt for the idea.
use Rattle.std.proofs.Common.{sym, ◌∙◌, arith}
use Rattle.finite.specs.Tables.{zeros}
use Rattle.finite.proofs.Every.{every_start}
use Rattle.sheet.proofs.Reading.{genes_start, genes_turn, lines_stop}
use Rattle.sheet.proofs.Headed.genes.Goals as goal

pub loop-g-init : goal.loop-g-init
unfolding zeros
loop-g-init c = record { within = omega arith; every_line = every_start _; columns = c.requires ∙ genes_start _ _ }

pub returns-in_err-parent : goal.returns-in_err-parent
returns-in_err-parent c = rw c.from_residual.ensures (lines_stop _ _ c.loop-g.g _ c.loop-g.auto.g (omega (arith, c.loop-g-test.true)) (sym c.in_err-parent.was ∙ c.gene.ensures))

pub loop-g-preserved : goal.loop-g-preserved
loop-g-preserved c = let i = c.loop-g.invariant in
    let t = genes_turn _ _ c.loop-g.g _ _ _ c.loop-g.auto.g (omega arith) (sym c.in_ok-parent.was ∙ c.gene.ensures) i.every_line i.columns in
    record { within = omega (arith, c.loop-g-test.true); every_line = t.0; columns = t.1 }

pub returns-in_ok-parent : goal.returns-in_ok-parent
returns-in_ok-parent c = let i = c.loop-g.invariant in
    genes_turn _ _ c.loop-g.g _ _ _ c.loop-g.auto.g (omega (arith, c.loop-g-test.true)) (sym c.in_ok-parent.was ∙ c.gene.ensures) i.every_line i.columns
