-- The goals of `nodes` that are left: see Invariants.antt for the idea.
use Rattle.std.proofs.Common.{sym, ◌∙◌, arith}
use Rattle.finite.specs.Tables.{zeros}
use Rattle.finite.proofs.Every.{every_start}
use Rattle.sheet.proofs.Reading.{nodes_start, nodes_turn, lines_stop}
use Rattle.sheet.proofs.Headed.nodes.Goals as goal

pub loop-v-init : goal.loop-v-init
unfolding zeros
loop-v-init c = record { within = omega arith; every_line = every_start _; columns = c.requires ∙ nodes_start _ }

pub returns-in_err-principal : goal.returns-in_err-principal
returns-in_err-principal c = rw c.from_residual.ensures (lines_stop _ _ c.loop-v.v _ c.loop-v.auto.v (omega (arith, c.loop-v-test.true)) (sym c.in_err-principal.was ∙ c.node.ensures))

pub loop-v-preserved : goal.loop-v-preserved
loop-v-preserved c = let i = c.loop-v.invariant in
    let t = nodes_turn _ c.loop-v.v _ _ _ c.loop-v.auto.v (omega arith) (sym c.in_ok-principal.was ∙ c.node.ensures) i.every_line i.columns in
    record { within = omega (arith, c.loop-v-test.true); every_line = t.0; columns = t.1 }

pub returns-in_ok-principal : goal.returns-in_ok-principal
returns-in_ok-principal c = let i = c.loop-v.invariant in
    nodes_turn _ c.loop-v.v _ _ _ c.loop-v.auto.v (omega (arith, c.loop-v-test.true)) (sym c.in_ok-principal.was ∙ c.node.ensures) i.every_line i.columns
