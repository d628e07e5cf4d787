-- The curators' refusals one after the other: what a check refuses with is the first that applies, since those before it have passed. The gene columns that are
-- checked and scored are those of the tree that the text is of (`genes_read`).
-- Assumes nothing.
use Rattle.std.proofs.Common.{sym, ◌∙◌, arith}
use Rattle.network.proofs.Acceptance.{no_others}
use Rattle.answer.proofs.Answers.{reports}
use Rattle.score.proofs.Outcomes.{sound_in, refused_by}
use Rattle.score_newick.proofs.Outcomes.{answer_is, some_genes, few_genes, verdict_read, written_read}
use Rattle.score_newick.proofs.Refusals.{network_refuses, component_refuses, tree_refuses, genes_refuse}
use Rattle.score_newick.proofs.score_lines.Goals as goal

pub returns-in_err-verdict : goal.returns-in_err-verdict
returns-in_err-verdict c = refused_by _ _ _ _ _ _ c.from_residual.ensures.1 (network_refuses _ _ (no_others _ _) _ c.in_err-verdict.ensures)

pub invariant_of-part_into : goal.invariant_of-part_into
invariant_of-part_into c = record { sound = sound_in _ _ c.in_ok-verdict.ensures }

pub returns-in_err-verdict-2 : goal.returns-in_err-verdict-2
returns-in_err-verdict-2 c = refused_by _ _ _ _ _ _ c.from_residual-in_err-verdict-2.ensures.1
    (component_refuses _ _ (no_others _ _) (sym c.in_ok-verdict.ensures) _ c.in_err-verdict-2.ensures)

pub returns-in_err-lines : goal.returns-in_err-lines
returns-in_err-lines c = refused_by _ _ _ _ _ _ c.from_residual-in_err-lines.ensures.1
    (tree_refuses _ _ (no_others _ _) (sym c.in_ok-verdict.ensures) (sym c.in_ok-verdict-2.ensures) _ (sym c.in_err-lines.was ∙ c.read.ensures.answer_is))

pub returns-in_err-verdict-3 : goal.returns-in_err-verdict-3
returns-in_err-verdict-3 c = refused_by _ _ _ _ _ _ c.from_residual-in_err-verdict-3.ensures.1
    (genes_refuse _ _ (no_others _ _) (sym c.in_ok-verdict.ensures) (sym c.in_ok-verdict-2.ensures) _ (answer_is _ _ _ c.read.ensures _ c.in_ok-lines.was) _
    (c.in_err-verdict-3.ensures ∙ verdict_read _ _ _ c.read.ensures _ c.in_ok-lines.was c.args.lines.now))

pub write-requires : goal.write-requires
write-requires c =
    let l = c.requires.limits in
    let some = some_genes _ _ _ c.read.ensures _ c.in_ok-lines.was in
    let few = few_genes _ _ _ c.read.ensures _ c.in_ok-lines.was in (
      record {
        limits = omega (arith, l.some_node, l.few_nodes, some, few, l.duplication, l.transfer, l.loss);
        room = c.requires.room;
        space = c.requires.space;
      },
      record { network = sym c.in_ok-verdict.ensures; component = sym c.in_ok-verdict-2.ensures; genes = sym c.in_ok-verdict-3.ensures },
    )

pub returns : goal.returns
returns c = reports _ _ _ _ _ _ _
    (genes_refuse _ _ (no_others _ _) (sym c.in_ok-verdict.ensures) (sym c.in_ok-verdict-2.ensures) _ (answer_is _ _ _ c.read.ensures _ c.in_ok-lines.was) _
    (c.in_ok-verdict-3.ensures ∙ verdict_read _ _ _ c.read.ensures _ c.in_ok-lines.was c.args.lines.now))
    (written_read _ _ _ c.read.ensures _ c.in_ok-lines.was c.args.lines.now c.write.ensures)
