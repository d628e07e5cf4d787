-- The goals of `write_walk` that are left: see Invariants.antt for the idea.
-- Assumes nothing.
use Rattle.std.proofs.Common.{sym, ◌∙◌, arith}
use Rattle.whole_network.proofs.Ready.{ready}
use Rattle.history_lines.proofs.Walks.{nodes_few, walk_some, walk_begun, may_next, room_next, few_before, walk_next, fewer, walk_done}
use Rattle.history_lines.proofs.HistoryWriter.write_walk.Goals as goal

pub write_step-last-requires : goal.write_step-last-requires
write_step-last-requires c = let r = c.requires in
    let f = c.args.self.source.now in
    (r.0, c.row-row.ensures.0, rw (c.row-row.ensures.1) r.3, omega arith, omega (arith, r.4, walk_some _ (ready f).graded r.0.levels _ _ r.3))

pub loop-w-init : goal.loop-w-init
loop-w-init c = let r = c.requires in walk_begun _ (ready c.args.self.source.now).graded r.0.levels _ _ _ _ _ _ r.3 (rw (c.row-row.ensures.1) at c.write_step-last.ensures)

pub overflow_add-k : goal.overflow_add-k
overflow_add-k c = let r = c.requires in
    let f = c.args.self.source.now in
    omega (arith, few_before _ (ready f).graded r.0.levels _ _ _ _ _ _ _ c.loop-w.invariant _ (sym c.moved_to.ensures ∙ c.in-Some.is) (nodes_few f) r.3)

pub write_step-last-requires-in-Some : goal.write_step-last-requires-in-Some
write_step-last-requires-in-Some c = let r = c.requires in
    let f = c.args.self.source.now in
    let W = c.loop-w.invariant in (
      r.0,
      c.row-row.ensures.0,
      rw (c.row-row.ensures.1) (may_next _ (ready f).graded r.0.levels _ _ _ _ _ _ _ W _ (sym c.moved_to.ensures ∙ c.in-Some.is)),
      few_before _ (ready f).graded r.0.levels _ _ _ _ _ _ _ W _ (sym c.moved_to.ensures ∙ c.in-Some.is) (nodes_few f) r.3,
      room_next _ (ready f).graded r.0.levels _ _ _ _ _ _ _ W _ (sym c.moved_to.ensures ∙ c.in-Some.is) r.4 (omega arith),
    )

pub loop-w-smaller : goal.loop-w-smaller
loop-w-smaller c = let r = c.requires in
    fewer _ (ready c.args.self.source.now).graded r.0.levels _ _ _ _ _ _ _ c.loop-w.invariant _ (sym c.moved_to.ensures ∙ c.in-Some.is) _ _ (rw (c.row-row.ensures.1) at c.write_step-last-in-Some.ensures)

pub loop-w-preserved : goal.loop-w-preserved
loop-w-preserved c = let r = c.requires in
    walk_next _ (ready c.args.self.source.now).graded r.0.levels _ _ _ _ _ _ _ c.loop-w.invariant _ (sym c.moved_to.ensures ∙ c.in-Some.is) _ _ (rw (c.row-row.ensures.1) at c.write_step-last-in-Some.ensures) (omega (arith, r.4))

pub returns : goal.returns
returns c = walk_done _ (ready c.args.self.source.now).graded c.requires.0.levels _ _ _ _ _ _ _ c.loop-w.invariant (sym c.moved_to.ensures ∙ c.in_default.is)
