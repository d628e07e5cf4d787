-- `switching::turn` meets its contract. Each switching that the tree may have says that the old parent has an arc to lose.
-- Assumes nothing.
use Rattle.std.proofs.Common.{rules}
use Rattle.finite.proofs.Tests.{beq_is}
use Rattle.switching.proofs.Turning.{arc_moves, turns_none, turns_moved}
use Rattle.switching.proofs.turn.Goals as goal

pub returns-then-t-r : goal.returns-then-t-r
returns-then-t-r c = let s = c.requires.reticulation in
    turns_none c.args.network _ s.0 s.1 s.2 _ (beq_is _ _ c.if-t-r.true)

pub move_arc-requires : goal.move_arc-requires
move_arc-requires c = let s = c.requires.reticulation in
    rw c.parent_taken-q.ensures (arc_moves c.args.network c.args.to_secondary s.0 s.1 s.2 c.requires.some_held)

pub returns : goal.returns
returns c = let s = c.requires.reticulation in
    turns_moved c.args.network _ s.0 s.1 s.2 _ (search rules) (search rules) (search rules) c.parent_taken-q.ensures c.move_arc.ensures
