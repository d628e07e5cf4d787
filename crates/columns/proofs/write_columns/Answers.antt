-- The goals of `write_columns` that are left: see Invariants.antt for the idea.
use Rattle.std.proofs.Common.{rules}
use Rattle.columns.proofs.Writing.{columns_turn, columns_done}
use Rattle.columns.proofs.write_columns.Goals as goal

pub loop-i-preserved : goal.loop-i-preserved
loop-i-preserved c = let a = c.args in
    columns_turn a.out.now c.loop-i.out a.n a.first c.loop-i.i _ (search rules) (search rules) (search rules) (search rules) c.loop-i.invariant c.column.ensures

pub returns : goal.returns
returns c = let a = c.args in columns_done a.out.now c.loop-i.out a.n a.first c.loop-i.i (search rules) (search rules) (search rules) c.loop-i.invariant
