-- `whole_network::lent::LentSource::cost` meets its contract. The parts lent from the rows' starts on are the rows, and the cost of the clauses is the least,
-- for what it is computed from is filled before.
-- Assumes nothing.
use Rattle.std.proofs.Common.{◌∙◌, arith}
use Rattle.whole_network.proofs.Ready.{lent_within}
use Rattle.whole_network.proofs.Turns.{own_ends, left_starts, right_starts, child_rows, tip_least, inner_least}
use Rattle.whole_network.proofs.lent.LentSource.cost.Goals as goal

pub tip_cost-requires : goal.tip_cost-requires
tip_cost-requires c = (lent_within c.args.self.now, rw c.out-out.ensures (own_ends c.requires))

-- each part is lent under three bounds, which do not name the row that they follow from, so that no `using` finds it
pub offset_bounds-scratch-a : goal.offset_bounds-scratch-a
offset_bounds-scratch-a c = omega (arith, left_starts c.requires _ _ c.in-Pair.is)

pub slice_bounds-children-count : goal.slice_bounds-children-count
slice_bounds-children-count c = left_starts c.requires _ _ c.in-Pair.is

pub slice_bounds-children-start : goal.slice_bounds-children-start
slice_bounds-children-start c = left_starts c.requires _ _ c.in-Pair.is

pub offset_bounds-scratch-b : goal.offset_bounds-scratch-b
offset_bounds-scratch-b c = omega (arith, right_starts c.requires _ _ c.in-Pair.is)

pub slice_bounds-children-count-in-Pair : goal.slice_bounds-children-count-in-Pair
slice_bounds-children-count-in-Pair c = right_starts c.requires _ _ c.in-Pair.is

pub slice_bounds-children-start-in-Pair : goal.slice_bounds-children-start-in-Pair
slice_bounds-children-start-in-Pair c = right_starts c.requires _ _ c.in-Pair.is

pub inner_cost-requires : goal.inner_cost-requires
inner_cost-requires c =
    let rows = child_rows c.requires _ _ c.in-Pair.is in (lent_within c.args.self.now, rw c.out-out.ensures (own_ends c.requires), rows.0, rw c.out-out.ensures rows.1)

pub returns-in-Tip : goal.returns-in-Tip
returns-in-Tip c = rw c.out-out.ensures at c.tip_cost.ensures ∙ tip_least c.requires _ c.in-Tip.is

pub returns-in-Pair : goal.returns-in-Pair
returns-in-Pair c = rw c.out-out.ensures at c.inner_cost.ensures ∙ inner_least c.requires _ _ c.in-Pair.is
