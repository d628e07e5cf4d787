-- `whole_network::lent::LentSource::fill_word` meets its contract. The word is put at the cell of the gene and the node.
-- Assumes nothing.
use Rattle.std.proofs.Common.{◌∙◌}
use Rattle.whole_network.proofs.Turns.{node_low, word_inside, word_put}
use Rattle.whole_network.proofs.lent.LentSource.fill_word.Goals as goal

pub overflow_sub-scratch : goal.overflow_sub-scratch
overflow_sub-scratch c = node_low c.requires

pub bounds-scratch-row : goal.bounds-scratch-row
bounds-scratch-row c = word_inside c.requires

pub returns : goal.returns
returns c = let p = word_put c.requires _ (c.clipped.ensures ∙ c.cost-c.ensures) in
    record { partly_in = p.0; kept_in = p.1 }
