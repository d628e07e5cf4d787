-- `whole_network::lent::LentSource::fill` meets its contract. The rows filled are those of the family, and the promise follows.
-- Assumes nothing.
use Rattle.whole_network.proofs.Ready.{row_within, kept_promise}
use Rattle.whole_network.proofs.lent.LentSource.fill.Goals as goal

pub least_start-requires : goal.least_start-requires
least_start-requires c = let f = c.args.self.now in row_within f.lines.now f.genes.now f.accepted c.requires c.fill_rows.ensures.kept_in

pub returns : goal.returns
returns c = let f = c.args.self.now in kept_promise f.lines.now f.genes.now f.accepted c.requires c.fill_rows.ensures.rows_in c.fill_rows.ensures.kept_in c.least_start.ensures
