-- `switching::turn_by_setting` meets its contract. The bit of a reticulation is what the switching put together from the settings says of it.
-- Assumes nothing.
use Rattle.finite.specs.Tests.{same}
use Rattle.finite.specs.Tables.{at}
use Rattle.switching.proofs.Settings.{turned_skip, turned_next, read_plain, read_reticulation, bit_fits, bit_told}
use Rattle.switching.proofs.turn_by_setting.Goals as goal

pub returns-then-lines-r-eq0 : goal.returns-then-lines-r-eq0
returns-then-lines-r-eq0 c = let s = c.requires in
    turned_skip c.args.network.sound _ s.node.0 s.turned_to (read_plain c.args.network s.node c.if-lines-r-eq0.true)

pub bit-to_secondary-requires : goal.bit-to_secondary-requires
bit-to_secondary-requires c = bit_fits c.args.network c.requires.node c.if-lines-r-eq0.false c.requires.few

pub turn-requires-clause-reticulation : goal.turn-requires-clause-reticulation
turn-requires-clause-reticulation c = let s = c.requires.node in (s.0, s.1, read_reticulation c.args.network s c.if-lines-r-eq0.false)

pub returns : goal.returns
unfolding same
returns c = let w = c.args.network in let s = c.requires in
    turned_next w.sound _ s.node.0 s.turned_to c.turn.ensures (bit_told w s.node c.if-lines-r-eq0.false (at c.args.settings.now) c.bit-to_secondary.ensures)
