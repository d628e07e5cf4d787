-- `newick::Reader::read_numeral` meets its contract. The invariant: the number that the digits so far make, with those that may follow, is what `leaf_at`
-- finds, and it has as many digits as have been passed.
-- Assumes nothing.
use Rattle.std.proofs.Common.{◌+◌, ◌-◌, ◌^◌, ◌<◌, ◌≡◌, Some}
use Rattle.newick.specs.Reading.{more_at, leaf_at}
use Rattle.newick.proofs.Reader.read_numeral.Given as goal

abbrev pub invariant-loop-next : goal.invariant-loop-next
invariant-loop-next l = record {
  small : l.species < 10 ^ (l.next - l.at);
  rest : Some (more_at l.self.text.now (l.at + 6 - l.next) l.species l.next) ≡ leaf_at l.self.text.now l.at;
}
