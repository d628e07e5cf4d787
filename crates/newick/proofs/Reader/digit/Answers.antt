-- `newick::Reader::digit` meets its contract: the byte at the place is a digit or is none, and past the end it counts as 0.
-- Assumes nothing.
use Rattle.std.proofs.Common.{rules, arith, ◌∙◌}
use Rattle.newick.proofs.Digits.{as_digit, no_digit_here}
use Rattle.newick.proofs.Reader.digit.Goals as goal

pub returns-in_err-b-clause-value : goal.returns-in_err-b-clause-value
returns-in_err-b-clause-value c = let a = c.args in
    c.from_residual.ensures ∙ no_digit_here a.self.now.text.now a.at 0 (c.in_err-b.ensures.lookup.4 (omega arith) 0) (λ l u. omega arith)

pub returns-clause-value : goal.returns-clause-value
returns-clause-value c = let a = c.args in
    as_digit a.self.now.text.now a.at _ (c.from.ensures ∙ c.in_ok-b.ensures.lookup.4 (omega arith) 0) _ c.to_digit.ensures.cases (search rules)
