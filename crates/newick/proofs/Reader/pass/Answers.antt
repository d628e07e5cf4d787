-- `newick::Reader::pass` meets its contract: past the end the byte counts as 0, and the byte that is passed does not.
-- Assumes nothing.
use Rattle.std.proofs.Common.{ℕ, List, ◌≡◌, ◌≢◌, ◌+◌, ◌==◌, ◌∙◌, add-one, arith}
use Rattle.std.specs.Bool.{then_some}
use Rattle.finite.specs.Tests.{same}
use Rattle.finite.proofs.Cases.{by_bool}
use Rattle.finite.proofs.Tests.{not_same}
use Rattle.newick.specs.Reading.{byte_at}
use Rattle.newick.specs.declared.Place.{Place}
use Rattle.newick.specs.inner.Steps.{place, passed}
use Rattle.newick.proofs.Reader.pass.Goals as goal

by_test : (text : List ℕ) (b : ℕ) (p : Place) (x : ℕ) → x ≡ byte_at text p.at → then_some (x == b) (place (p.at + 1) p.genes) ≡ passed text b p
unfolding passed same
by_test text b p x e = by_bool (x == b) (λ y. rw (← e, y, add-one)) (λ y. rw (← e, y))

pub returns-in_err-next-clause-value : goal.returns-in_err-next-clause-value
unfolding passed
returns-in_err-next-clause-value c = let d : 0 ≢ c.args.b = λ e. omega arith in
    c.from_residual.ensures ∙ rw (← c.in_err-next.ensures.lookup.4 (omega arith) 0, not_same d)

pub returns-clause-value : goal.returns-clause-value
returns-clause-value c = c.then_some.ensures ∙ by_test _ c.args.b c.args.from _ (c.in_ok-next.ensures.lookup.4 (omega arith) 0)
