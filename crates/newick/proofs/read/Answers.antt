-- `newick::read` meets its contract: each return is one law of proofs/Answers.
-- Assumes nothing.
use Rattle.std.proofs.Common.{◌≡◌, Err, rules, arith}
use Rattle.newick.proofs.Answers.{answer_long, answer_unended, answer_longer, answer_many, answer_genes}
use Rattle.refusals.specs.declared.Refusal.TheVariants.{OutsideGrammar}
use Rattle.newick.proofs.read.Goals as goal

pub returns-then-text-gt-LONGEST : goal.returns-then-text-gt-LONGEST
returns-then-text-gt-LONGEST c = answer_long _ _ (omega arith)

pub returns-in_err-end : goal.returns-in_err-end
returns-in_err-end c =
    let e : c.from_residual-in_err-end.result ≡ Err OutsideGrammar = search rules in
    rw e (answer_unended _ _ _ (omega arith) c.in_ok-tree.tree c.tree.ensures (search rules) (search rules))

pub returns-then-end-text : goal.returns-then-end-text
returns-then-end-text c = answer_longer _ _ _ (omega arith) c.in_ok-tree.tree c.tree.ensures (search rules) c.in_ok-end.end (search rules) c.if-end-text.true

pub returns-then-end-gt-MOST : goal.returns-then-end-gt-MOST
returns-then-end-gt-MOST c =
    answer_many _ _ _ (omega arith) c.in_ok-tree.tree c.tree.ensures (search rules) c.in_ok-end.end (search rules) c.if-end-text.false (omega arith)

pub returns : goal.returns
returns c = answer_genes _ _ _ (omega arith) c.in_ok-tree.tree c.tree.ensures (search rules) c.in_ok-end.end (search rules) c.if-end-text.false (omega arith)
