-- The call: each way out has its outcome, and the promise follows from that.
-- Assumes nothing.
use Rattle.std.proofs.Common.{rules, arith, sym, subst, ◌∙◌, refl, Result}
use Rattle.layout.specs.declared.Header.{Header}
use Rattle.refusals.specs.declared.Refusal.{Refusal}
use Rattle.sheet.specs.Sheets.{HeadedIs}
use Rattle.answer.proofs.Answers.{refuses}
use Rattle.score.proofs.Outcomes.{header_is, refused_by}
use Rattle.score_newick.proofs.Refusals.{refusal_1, refusal_2}
use Rattle.score_newick.proofs.Outcomes.{header_refused, genes_refused, length_refused}
use Rattle.score_newick.proofs.Promises.{promise}
use Rattle.score_newick.proofs.score_newick.Goals as goal

pub returns-then-scratch-lt-LEAST_WORDS : goal.returns-then-scratch-lt-LEAST_WORDS
returns-then-scratch-lt-LEAST_WORDS c = promise _ _ _ _ _ _ _ (refuses _ _ _ _ _ (refusal_1 _ _ _ _ c.if-scratch-lt-LEAST_WORDS.true))

pub returns-then-res-lt-LEAST_BYTES : goal.returns-then-res-lt-LEAST_BYTES
returns-then-res-lt-LEAST_BYTES c = promise _ _ _ _ _ _ _ (refuses _ _ _ _ _ (refusal_2 _ _ _ _ (search rules) c.if-res-lt-LEAST_BYTES.true))

pub returns-in_err-header : goal.returns-in_err-header
returns-in_err-header c =
    let h = subst (λ (x : Result Header Refusal). HeadedIs c.args.sheet.now x) c.in_err-header.was c.read_header.ensures.1 in
    promise _ _ _ _ _ _ _ (refused_by _ _ _ _ _ _ c.from_residual.ensures.1 (header_refused _ _ _ _ (search rules) (search rules) _ h))

pub returns-then-header-ne1 : goal.returns-then-header-ne1
returns-then-header-ne1 c =
    let k = header_is _ _ (sym c.in_ok-header.was ∙ c.read_header.ensures.0) in
    promise _ _ _ _ _ _ _ (refuses _ _ _ _ _ (genes_refused _ _ _ k _ _ (search rules) (search rules) c.if-header-ne1.true))

pub is_whole-requires : goal.is_whole-requires
is_whole-requires c =
    let l = (header_is _ _ (sym c.in_ok-header.was ∙ c.read_header.ensures.0)).limited in
    record { few_nodes = l.few_nodes; few_genes = omega arith }

pub returns-then-not-is_whole : goal.returns-then-not-is_whole
returns-then-not-is_whole c =
    let k = header_is _ _ (sym c.in_ok-header.was ∙ c.read_header.ensures.0) in
    promise _ _ _ _ _ _ _ (refuses _ _ _ _ _ (length_refused _ _ _ k _ _ (search rules) (search rules) c.if-header-ne1.false (search rules)))

pub score_whole-requires : goal.score_whole-requires
score_whole-requires c = record {
  accepted = c.in_ok-header.header;
  header = sym c.in_ok-header.was ∙ c.read_header.ensures.0;
  one = c.if-header-ne1.false;
  bared = refl;
  total = search rules;
  room = search rules;
  space = search rules;
}

pub returns : goal.returns
returns c = promise _ _ _ _ _ _ _ c.score_whole.ensures
