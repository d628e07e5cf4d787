-- The buffers, the header and the length one after the other: what is refused first is the first refusal that applies, since those before it have passed.
-- Assumes nothing.
use Rattle.std.proofs.Common.{rules, sym, ◌∙◌}
use Rattle.refusals.proofs.Numbers.{handed_on}
use Rattle.score.proofs.Outcomes.{header_is, header_refused, length_refused}
use Rattle.score.proofs.Refusals.{refusal_1, refusal_2}
use Rattle.score.proofs.read_header.Goals as goal

pub returns-then-words-lt-LEAST_WORDS : goal.returns-then-words-lt-LEAST_WORDS
returns-then-words-lt-LEAST_WORDS c = sym (refusal_1 _ _ _ _ c.if-words-lt-LEAST_WORDS.true)

pub returns-then-bytes-least_bytes : goal.returns-then-bytes-least_bytes
returns-then-bytes-least_bytes c = sym (refusal_2 _ _ _ _ (search rules) c.if-bytes-least_bytes.true)

pub returns-in_err-header : goal.returns-in_err-header
returns-in_err-header c = rw (handed_on _ _ c.from_residual.ensures.1)
    (sym (header_refused _ _ _ (sym c.in_err-header.was ∙ c.read_header.ensures.0) _ _ (search rules) (search rules)))

pub is_whole-requires : goal.is_whole-requires
is_whole-requires c = let l = (header_is _ _ (sym c.in_ok-header.was ∙ c.read_header.ensures.0)).limited in record { few_nodes = l.few_nodes; few_genes = l.few_genes }

pub returns-then-not-is_whole : goal.returns-then-not-is_whole
returns-then-not-is_whole c = sym (length_refused _ _ (header_is _ _ (sym c.in_ok-header.was ∙ c.read_header.ensures.0)) (search rules) _ _ _ (search rules) (search rules))

pub returns : goal.returns
returns c = record { header = sym c.in_ok-header.was ∙ c.read_header.ensures.0; total = search rules; room = search rules; space = search rules }
