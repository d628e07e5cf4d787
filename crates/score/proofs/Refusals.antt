-- The refusals of the call: each test tells its condition where those before it have failed, and the verdicts of the parts, one after the other, are the
-- verdict of the whole list.
-- Assumes nothing.
use Rattle.std.proofs.Common.{ℕ, ◌≤◌, ◌<◌, ◌≡◌, sym, ◌∙◌, true, false, List, arith}
use Rattle.refusals.specs.declared.Refusal.{Refusal as Reason}
use Rattle.refusals.specs.Numbers.{number}
use Rattle.finite.specs.Refusals.{verdict, AllTell, no_more, one_more}
use Rattle.finite.proofs.Refusals.{tell, verdict_here, verdict_later, verdict_end, verdict_none, verdict_first, verdict_second, both_none, all_tell}
use Rattle.sheet.specs.Sheets.{refusal3, refusal4, refusal5}
use Rattle.sheet.proofs.Refusals.{reading_3, reading_4, reading_5}
use Rattle.network.specs.Refusals.{network_refusals}
use Rattle.network.specs.inner.Accepted.{NoOthers}
use Rattle.components.specs.Refusals.{component_refusals}
use Rattle.gene_tree.specs.Refusals.{gene_refusals}
use Rattle.gene_tree.proofs.Refusals.{gene_tell}
use Rattle.family.specs.Families.{Contents}
use Rattle.family.specs.Buffers.{least_words}
use Rattle.family.specs.inner.Stages.{Passed}
use Rattle.score.specs.Contents.{contents_of}
use Rattle.score.specs.Refusals.{buffer_refusals, text_refusals, first_refusals, curator_refusals, refusals_of}
use Rattle.score.proofs.Curators.{some_number, buffers_tell, buffers_fit, short_scratch, short_result, ample, tell_then, network_first, component_first, rest_last, none_before}

-- each test tells its condition
text_tells : (s : List ℕ) → AllTell (text_refusals s)
unfolding text_refusals
text_tells s = one_more (tell 3 (omega arith, omega arith) (reading_3 s)) (λ f. one_more (tell 4 (omega arith, omega arith) (reading_4 s f)) (λ _. one_more (tell 5 (omega arith, omega arith) (reading_5 s f)) (λ _. no_more)))

module _ (X : Contents) (o : NoOthers X.nodes) where
  pub curators_tell : AllTell (curator_refusals X)
  unfolding curator_refusals
  curators_tell = tell_then X.nodes o _ (gene_tell X.nodes X.genes)

  -- the curators' verdicts, one after the other
  pub network_refuses : (r : Reason) → number r ≡ verdict (network_refusals X.nodes) → verdict (curator_refusals X) ≡ number r
  unfolding curator_refusals
  network_refuses r e = network_first X.nodes o _ r e

  module _ (e : verdict (network_refusals X.nodes) ≡ 0) where
    pub component_refuses : (r : Reason) → number r ≡ verdict (component_refusals X.nodes) → verdict (curator_refusals X) ≡ number r
    unfolding curator_refusals
    component_refuses r q = component_first X.nodes o _ e r q

    pub genes_refuse : verdict (component_refusals X.nodes) ≡ 0 → (k : ℕ) → k ≡ verdict (gene_refusals X.nodes X.genes) → verdict (curator_refusals X) ≡ k
    unfolding curator_refusals
    genes_refuse f k q = rest_last X.nodes o _ e f ∙ sym q

  pub none_passes : verdict (curator_refusals X) ≡ 0 → Passed X
  unfolding curator_refusals
  none_passes e = let p = none_before X.nodes o _ e in record { network = p.0; component = p.1; genes = p.2 }

-- the refusals of a call that asks for so many bytes of result at least
module _ (least : ℕ) (s : List ℕ) (bytes words : ℕ) where
  first_tell : AllTell (first_refusals least s bytes words)
  unfolding first_refusals
  first_tell = all_tell (buffer_refusals least_words least bytes words) _ (buffers_tell _ _ bytes words) (λ _. text_tells s)

  pub all_tells : NoOthers (contents_of s).nodes → AllTell (refusals_of least s bytes words)
  unfolding refusals_of
  all_tells o = all_tell (first_refusals least s bytes words) _ first_tell (λ _. curators_tell (contents_of s) o)

  -- what is refused before the lines is the call's refusal; else it is that of the curators
  pub early : (k : ℕ) → 1 ≤ k → verdict (first_refusals least s bytes words) ≡ k → verdict (refusals_of least s bytes words) ≡ k
  unfolding refusals_of
  early k l e = verdict_first (first_refusals least s bytes words) _ first_tell k (λ z. omega arith) e

  pub later : verdict (first_refusals least s bytes words) ≡ 0 → verdict (refusals_of least s bytes words) ≡ verdict (curator_refusals (contents_of s))
  unfolding refusals_of
  later e = verdict_second (first_refusals least s bytes words) _ first_tell e

  -- each of 1 to 5
  pub refusal_1 : words < least_words → verdict (first_refusals least s bytes words) ≡ 1
  unfolding first_refusals
  refusal_1 l = short_scratch _ _ bytes words _ l

  pub refusal_2 : least_words ≤ words → bytes < least → verdict (first_refusals least s bytes words) ≡ 2
  unfolding first_refusals
  refusal_2 a l = short_result _ _ bytes words _ a l

  module _ (space : least_words ≤ words) (room : least ≤ bytes) where
    past : verdict (first_refusals least s bytes words) ≡ verdict (text_refusals s)
    unfolding first_refusals
    past = ample _ _ bytes words _ space room

    pub refusal_3 : refusal3 s ≡ true → verdict (first_refusals least s bytes words) ≡ 3
    unfolding text_refusals
    refusal_3 t = past ∙ verdict_here _ _ t

    pub refusal_4 : refusal3 s ≡ false → refusal4 s ≡ true → verdict (first_refusals least s bytes words) ≡ 4
    unfolding text_refusals
    refusal_4 a t = past ∙ verdict_later _ _ a ∙ verdict_here _ _ t

    pub refusal_5 : refusal3 s ≡ false → refusal4 s ≡ false → refusal5 s ≡ true → verdict (first_refusals least s bytes words) ≡ 5
    unfolding text_refusals
    refusal_5 a b t = past ∙ verdict_later _ _ a ∙ verdict_later _ _ b ∙ verdict_here _ _ t

    pub refusal_none : refusal3 s ≡ false → refusal4 s ≡ false → refusal5 s ≡ false → verdict (first_refusals least s bytes words) ≡ 0
    unfolding text_refusals
    refusal_none a b c = past ∙ verdict_later _ _ a ∙ verdict_later _ _ b ∙ verdict_later _ _ c ∙ verdict_end

  -- where none of them applies
  module _ (e : verdict (first_refusals least s bytes words) ≡ 0) where
    first_pass : (verdict (buffer_refusals least_words least bytes words) ≡ 0) × (verdict (text_refusals s) ≡ 0)
    unfolding first_refusals
    first_pass = both_none (buffer_refusals least_words least bytes words) _ (buffers_tell _ _ bytes words) e

    pub buffers_pass : (least_words ≤ words) × (least ≤ bytes)
    buffers_pass = buffers_fit _ _ bytes words first_pass.0

    pub text_passes : (refusal3 s ≡ false) × (refusal4 s ≡ false)
    unfolding text_refusals
    text_passes =
        let a = verdict_none _ _ (λ q. some_number 3 (omega arith) q) first_pass.1 in
        (a.0, (verdict_none _ _ (λ q. some_number 4 (omega arith) q) a.1).0)

  -- where no refusal applies
  pub all_pass : verdict (refusals_of least s bytes words) ≡ 0 → (verdict (first_refusals least s bytes words) ≡ 0) × (verdict (curator_refusals (contents_of s)) ≡ 0)
  unfolding refusals_of
  all_pass e = both_none (first_refusals least s bytes words) _ first_tell e

-- what a call lets pass passes one that asks for a smaller result
pub pass_smaller : (smaller least : ℕ) (s : List ℕ) (bytes words : ℕ) → smaller ≤ least → verdict (refusals_of least s bytes words) ≡ 0 → verdict (refusals_of smaller s bytes words) ≡ 0
pass_smaller smaller least s bytes words l e =
    let p = all_pass least s bytes words e in
    let b = buffers_pass least s bytes words p.0 in
    later smaller s bytes words (past smaller s bytes words b.0 (omega (arith, b.1)) ∙ sym (past least s bytes words b.0 b.1) ∙ p.0) ∙ p.1
