-- The refusals of the call, one after the other: each test tells its condition where those before it have failed, and the verdicts of the parts are the verdict
-- of the whole list. 12 is in the list and never its verdict, since the genes of a text are a tree.
-- Assumes nothing.
use Rattle.std.proofs.Common.{ℕ, ◌≤◌, ◌<◌, ◌≡◌, ◌≢◌, sym, ap, ◌∙◌, true, false, List, ◌++◌, arith, Ok, Err}
use Rattle.refusals.specs.declared.Refusal.{Refusal as Reason}
use Rattle.refusals.specs.Numbers.{number, refused}
use Rattle.refusals.proofs.Numbers.{some}
use Rattle.finite.specs.Tests.{same}
use Rattle.finite.specs.Refusals.{verdict, AllTell}
use Rattle.finite.proofs.Refusals.{verdict_here, verdict_later, verdict_none, verdict_first, verdict_second, verdict_tail, both_none, all_tell, Idle, verdict_idle, Low}
use Rattle.sheet.specs.Sheets.{refusal3}
use Rattle.shapes.specs.Refusals.{shape_refusals, after_eight}
use Rattle.network.specs.Refusals.{network_refusals, after_six}
use Rattle.network.specs.inner.Accepted.{NoOthers}
use Rattle.network.proofs.Acceptance.{none_outside}
use Rattle.components.specs.Refusals.{component_refusals}
use Rattle.gene_tree.specs.Refusals.{refusal12, gene_refusals, species_refusals}
use Rattle.gene_tree.proofs.Refusals.{gene_tell}
use Rattle.newick.specs.Answers.{tree_refusals}
use Rattle.newick.specs.Reading.{answer_of, lines_read}
use Rattle.newick.proofs.Answers.{tree_tells, tree_verdict}
use Rattle.newick.proofs.Numbering.{read_12}
use Rattle.family.specs.Families.{Contents}
use Rattle.family.specs.Buffers.{least_words, least_bytes}
use Rattle.family.specs.inner.Stages.{Passed}
use Rattle.score.specs.Contents.{node_lines}
use Rattle.score.specs.Refusals.{buffer_refusals}
use Rattle.score.specs.Refusals as Plain
use Rattle.score.proofs.Curators.{some_number, buffers_tell, buffers_fit, short_scratch, short_result, ample, tell_then, network_first, component_first, rest_last, none_before}
use Rattle.score_newick.specs.Sheets.{refusal4, refusal5}
use Rattle.score_newick.specs.Refusals.{sheet_refusals, curator_refusals, contents_of, refusals, refusal}
use Rattle.score_newick.proofs.Readings.{sheet_tells}

-- the curators' refusals
module _ (text : List ℕ) (X : Contents) (o : NoOthers X.nodes) where
  pub curators_tell : AllTell (curator_refusals text X)
  unfolding curator_refusals
  curators_tell = tell_then X.nodes o _ (all_tell (tree_refusals text) _ (tree_tells text) (λ _. gene_tell X.nodes X.genes))

  pub network_refuses : (r : Reason) → number r ≡ verdict (network_refusals X.nodes) → verdict (curator_refusals text X) ≡ number r
  unfolding curator_refusals
  network_refuses r e = network_first X.nodes o _ r e

  module _ (e : verdict (network_refusals X.nodes) ≡ 0) where
    pub component_refuses : (r : Reason) → number r ≡ verdict (component_refusals X.nodes) → verdict (curator_refusals text X) ≡ number r
    unfolding curator_refusals
    component_refuses r q = component_first X.nodes o _ e r q

    module _ (f : verdict (component_refusals X.nodes) ≡ 0) where
      pub tree_refuses : (r : Reason) → Err r ≡ answer_of text → verdict (curator_refusals text X) ≡ number r
      unfolding curator_refusals
      tree_refuses r q = rest_last X.nodes o _ e f
          ∙ verdict_first (tree_refusals text) _ (tree_tells text) (number r) (λ z. omega (arith, some r)) (tree_verdict text ∙ sym (ap refused q))

      pub genes_refuse : (m : ℕ) → Ok m ≡ answer_of text → (k : ℕ) → k ≡ verdict (gene_refusals X.nodes X.genes) → verdict (curator_refusals text X) ≡ k
      unfolding curator_refusals
      genes_refuse m a k q = rest_last X.nodes o _ e f ∙ verdict_second (tree_refusals text) _ (tree_tells text) (tree_verdict text ∙ sym (ap refused a)) ∙ sym q

  pub none_passes : verdict (curator_refusals text X) ≡ 0 → Passed X × (refused (answer_of text) ≡ 0)
  unfolding curator_refusals
  none_passes e =
      let p = none_before X.nodes o _ e in
      let q = both_none (tree_refusals text) _ (tree_tells text) p.2 in
      (record { network = p.0; component = p.1; genes = q.1 }, sym (tree_verdict text) ∙ q.0)

-- a text that is not refused: the curators' verdict is that of the plain call
pub curators_plain : (text : List ℕ) (X : Contents) → refused (answer_of text) ≡ 0 → verdict (curator_refusals text X) ≡ verdict (Plain.curator_refusals X)
unfolding curator_refusals Plain.curator_refusals
curators_plain text X e =
    let skip = verdict_second (tree_refusals text) (gene_refusals X.nodes X.genes) (tree_tells text) (tree_verdict text ∙ e) in
    verdict_tail (network_refusals X.nodes) _ _ (verdict_tail (component_refusals X.nodes) _ _ skip)

-- all refusals of a sheet and a text
module _ (s text : List ℕ) (bytes words : ℕ) where
  pub no_others : NoOthers (contents_of s text).nodes
  unfolding node_lines
  no_others = none_outside _ _ _ _ _

  pub all_tells : AllTell (refusals s text bytes words)
  unfolding refusals
  all_tells = all_tell (buffer_refusals least_words least_bytes bytes words) _ (buffers_tell _ _ bytes words)
      (λ _. all_tell (sheet_refusals s) _ (sheet_tells s) (λ _. curators_tell text (contents_of s text) no_others))

  -- a refusal's number is at most 15
  pub all_low : Low 15 (refusals s text bytes words)
  unfolding Low refusals buffer_refusals sheet_refusals curator_refusals network_refusals after_six shape_refusals after_eight component_refusals tree_refusals gene_refusals species_refusals
  all_low = (omega arith, (omega arith, (omega arith, (omega arith, (omega arith, (omega arith, (omega arith, (omega arith, (omega arith, (omega arith, (omega arith, (omega arith, (omega arith, (omega arith, (omega arith, tt)))))))))))))))

  -- 12 or 14 is no verdict where its own test fails, since no other refusal has its number
  pub only_its_own : (k : ℕ) → 12 ≤ k → k ≢ 13 → k < 15 → (k ≡ 12 → refusal12 (lines_read text) ≡ false) → (k ≡ 14 → same (refused (answer_of text)) 14 ≡ false)
      → Idle k (refusals s text bytes words)
  unfolding Idle refusals buffer_refusals sheet_refusals curator_refusals network_refusals after_six shape_refusals after_eight component_refusals tree_refusals gene_refusals species_refusals
  only_its_own k low d high twelve fourteen = ((λ e. absurd (omega arith)), ((λ e. absurd (omega arith)), ((λ e. absurd (omega arith)), ((λ e. absurd (omega arith)), ((λ e. absurd (omega arith)), ((λ e. absurd (omega arith)), ((λ e. absurd (omega arith)), ((λ e. absurd (omega arith)), ((λ e. absurd (omega arith)), ((λ e. absurd (omega arith)), ((λ e. absurd (omega arith)), ((λ e. fourteen (sym e)), ((λ e. absurd (omega arith)), ((λ e. twelve (sym e)), ((λ e. absurd (d (sym e))), tt)))))))))))))))

  pub never_12 : refusal s text bytes words ≢ 12
  unfolding refusal
  never_12 = verdict_idle 12 (refusals s text bytes words) (only_its_own 12 (omega arith) (λ e. omega arith) (omega arith) (λ _. read_12 text) (λ e. absurd (omega arith))) (λ e. omega arith)

  -- the ways out before the curators
  pub refusal_1 : words < least_words → refusal s text bytes words ≡ 1
  unfolding refusal refusals
  refusal_1 l = short_scratch _ _ bytes words _ l

  pub refusal_2 : least_words ≤ words → bytes < least_bytes → refusal s text bytes words ≡ 2
  unfolding refusal refusals
  refusal_2 a l = short_result _ _ bytes words _ a l

  module _ (space : least_words ≤ words) (room : least_bytes ≤ bytes) where
    past : refusal s text bytes words ≡ verdict (sheet_refusals s ++ curator_refusals text (contents_of s text))
    unfolding refusal refusals
    past = ample _ _ bytes words _ space room

    pub refusal_3 : refusal3 s ≡ true → refusal s text bytes words ≡ 3
    unfolding sheet_refusals
    refusal_3 t = past ∙ verdict_here _ _ t

    module _ (three : refusal3 s ≡ false) where
      pub refusal_4 : refusal4 s ≡ true → refusal s text bytes words ≡ 4
      unfolding sheet_refusals
      refusal_4 t = past ∙ verdict_later _ _ three ∙ verdict_here _ _ t

      module _ (four : refusal4 s ≡ false) where
        pub refusal_5 : refusal5 s ≡ true → refusal s text bytes words ≡ 5
        unfolding sheet_refusals
        refusal_5 t = past ∙ verdict_later _ _ three ∙ verdict_later _ _ four ∙ verdict_here _ _ t

        pub refusal_later : refusal5 s ≡ false → refusal s text bytes words ≡ verdict (curator_refusals text (contents_of s text))
        unfolding sheet_refusals
        refusal_later c = past ∙ verdict_later _ _ three ∙ verdict_later _ _ four ∙ verdict_later _ _ c

-- where no refusal applies
module _ (s text : List ℕ) (bytes words : ℕ) (e : refusal s text bytes words ≡ 0) where
  after_buffers : (verdict (buffer_refusals least_words least_bytes bytes words) ≡ 0) × (verdict (sheet_refusals s ++ curator_refusals text (contents_of s text)) ≡ 0)
  unfolding refusal refusals
  after_buffers = both_none (buffer_refusals least_words least_bytes bytes words) _ (buffers_tell _ _ bytes words) e

  pub buffers_pass : (least_words ≤ words) × (least_bytes ≤ bytes)
  buffers_pass = buffers_fit _ _ bytes words after_buffers.0

  pub sheet_passes : (refusal3 s ≡ false) × (refusal4 s ≡ false) × (refusal5 s ≡ false)
  unfolding sheet_refusals
  sheet_passes =
      let t = (both_none (sheet_refusals s) _ (sheet_tells s) after_buffers.1).0 in
      let a = verdict_none _ _ (λ q. some_number 3 (omega arith) q) t in
      let b = verdict_none _ _ (λ q. some_number 4 (omega arith) q) a.1 in
      (a.0, b.0, (verdict_none _ _ (λ q. some_number 5 (omega arith) q) b.1).0)

  pub curators_pass : verdict (curator_refusals text (contents_of s text)) ≡ 0
  curators_pass = (both_none (sheet_refusals s) _ (sheet_tells s) after_buffers.1).1
