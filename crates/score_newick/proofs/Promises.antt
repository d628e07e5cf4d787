-- The promise of the call follows from its outcome (crate answer). Where no refusal applies, the text is that of a tree with at most 127 genes, and the sheet with
-- its gene lines written out says the same and is refused by nothing either, so the outcome is that of the plain call on it (crate written_out).
-- Assumes nothing.
use Rattle.std.proofs.Common.{ℕ, ◌≤◌, ◌≡◌, refl, sym, ap, ◌∙◌, subst, ⊎_elim, false, List, length, arith, ◌&&◌, Result, Ok, Err}
use Rattle.finite.specs.Range.{every}
use Rattle.finite.specs.Refusals.{verdict}
use Rattle.finite.proofs.Tests.{and_l, and_r}
use Rattle.finite.proofs.Refusals.{verdict_low}
use Rattle.topology.specs.Lines.{GeneLines}
use Rattle.layout.specs.Headers.{WithinLimits}
use Rattle.sheet.specs.Sheets as Sheets
use Rattle.sheet.specs.Sheets.{header_in, nodes, whole, node_line, refusal3}
use Rattle.sheet.proofs.Limits.{is_limits}
use Rattle.refusals.specs.declared.Refusal.{Refusal}
use Rattle.refusals.specs.Numbers.{refused}
use Rattle.refusals.proofs.Numbers.{some}
use Rattle.newick.specs.Trees.{Tree, HasText, OfGrammar, genes, gene_lines_of}
use Rattle.newick.specs.Answers.{Taken, Refusal15}
use Rattle.newick.specs.Answers.Refusal15.{longer, many}
use Rattle.newick.specs.Reading.{answer_of, lines_read}
use Rattle.newick.proofs.Answers.{decided, Means, lines_read_is}
use Rattle.newick.proofs.Readings.{one_tree, text_short}
use Rattle.newick.proofs.Writing.{some_gene}
use Rattle.newick.proofs.Numbering.{numbered, described}
use Rattle.acceptance.specs.inner.Admitted.{Admitted}
use Rattle.family.specs.Families.{Contents}
use Rattle.family.specs.Buffers.{least_words, least_bytes}
use Rattle.family.specs.inner.Stages.{Passed}
use Rattle.answer.specs.Outcome.{Outcome}
use Rattle.answer.proofs.Answers.{settled}
use Rattle.answer.proofs.Promises as Call
use Rattle.score.specs.Contents.{node_lines}
use Rattle.score.specs.Refusals as PlainRefusals
use Rattle.score.specs.Outcome as Plain
use Rattle.score.proofs.Promises as PlainPromises
use Rattle.written_out.specs.WrittenOut.{written_out, contents_with}
use Rattle.written_out.specs.inner.Conditions.{WithoutGenes, Writable}
use Rattle.written_out.proofs.Contents.{contents_is, refusal_is}
use Rattle.written_out.proofs.Trees.{tree_writable}
use Rattle.score_newick.specs.Sheets.{refusal4, refusal5}
use Rattle.score_newick.specs.Refusals.{contents_of, refusals, refusal}
use Rattle.score_newick.specs.Outcome.{OfTree, Promise}
use Rattle.score_newick.specs.inner.Stages.{OutcomeOf}
use Rattle.score_newick.proofs.Readings.{four_passes, five_passes}
use Rattle.score_newick.proofs.Refusals.{curators_plain, no_others, all_tells, all_low, never_12, refusal_later, buffers_pass, sheet_passes, curators_pass, none_passes}

-- a text that is not refused is that of a tree
pub taken : (text : List ℕ) → refused (answer_of text) ≡ 0 → (m : ℕ) × Taken text m
unfolding Means
taken text e = go (answer_of text) (decided text) e
  where
    go : (a : Result ℕ Refusal) → Means text a → refused a ≡ 0 → (m : ℕ) × Taken text m
    go (Ok m) h e = (m, h)
    go (Err r) h e = absurd (omega (arith, some r))

-- and the text of a tree with at most 127 genes is not refused
not_refused : (text : List ℕ) (tree : Tree) → HasText text tree → genes tree ≤ 127 → refused (answer_of text) ≡ 0
unfolding Means OfGrammar
not_refused text tree has few = go (answer_of text) (decided text)
  where
    refuted : Refusal15 text → ⊥
    refuted (longer l) = omega (arith, l, ap length has.text_is, text_short tree few)
    refuted (many t w l) = omega (arith, l, few, ap genes (one_tree text t tree w has))

    go : (a : Result ℕ Refusal) → Means text a → refused a ≡ 0
    go (Ok m) h = refl
    go (Err r) h = ⊎_elim (λ q. absurd (q.1.outside (tree, has))) (λ q. absurd (refuted q.1)) h

-- a sheet that 1 to 5 let pass, and the text of a tree with at most 127 genes
module _ (s text : List ℕ) (tree : Tree) (has : HasText text tree) (few : genes tree ≤ 127) (three : refusal3 s ≡ false) (four : refusal4 s ≡ false) (five : refusal5 s ≡ false) where
  abbrev K : GeneLines
  K = gene_lines_of tree

  without : WithoutGenes s
  unfolding Sheets.refusal4
  without =
      let l = and_l (whole s (nodes s) 0 && every (nodes s) (node_line s)) _ (five_passes s five) in
      record {
        limits = rw (← is_limits _ (four_passes s four).0) refl;
        total = and_l (whole s (nodes s) 0) _ l;
        lines = and_r (whole s (nodes s) 0) _ l;
      }

  writable : Writable K
  writable = tree_writable tree has.proper few

  contents_same : contents_of s text ≡ contents_with s K
  contents_same = ap (contents_with s) (lines_read_is text tree has)

  module _ (b w : ℕ) (space : least_words ≤ w) (room : least_bytes ≤ b) where
    -- the sheet with the tree's gene lines written out has the same first refusal, if any
    pub refusal_same : refusal s text b w ≡ PlainRefusals.refusal (written_out s K) b w
    refusal_same = refusal_later s text b w space room three four five ∙ curators_plain text (contents_of s text) (not_refused text tree has few)
        ∙ ap (λ (X : Contents). verdict (PlainRefusals.curator_refusals X)) contents_same ∙ sym (refusal_is without writable b w space room)

  -- so the call keeps the plain call's promise of that sheet, whether it answers with a report or with a refusal
  pub as_plain : (d e u t : List ℕ) (r : Result ℕ Refusal) → least_words ≤ length u → least_bytes ≤ length d → OutcomeOf s text d e u t r → Plain.Promise (written_out s K) d e u t r
  as_plain d e u t r space room o = PlainPromises.promise (written_out s K) d e u t r
      (rw (← refusal_same (length d) (length u) space room, contents_is without writable) (subst (λ (X : Contents). Outcome (refusal s text (length d) (length u)) X d e u t r) contents_same o))

-- a sheet and a text that no refusal applies to
module _ (s text : List ℕ) (b w : ℕ) (e : refusal s text b w ≡ 0) where
  passed : Passed (contents_of s text) × (refused (answer_of text) ≡ 0)
  passed = none_passes text (contents_of s text) (no_others s text b w) (curators_pass s text b w e)

  read : (m : ℕ) × Taken text m
  read = taken text passed.1

  lines_same : lines_read text ≡ gene_lines_of read.1.tree
  lines_same = lines_read_is text read.1.tree read.1.has_text

  few : genes read.1.tree ≤ 127
  few = omega (arith, read.1.count, read.1.few)

  header : WithinLimits (header_in s)
  header = (four_passes s (sheet_passes s text b w e).1).0

  pub admitted : Admitted (contents_of s text).nodes (contents_of s text).genes (contents_of s text).costs
  unfolding node_lines gene_lines_of
  admitted = record {
    limits = rw lines_same (omega (arith, header.some_node, header.few_nodes, some_gene read.1.tree, few, header.duplication, header.transfer, header.loss));
    others = no_others s text b w;
    network = passed.0.network;
    component = passed.0.component;
    genes = passed.0.genes;
  }

  module _ (d e' u t : List ℕ) (r : Result ℕ Refusal) (o : OutcomeOf s text d e' u t r) where
    pub of_tree : b ≡ length d → w ≡ length u → OfTree s text d e' u t r
    of_tree eb ew =
        let fit = buffers_pass s text b w e in
        let p = sheet_passes s text b w e in
        record {
          tree = read.1.tree;
          has_text = read.1.has_text;
          few = few;
          lines = lines_same;
          numbered = rw lines_same (numbered read.1.tree);
          described = rw lines_same (described read.1.tree);
          plain = as_plain s text read.1.tree read.1.has_text few p.0 p.1 p.2 d e' u t r (rw ew at fit.0) (rw eb at fit.1) o;
        }

pub promise : (s text d e u t : List ℕ) (r : Result ℕ Refusal) → OutcomeOf s text d e u t r → Promise s text d e u t r
unfolding refusal
promise s text d e u t r o =
    let b : ℕ = length d in
    let w : ℕ = length u in
    let rs = refusals s text b w in
    record {
      call = Call.promise 15 rs (contents_of s text) (all_tells s text b w) (verdict_low 15 rs (all_low s text b w)) (admitted s text b w) d e u t r o;
      of_tree = λ bytes q. let z : refusal s text b w ≡ 0 = sym o.refusal ∙ ap refused q in
          of_tree s text b w z d e u t r o refl refl;
      no_12 = λ q. never_12 s text b w (sym o.refusal ∙ ap refused q);
    }

-- where the call answers with a report, its answer, result and scratch are those of a plain call on the sheet with the tree's gene lines written out
pub as_written_out : {s text d e u t : List ℕ} {r : Result ℕ Refusal} → Promise s text d e u t r → (bytes : ℕ) → r ≡ Ok bytes → (tree : Tree) → HasText text tree
    → {e' t' : List ℕ} {r' : Result ℕ Refusal} → Plain.Promise (written_out s (gene_lines_of tree)) d e' u t' r' → (r ≡ r') × (e ≡ e') × (t ≡ t')
as_written_out {s} {text} {d} {e} {u} {t} {r} p bytes q tree has {e'} {t'} {r'} plain =
    let o = p.of_tree bytes q in
    let one : o.tree ≡ tree = one_tree text o.tree tree o.has_text has in
    settled (subst (λ (x : Tree). Plain.Promise (written_out s (gene_lines_of x)) d e u t r) one o.plain) plain
