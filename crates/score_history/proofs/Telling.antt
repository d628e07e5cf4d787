-- What the lines of the history are told from is what the report and the table were written from: its family is that of the contents, and the table that was
-- left holds the least costs. So the lines stand behind the report, where there is room for them.
-- Assumes nothing.
use Rattle.std.proofs.Common.{◌≡◌, ℕ, ◌+◌, ◌*◌, ◌≤◌, List, length, length-append, drop, sym, ap, ◌∙◌, subst, arith}
use Rattle.columns.specs.Writing.{put}
use Rattle.columns.proofs.Writing.{length_written, put_written}
use Rattle.text_lines.specs.Lines.{line_length, lines_text}
use Rattle.text_lines.proofs.Lines.{length_lines_text}
use Rattle.layout.specs.Lines.{nodes_in, genes_in}
use Rattle.layout.specs.declared.lines.Lines.{Lines}
use Rattle.histories.specs.Histories.{Family}
use Rattle.histories.specs.Families.{family_of}
use Rattle.histories.specs.Words.{words}
use Rattle.histories.specs.inner.Rows.{Rows}
use Rattle.histories.proofs.Cells.{length_words}
use Rattle.histories.proofs.Promise.{words_hold}
use Rattle.acceptance.specs.inner.Admitted.{Admitted}
use Rattle.acceptance.proofs.Whole.{whole_accepted}
use Rattle.tellings.specs.Chosen.{history_lines}
use Rattle.tellings.specs.inner.Lineages.{Levels, Lineage}
use Rattle.tellings.proofs.Admitted.{admitted_levels, admitted_lineage}
use Rattle.whole_network.specs.declared.source.Source.{Source}
use Rattle.whole_network.specs.inner.Stages.{family}
use Rattle.family.specs.Families.{Contents, family_in}
use Rattle.family.specs.Reports.{report_in}
use Rattle.family.specs.inner.Stages.{contents_by, SourceOf, Overwritten}
use Rattle.gene_tree.specs.Genes.{gene_tree_of}
use Rattle.score_history.specs.Buffers.{least_bytes}
use Rattle.score_history.specs.Outcome.{history_in, bytes_in}
use Rattle.history_steps.specs.inner.Tables.{Tabled}
use Rattle.score_history.proofs.Bytes.{history_bytes}

module _ (lines : Lines) (f : Source) (S : SourceOf lines f) where
  abbrev X : Contents
  X = contents_by lines

  family_is : family f ≡ family_in X
  unfolding family_in
  family_is = rw (S.same_lines, S.tree)

  module _ (ok : Admitted X.nodes X.genes X.costs) (d m u t : List ℕ) (b : ℕ) (W : Overwritten X (report_in X) d m u t b) where
    holds : Rows (family_in X) t 0
    unfolding family_in
    holds = rw W.scratch (words_hold X.nodes X.genes (gene_tree_of X.nodes X.genes) X.costs (whole_accepted X.nodes X.genes X.costs ok) _)

    levels : Levels (family_in X)
    unfolding family_in
    levels = admitted_levels X.nodes X.genes X.costs ok

    lineage : Lineage (family_in X)
    unfolding family_in
    lineage = admitted_lineage X.nodes X.genes X.costs ok

    table_length : length (words (family_in X)) ≡ lines.header.genes * lines.header.nodes
    unfolding family_in family_of gene_tree_of nodes_in genes_in
    table_length = length_words (family_in X)

    pub tabled : Tabled f t
    tabled = record {
      levels = subst Levels (sym family_is) levels;
      lineage = subst Lineage (sym family_is) lineage;
      room = subst (λ (l : Lines). l.header.genes * l.header.nodes ≤ length t) (sym S.same_lines)
          (omega (arith, ap length W.scratch, length-append (words (family_in X)) (drop (X.genes.count * X.nodes.size) u), table_length));
      rows = subst (λ (F : Family). Rows F t 0) (sym family_is) holds;
    }

    module _ (long : least_bytes ≤ length d) where
      kept : length m ≡ length d
      kept = ap length W.result ∙ length_written d (report_in X) (omega (arith, history_bytes X ok))

      pub room : b + line_length * length (history_lines (family f)) ≤ length m
      room = rw family_is (omega (arith, W.bytes, kept, history_bytes X ok, length_lines_text (history_lines (family_in X))))

    pub with_history : {e : List ℕ} {r : ℕ} → e ≡ put m b (lines_text (history_lines (family f))) → r ≡ b + line_length * length (history_lines (family f)) → Overwritten X (bytes_in X) d e u t r
    with_history {e} {r} put_at next =
        let q : e ≡ put m b (history_in X) = rw family_is at put_at in
        let n : r ≡ b + line_length * length (history_lines (family_in X)) = rw family_is at next in
        record {
          result = q ∙ ap (λ (x : List ℕ). put x b (history_in X)) W.result ∙ put_written d (report_in X) (history_in X) b W.bytes;
          scratch = W.scratch;
          bytes = omega (arith, n, W.bytes, length-append (report_in X) (history_in X), length_lines_text (history_lines (family_in X)));
        }
