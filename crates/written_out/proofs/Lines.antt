-- Each line of the sheet written out is a line of one of its three parts, for these are whole lines each (`left_line`, `right_line`): its bytes are the
-- header's, those of the same line of s, or a gene's. A line that is the line of some numbers has one reading, so these numbers are what is read.
-- Assumes nothing.
use Rattle.std.proofs.Common.{ℕ, zero, suc, ◌+◌, ◌*◌, ◌≤◌, ◌<◌, ◌≡◌, List, ◌++◌, length, take, drop, refl, ap, ◌∙◌, arith, length-append, length-drop, drop-drop}
use Rattle.std.proofs.Math.Seq.{take_all, take_at, drop_at, take-append-le, drop-append-le}
use Rattle.finite.proofs.Cases.{by_eq}
use Rattle.finite.proofs.Tests.{same_is, and_l}
use Rattle.finite.proofs.Every.{every_at}
use Rattle.text_lines.specs.Lines.{line_length, line_of}
use Rattle.text_lines.proofs.Lines.{length_line}
use Rattle.report.proofs.Writing.{small_five}
use Rattle.topology.specs.Lines.{GeneLines, Gene}
use Rattle.sheet.specs.Sheets.{header_in, nodes, line_no, is_line, whole, node_line, Line}
use Rattle.sheet.proofs.Refusals.{line_found, within_limits}
use Rattle.written_out.specs.WrittenOut.{header_fields, gene_fields, gene_text, written_out}
use Rattle.written_out.specs.inner.Conditions.{WithoutGenes, Writable}

-- the bytes of line i
abbrev bytes_of : List ℕ → ℕ → List ℕ
bytes_of s i = take line_length (drop (line_length * i) s)

-- a line of two parts that are whole lines each is a line of one of them
left_line : (xs ys : List ℕ) (i : ℕ) → line_length * suc i ≤ length xs → bytes_of (xs ++ ys) i ≡ bytes_of xs i
left_line xs ys i h = ap (take line_length) (drop-append-le (line_length * i) xs ys (omega arith))
    ∙ take-append-le line_length (drop (line_length * i) xs) ys (omega (arith, length-drop (line_length * i) xs))

right_line : (xs ys : List ℕ) (k i : ℕ) → length xs ≡ line_length * k → bytes_of (xs ++ ys) (k + i) ≡ bytes_of ys i
right_line xs ys k i e =
    let q : line_length * (k + i) ≡ line_length * k + line_length * i = omega arith in
    rw (q, ← drop-drop (line_length * i) (line_length * k) (xs ++ ys), drop_at xs ys (line_length * k) e)

-- the gene lines
length_text : (K : GeneLines) (k : ℕ) → length (gene_text K k) ≡ line_length * k
unfolding gene_text
length_text K zero = refl
length_text K (suc k) = rw (length-append, length_text K k, length_line) (omega arith)

text_line : (K : GeneLines) (k i : ℕ) → i < k → bytes_of (gene_text K k) i ≡ line_of (gene_fields K (suc i))
unfolding gene_text
text_line K zero i h = absurd (omega arith)
text_line K (suc k) i h = by_eq i k
    (λ e. rw (e, drop_at (gene_text K k) _ (line_length * k) (length_text K k)) (take_all line_length (line_of (gene_fields K (suc k))) (omega (arith, length_line (gene_fields K (suc k))))))
    (λ d. left_line (gene_text K k) _ i (omega (arith, length_text K k)) ∙ text_line K k i (omega arith))

module _ {s : List ℕ} {K : GeneLines} (S : WithoutGenes s) (G : Writable K) where
  abbrev fields : List ℕ
  fields = header_fields (header_in s) K.count

  -- behind the header
  abbrev later : List ℕ
  later = drop line_length s ++ gene_text K K.count

  length_nodes : length (drop line_length s) ≡ line_length * nodes s
  unfolding whole
  length_nodes = length-drop line_length s ∙ omega (arith, same_is _ _ S.total)

  pub length_written_out : length (written_out s K) ≡ line_length * (1 + nodes s + K.count)
  unfolding written_out
  length_written_out = rw (length-append, length-append, length_line, length_nodes, length_text) (omega arith)

  later_line : (i : ℕ) → bytes_of (written_out s K) (suc i) ≡ bytes_of later i
  unfolding written_out
  later_line i = let z : suc i ≡ 1 + i = omega arith in rw z (right_line (line_of fields) later 1 i (length_line fields))

  pub header_line : Line (written_out s K) 0 fields
  unfolding written_out
  header_line = record {
    small = small_five _ _ _ _ _ fields refl (omega (arith, within_limits s S.limits, G.few_genes));
    bytes = take_at (line_of fields) later line_length (length_line fields);
  }

  pub node_line_lem : (v : ℕ) → 1 ≤ v → v ≤ nodes s → Line (written_out s K) v (line_no s v).line
  unfolding node_line
  node_line_lem zero a b = absurd (omega arith)
  node_line_lem (suc i) a b =
      let l = line_found s (suc i) (and_l (is_line s (suc i)) _ (every_at (nodes s) (node_line s) S.lines (suc i) a b)) in
      let z : line_length + line_length * i ≡ line_length * suc i = omega arith in
      record {
        small = l.small;
        bytes = later_line i ∙ left_line (drop line_length s) (gene_text K K.count) i (omega (arith, length_nodes))
            ∙ ap (take line_length) (drop-drop (line_length * i) line_length s ∙ ap (λ (j : ℕ). drop j s) z) ∙ l.bytes;
      }

  pub gene_line_lem : (g : ℕ) → 1 ≤ g → g ≤ K.count → Line (written_out s K) (nodes s + g) (gene_fields K g)
  gene_line_lem zero a b = absurd (omega arith)
  gene_line_lem (suc i) a b =
      let x : Gene K (suc i) = record { low = a; high = b } in
      let z : nodes s + suc i ≡ suc (nodes s + i) = omega arith in
      record {
        small = small_five _ _ _ _ _ (gene_fields K (suc i)) refl (omega (arith, G.few_genes, G.parent_small (suc i) x, G.species_small (suc i) x));
        bytes = ap (bytes_of (written_out s K)) z ∙ later_line (nodes s + i) ∙ right_line (drop line_length s) (gene_text K K.count) (nodes s) i length_nodes
            ∙ text_line K K.count i b;
      }
