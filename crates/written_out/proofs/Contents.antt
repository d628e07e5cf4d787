-- The sheet written out passes 3, 4 and 5, and says what s says of the network and the costs, and what K says of the genes: each line has the numbers
-- that proofs/Lines gives it, and what no line is about is 0 on both sides.
-- Assumes nothing.
use Rattle.std.proofs.Common.{ℕ, ◌+◌, ◌≤◌, ◌<◌, ◌≡◌, false, List, refl, sym, ap, ◌∙◌, subst, arith}
use Rattle.finite.specs.Tables.{at, within}
use Rattle.finite.specs.Refusals.{verdict}
use Rattle.finite.proofs.Tables.{within_same}
use Rattle.std.proofs.lemmas.Bool.{not_from_true}
use Rattle.finite.proofs.Tests.{same_is, and_r}
use Rattle.finite.proofs.Every.{every_at}
use Rattle.text_lines.specs.Lines.{field_count}
use Rattle.topology.specs.Lines.{GeneLines}
use Rattle.layout.specs.Headers.{costs, WithinLimits}
use Rattle.layout.specs.declared.Header.{Header}
use Rattle.sheet.specs.Sheets.{header_in, header_by, nodes, genes, line_no, is_line, cell, node_line, refusal3, refusal4, refusal5, WellFormed}
use Rattle.sheet.proofs.Limits.{is_limits}
use Rattle.sheet.proofs.Refusals.{found_line, same_cells, header_same, formed_well, within_limits}
use Rattle.family.specs.Families.{Contents}
use Rattle.family.specs.Buffers.{least_words, least_bytes}
use Rattle.score.specs.Contents.{node_lines, gene_lines, contents_of}
use Rattle.score.specs.Refusals.{curator_refusals, refusal}
use Rattle.score.proofs.Refusals.{later, refusal_none}
use Rattle.written_out.specs.WrittenOut.{header_fields, gene_fields, written_out, contents_with}
use Rattle.written_out.specs.inner.Conditions.{WithoutGenes, Writable}
use Rattle.written_out.proofs.Lines.{length_written_out, header_line, node_line_lem, gene_line_lem}

module _ {s : List ℕ} {K : GeneLines} (S : WithoutGenes s) (G : Writable K) where
  abbrev sheet : List ℕ
  sheet = written_out s K

  -- the header has the number of genes as m, and is otherwise that of s
  pub header_is : header_in sheet ≡ header_by (header_fields (header_in s) K.count)
  header_is = header_same sheet _ (header_line S G)

  pub nodes_is : nodes sheet ≡ nodes s
  nodes_is = ap (λ (h : Header). h.nodes) header_is

  pub genes_is : genes sheet ≡ K.count
  genes_is = ap (λ (h : Header). h.genes) header_is

  -- what is read in the later lines
  pub node_cell : (v k : ℕ) → 1 ≤ v → v ≤ nodes s → k < field_count → cell sheet v k ≡ cell s v k
  unfolding cell
  node_cell v k a b = same_cells sheet v _ (node_line_lem S G v a b) k

  pub gene_cell : (g k : ℕ) → 1 ≤ g → g ≤ K.count → k < field_count → cell sheet (nodes s + g) k ≡ at (gene_fields K g) k
  gene_cell g k a b = same_cells sheet (nodes s + g) _ (gene_line_lem S G g a b) k

  -- it passes 3, 4 and 5
  pub passes_3 : refusal3 sheet ≡ false
  unfolding refusal3
  passes_3 = rw (found_line sheet 0 _ (header_line S G))

  pub passes_4 : refusal4 sheet ≡ false
  unfolding refusal4
  passes_4 =
      let l : WithinLimits (header_by (header_fields (header_in s) K.count)) = omega (arith, within_limits s S.limits, G.some_gene, G.few_genes) in
      not_from_true _ (sym (is_limits (line_no sheet 0).line (subst (λ (x : Header). WithinLimits x) (sym header_is) l)))

  formed : WellFormed sheet (nodes s) K.count
  unfolding node_line cell
  formed = record {
    total = length_written_out S G;
    node = λ v a b. record {
      numbers = (line_no s v).line;
      line = node_line_lem S G v a b;
      number = same_is _ _ (and_r (is_line s v) _ (every_at (nodes s) (node_line s) S.lines v a b));
    };
    gene = λ g a b. record { numbers = gene_fields K g; line = gene_line_lem S G g a b; number = refl; fourth = refl; fifth = refl };
  }

  pub passes_5 : refusal5 sheet ≡ false
  passes_5 = formed_well sheet (subst (λ (x : Header). WellFormed sheet x.nodes x.genes) (sym header_is) formed)

  -- and says what s and K say
  node_field : (k : ℕ) → k < field_count → within (nodes s) (λ v. cell sheet v k) ≡ within (nodes s) (λ v. cell s v k)
  node_field k h = within_same (nodes s) _ _ (λ v a b. node_cell v k a b h)

  nodes_same : node_lines sheet ≡ node_lines s
  unfolding node_lines
  nodes_same = rw (nodes_is, node_field 1 (omega arith), node_field 2 (omega arith), node_field 3 (omega arith), node_field 4 (omega arith))

  genes_same : gene_lines sheet ≡ K
  unfolding gene_lines
  genes_same = rw (
    genes_is,
    nodes_is,
    within_same K.count _ _ (λ g a b. gene_cell g 1 a b (omega arith)) ∙ G.parent_within,
    within_same K.count _ _ (λ g a b. gene_cell g 2 a b (omega arith)) ∙ G.species_within,
  )

  pub contents_is : contents_of sheet ≡ contents_with s K
  unfolding contents_of
  contents_is = rw (nodes_same, genes_same) (ap (λ (h : Header). record { nodes = node_lines s; genes = K; costs = costs h }) header_is)

  -- the first refusal that applies to it is the first of 6 to 13 that applies to what s and K say
  pub refusal_is : (bytes words : ℕ) → least_words ≤ words → least_bytes ≤ bytes → refusal sheet bytes words ≡ verdict (curator_refusals (contents_with s K))
  refusal_is bytes words lw lb = later _ sheet bytes words (refusal_none _ sheet bytes words lw lb passes_3 passes_4 passes_5) ∙ ap (λ (X : Contents). verdict (curator_refusals X)) contents_is
