-- The promise of the call that scores a sheet and a gene tree as text: that of a call with the refusals of both, numbered up to 15, which scores what the
-- sheet says of the network and the text of the genes; and what a report has to do with the plain call.
-- Assumes nothing.
use Rattle.std.specs.Prelude.{◌≡◌, ◌≢◌, List, ℕ, ◌≤◌, length, Result, Ok, Err}
use Rattle.refusals.specs.declared.Refusal.{Refusal}
use Rattle.refusals.specs.declared.Refusal.TheVariants.{BadGeneTree}
use Rattle.newick.specs.Trees.{Tree, HasText, genes, gene_lines_of}
use Rattle.newick.specs.Reading.{lines_read}
use Rattle.newick.specs.Numbering.{Numbered, Describes}
use Rattle.answer.specs.Outcome as Call
use Rattle.score.specs.Outcome as Plain
use Rattle.written_out.specs.WrittenOut.{written_out}
use Rattle.score_newick.specs.Refusals.{refusals, contents_of}

-- of the sheet, the text, the result and the scratch before and after the call, and the answer
module _ (sheet text result result_after scratch scratch_after : List ℕ) (answer : Result ℕ Refusal) where
  -- what a report has to do with a tree
  pub record OfTree : Type 0 where
    -- the text is that of a tree, which has at most 127 genes
    pub tree : Tree
    pub has_text : HasText text tree
    pub few : genes tree ≤ 127
    -- "the report's m is the number of genes read": the gene lines that are scored are those of the tree
    pub lines : lines_read text ≡ gene_lines_of tree
    -- "Genes are numbered as met from the left, each pair before its members", and by their parents and species the lines describe this tree
    pub numbered : Numbered (lines_read text) 1 0 tree
    pub described : Describes (lines_read text) 1 tree
    -- answer, result and scratch are those of the plain call on the sheet with these lines written out
    pub plain : Plain.Promise (written_out sheet (gene_lines_of tree)) result result_after scratch scratch_after answer

  pub record Promise : Type 0 where
    -- demands 1, 2 and 3
    pub call : Call.Promise 15 (refusals sheet text (length result) (length scratch)) (contents_of sheet text) result result_after scratch scratch_after answer
    pub of_tree : (bytes : ℕ) → answer ≡ Ok bytes → OfTree
    -- 12 cannot occur: the genes of a text are a tree
    pub no_12 : answer ≢ Err BadGeneTree
