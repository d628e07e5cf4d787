-- The refusals of the call (01, "Refusals, by who can cause them", and 02, (i)), in the order of checking, each with its number, its test and its condition.
-- Assumes nothing.
use Rattle.std.specs.Prelude.{List, [], ◌∷◌, ◌++◌, ℕ}
use Rattle.finite.specs.Refusals.{Refusal, verdict}
use Rattle.sheet.specs.Sheets.{refusal3, Refusal3}
use Rattle.network.specs.Refusals.{network_refusals}
use Rattle.components.specs.Refusals.{component_refusals}
use Rattle.gene_tree.specs.Refusals.{gene_refusals}
use Rattle.newick.specs.Answers.{tree_refusals}
use Rattle.newick.specs.Reading.{lines_read}
use Rattle.family.specs.Families.{Contents}
use Rattle.family.specs.Buffers.{least_words, least_bytes}
use Rattle.score.specs.Refusals.{buffer_refusals}
use Rattle.written_out.specs.WrittenOut.{contents_with}
use Rattle.score_newick.specs.Sheets.{refusal4, refusal5, Refusal4, Refusal5}

-- "The typist"
unfoldable pub sheet_refusals : List ℕ → List Refusal
sheet_refusals s =
    record { number = 3; test = refusal3 s; condition = Refusal3 s }
    ∷ record { number = 4; test = refusal4 s; condition = Refusal4 s }
    ∷ record { number = 5; test = refusal5 s; condition = Refusal5 s }
    ∷ []

-- "The network's curator", 6 to 11; 14 and 15, which "both come just before 12"; "The gene tree's curator", 12 and 13
unfoldable pub curator_refusals : (text : List ℕ) → Contents → List Refusal
curator_refusals text X = network_refusals X.nodes ++ (component_refusals X.nodes ++ (tree_refusals text ++ gene_refusals X.nodes X.genes))

-- what the sheet says of the network and the costs, and the text of the genes
abbrev pub contents_of : (sheet text : List ℕ) → Contents
contents_of sheet text = contents_with sheet (lines_read text)

-- of a sheet, a text, a result of so many bytes and a scratch of so many words; the least buffers are those of the plain call
unfoldable pub refusals : (sheet text : List ℕ) (bytes words : ℕ) → List Refusal
refusals sheet text bytes words = buffer_refusals least_words least_bytes bytes words ++ (sheet_refusals sheet ++ curator_refusals text (contents_of sheet text))

-- "the first that applies is given", 0 where none applies
unfoldable pub refusal : (sheet text : List ℕ) (bytes words : ℕ) → ℕ
refusal sheet text bytes words = verdict (refusals sheet text bytes words)
