-- The refusals of the call (01, "Refusals, by who can cause them"), in the order of checking, each with its number, its test and its condition.
-- Assumes nothing.
use Rattle.std.specs.Prelude.{List, [], ◌∷◌, ◌++◌, ℕ, ◌<◌}
use Rattle.finite.specs.Tests.{under}
use Rattle.finite.specs.Refusals.{Refusal, verdict}
use Rattle.sheet.specs.Sheets.{refusal3, refusal4, refusal5, Refusal3, Refusal4, Refusal5}
use Rattle.network.specs.Refusals.{network_refusals}
use Rattle.components.specs.Refusals.{component_refusals}
use Rattle.gene_tree.specs.Refusals.{gene_refusals}
use Rattle.family.specs.Families.{Contents}
use Rattle.family.specs.Buffers.{least_words, least_bytes}
use Rattle.score.specs.Contents.{contents_of}

-- "The calling program": "scratch under .. words of 32 bits", "result under .. bytes", by the least scratch and the least result that a call asks for, of
-- a result of so many bytes and a scratch of so many words
unfoldable pub buffer_refusals : (least_scratch least_result bytes words : ℕ) → List Refusal
buffer_refusals least_scratch least_result bytes words =
    record { number = 1; test = under words least_scratch; condition = words < least_scratch }
    ∷ record { number = 2; test = under bytes least_result; condition = bytes < least_result }
    ∷ []

-- "The typist"
unfoldable pub text_refusals : List ℕ → List Refusal
text_refusals s =
    record { number = 3; test = refusal3 s; condition = Refusal3 s }
    ∷ record { number = 4; test = refusal4 s; condition = Refusal4 s }
    ∷ record { number = 5; test = refusal5 s; condition = Refusal5 s }
    ∷ []

-- "The network's curator", 6 to 10 and 11, and "The gene tree's curator", 12 and 13
unfoldable pub curator_refusals : Contents → List Refusal
curator_refusals X = network_refusals X.nodes ++ (component_refusals X.nodes ++ gene_refusals X.nodes X.genes)

-- what is asked before the lines: of a call with a scratch of 16,129 words and a result of so many bytes at least
unfoldable pub first_refusals : (least_result : ℕ) → List ℕ → (bytes words : ℕ) → List Refusal
first_refusals least_result s bytes words = buffer_refusals least_words least_result bytes words ++ text_refusals s

unfoldable pub refusals_of : (least_result : ℕ) → List ℕ → (bytes words : ℕ) → List Refusal
refusals_of least_result s bytes words = first_refusals least_result s bytes words ++ curator_refusals (contents_of s)

-- 5,952 bytes
abbrev pub refusals : List ℕ → (bytes words : ℕ) → List Refusal
refusals s bytes words = refusals_of least_bytes s bytes words

-- "the first that applies is given", 0 where none applies
abbrev pub refusal : List ℕ → (bytes words : ℕ) → ℕ
refusal s bytes words = verdict (refusals s bytes words)
