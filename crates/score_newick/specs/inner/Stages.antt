-- What the stages of the call hand on to each other.
-- Assumes nothing.
use Rattle.std.specs.Prelude.{◌≡◌, true, List, ℕ, ◌≤◌, length, Result, Ok}
use Rattle.finite.specs.Refusals.{verdict}
use Rattle.reconciliation.specs.Limits.{Limits}
use Rattle.layout.specs.Headers.{costs}
use Rattle.layout.specs.Lines.{nodes_of}
use Rattle.layout.specs.declared.Header.{Header}
use Rattle.layout.specs.declared.lines.Lines.{Lines}
use Rattle.sheet.specs.Sheets.{header_of, whole}
use Rattle.components.specs.inner.Filling.{Dated}
use Rattle.newick.specs.Reading.{lines_read}
use Rattle.family.specs.Buffers.{least_words, least_bytes}
use Rattle.family.specs.Families.{Contents}
use Rattle.refusals.specs.declared.Refusal.{Refusal}
use Rattle.answer.specs.Outcome.{Outcome}
use Rattle.score_newick.specs.Refusals.{curator_refusals, contents_of, refusal}

-- a header, where the lines have no genes yet
abbrev pub bare : Header → Header
bare h = record { nodes = h.nodes; genes = 0; duplication = h.duplication; transfer = h.transfer; loss = h.loss }

-- a header that is accepted, with 1 for m, and bared of its genes; of a sheet of the length that it then tells, and buffers that fit
pub record HeaderRead (s : List ℕ) (h : Header) (bytes words : ℕ) : Type 0 where
  pub accepted : Header
  pub header : Ok accepted ≡ header_of s
  pub one : accepted.genes ≡ 1
  pub bared : h ≡ bare accepted
  pub total : whole s h.nodes h.genes ≡ true
  pub room : least_bytes ≤ bytes
  pub space : least_words ≤ words

-- the lines of a sheet without gene lines: its other numbers within their limits, buffers that fit, and every stamp in a field
pub record Ready (lines : Lines) (bytes words : ℕ) : Type 0 where
  pub limits : Limits lines.header.nodes 1 (costs lines.header)
  pub room : least_bytes ≤ bytes
  pub space : least_words ≤ words
  pub stamps : Dated lines.header.nodes lines.nodes

-- what the lines say of the network and the costs, and the text of the genes
abbrev pub contents_by : Lines → (text : List ℕ) → Contents
contents_by l text = record { nodes = nodes_of l; genes = lines_read text; costs = costs l.header }

-- the outcome of the curators' refusals for these lines and a text, and of all refusals for a sheet and a text
abbrev pub OutcomeBy : Lines → (text d e u t : List ℕ) → Result ℕ Refusal → Type 0
OutcomeBy lines text d e u t r = Outcome (verdict (curator_refusals text (contents_by lines text))) (contents_by lines text) d e u t r

abbrev pub OutcomeOf : (sheet text d e u t : List ℕ) → Result ℕ Refusal → Type 0
OutcomeOf sheet text d e u t r = Outcome (refusal sheet text (length d) (length u)) (contents_of sheet text) d e u t r
