-- What the stages of a call on a sheet hand on to each other.
-- Assumes nothing.
use Rattle.std.specs.Prelude.{◌≡◌, true, List, ℕ, ◌≤◌, length, Result, Ok, Err}
use Rattle.finite.specs.Refusals.{verdict}
use Rattle.refusals.specs.declared.Refusal.{Refusal}
use Rattle.refusals.specs.Numbers.{number, refused}
use Rattle.layout.specs.Headers.{WithinLimits}
use Rattle.layout.specs.declared.Header.{Header}
use Rattle.layout.specs.declared.lines.Lines.{Lines}
use Rattle.sheet.specs.Sheets.{header_of, whole}
use Rattle.components.specs.inner.Filling.{Dated}
use Rattle.family.specs.Buffers.{least_words}
use Rattle.family.specs.Families.{Contents}
use Rattle.family.specs.inner.Stages.{contents_by}
use Rattle.answer.specs.Outcome.{OutcomeWriting}
use Rattle.score.specs.Contents.{contents_of}
use Rattle.score.specs.Refusals.{first_refusals, curator_refusals, refusals_of}

-- a header that is accepted, of a sheet of the length that it tells, and buffers that fit
pub record HeaderRead (least_result : ℕ) (s : List ℕ) (h : Header) (bytes words : ℕ) : Type 0 where
  pub header : Ok h ≡ header_of s
  pub total : whole s h.nodes h.genes ≡ true
  pub room : least_result ≤ bytes
  pub space : least_words ≤ words

-- what reading it comes to, of a call that asks for so many bytes of result
abbrev pub HeaderBy : (least_result : ℕ) → (s : List ℕ) → (bytes words : ℕ) → Result Header Refusal → Type 0
HeaderBy least_result s bytes words (Ok h) = HeaderRead least_result s h bytes words
HeaderBy least_result s bytes words (Err r) = number r ≡ verdict (first_refusals least_result s bytes words)

-- the lines of a sheet: their numbers are in their limits, and every stamp in a field
pub record LinesOf (s : List ℕ) (lines : Lines) : Type 0 where
  pub contents : contents_by lines ≡ contents_of s
  pub limits : WithinLimits lines.header
  pub stamps : Dated lines.header.nodes lines.nodes

-- what reading them comes to
pub record ReadBy (least_result : ℕ) (s : List ℕ) (bytes words : ℕ) (r : Result Lines Refusal) : Type 0 where
  pub told : refused r ≡ verdict (first_refusals least_result s bytes words)
  pub lines : (l : Lines) → r ≡ Ok l → LinesOf s l

-- lines that are read, and buffers that fit
pub record Ready (least_result : ℕ) (lines : Lines) (bytes words : ℕ) : Type 0 where
  pub limits : WithinLimits lines.header
  pub stamps : Dated lines.header.nodes lines.nodes
  pub room : least_result ≤ bytes
  pub space : least_words ≤ words

-- the outcome of the curators' refusals for these lines, and of all refusals for a sheet, of a call that writes this piece of what it scores
abbrev pub OutcomeBy : (piece : Contents → List ℕ) → Lines → (d e u t : List ℕ) → Result ℕ Refusal → Type 0
OutcomeBy piece lines d e u t r = OutcomeWriting (verdict (curator_refusals (contents_by lines))) (contents_by lines) (piece (contents_by lines)) d e u t r

abbrev pub OutcomeOf : (least_result : ℕ) → (piece : Contents → List ℕ) → (sheet d e u t : List ℕ) → Result ℕ Refusal → Type 0
OutcomeOf least_result piece sheet d e u t r =
    OutcomeWriting (verdict (refusals_of least_result sheet (length d) (length u))) (contents_of sheet) (piece (contents_of sheet)) d e u t r
