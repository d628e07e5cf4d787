-- The promise of the call that shows the history: that of a call on a sheet (crate score) which writes the report and behind it the lines of the history;
-- what these lines are; and what the plain call has to do with it.
-- Assumes nothing.
use Rattle.std.specs.Prelude.{◌≡◌, List, ℕ, ◌++◌, ◌≤◌, Result, Ok}
use Rattle.columns.specs.Writing.{put}
use Rattle.text_lines.specs.Lines.{lines_text}
use Rattle.tellings.specs.Chosen.{history_lines}
use Rattle.tellings.specs.Shown.{HistoryShown}
use Rattle.family.specs.Families.{Contents, family_in}
use Rattle.family.specs.Reports.{report_in}
use Rattle.refusals.specs.declared.Refusal.{Refusal}
use Rattle.score.specs.Contents.{contents_of}
use Rattle.score.specs.Outcome as Plain
use Rattle.score_history.specs.Buffers.{least_bytes}

-- the bytes of the lines of the history
abbrev pub history_in : Contents → List ℕ
history_in X = lines_text (history_lines (family_in X))

-- "After the report write one cheapest history"
abbrev pub bytes_in : Contents → List ℕ
bytes_in X = report_in X ++ history_in X

-- of the sheet, the result and the scratch before and after the call, and the answer
module _ (sheet result result_after scratch scratch_after : List ℕ) (answer : Result ℕ Refusal) where
  -- what a report with a history says beyond the report
  pub record WithHistory (bytes : ℕ) : Type 0 where
    pub shown : HistoryShown (family_in (contents_of sheet)) (history_lines (family_in (contents_of sheet)))
    -- no sheet that scores runs out of room
    pub few : bytes ≤ 505951
    -- from the same buffers the plain call answers with the report alone: this call leaves its scratch, and its result with the history behind the report
    pub plain : (e t : List ℕ) (a : Result ℕ Refusal) → Plain.Promise sheet result e scratch t a
        → (b : ℕ) × (a ≡ Ok b) × (result_after ≡ put e b (history_in (contents_of sheet))) × (scratch_after ≡ t)

  pub record Promise : Type 0 where
    -- demands 1, 2 and 3; the refusals are the plain call's, but "2 uses that figure there" (02, (ii))
    pub call : Plain.PromiseOfSheet least_bytes bytes_in sheet result result_after scratch scratch_after answer
    pub with_history : (bytes : ℕ) → answer ≡ Ok bytes → WithHistory bytes
