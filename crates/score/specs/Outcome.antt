-- The promise of a call on a sheet: that of a call with the refusals of its sheet, numbered up to 13, which scores the contents of its sheet. The call that
-- scores a sheet writes the report of them.
-- Assumes nothing.
use Rattle.std.specs.Prelude.{List, ℕ, length, Result}
use Rattle.refusals.specs.declared.Refusal.{Refusal}
use Rattle.family.specs.Buffers.{least_bytes}
use Rattle.family.specs.Families.{Contents}
use Rattle.family.specs.Reports.{report_in}
use Rattle.answer.specs.Outcome as Call
use Rattle.score.specs.Contents.{contents_of}
use Rattle.score.specs.Refusals.{refusals_of}

-- by the least result that the call asks for and the piece that it writes of the contents: of the sheet, the result and the scratch before and after the
-- call, and the answer
abbrev pub PromiseOfSheet : (least_result : ℕ) → (piece : Contents → List ℕ) → (sheet result result_after scratch scratch_after : List ℕ) → Result ℕ Refusal → Type 0
PromiseOfSheet least_result piece sheet result result_after scratch scratch_after answer =
    Call.PromiseWriting 13 (refusals_of least_result sheet (length result) (length scratch)) (contents_of sheet) (piece (contents_of sheet)) result result_after scratch scratch_after answer

abbrev pub Promise : (sheet result result_after scratch scratch_after : List ℕ) → Result ℕ Refusal → Type 0
Promise sheet result result_after scratch scratch_after answer = PromiseOfSheet least_bytes report_in sheet result result_after scratch scratch_after answer
