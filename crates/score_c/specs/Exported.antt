-- What an exported call promises: the promise of the call that it hands on, whose answer is told as one plain number.
-- Assumes nothing.
use Rattle.std.specs.Prelude.{◌≡◌, ℕ, ◌≤◌, ◌<◌, Result, Ok, Err}
use Rattle.refusals.specs.declared.Refusal.{Refusal}
use Rattle.finite.specs.Refusals.{least_report}
use Rattle.answer.specs.Outcome.{number_of}

-- what that call promises of its answer, and the number returned
pub record Exported (Promise : Result ℕ Refusal → Type 0) (number : ℕ) : Type 0 where
  -- the answer that the number tells
  pub answer : Result ℕ Refusal
  -- demands 1, 2 and 3 of it
  pub promise : Promise answer
  -- the paper's number for it (01, first paragraphs): a refusal's own number, a report's bytes
  pub told : number ≡ number_of answer
  -- a number below 93, three lines of 31 bytes, is exactly a refusal's
  pub below : number < least_report → (r : Refusal) × (answer ≡ Err r)
  pub above : least_report ≤ number → (b : ℕ) × (answer ≡ Ok b)
