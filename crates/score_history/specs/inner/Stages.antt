-- What the stages of the call hand on to each other.
-- Assumes nothing.
use Rattle.std.specs.Prelude.{ℕ, ◌≤◌}
use Rattle.layout.specs.declared.lines.Lines.{Lines}
use Rattle.family.specs.inner.Stages.{contents_by, Sized, Passed}
use Rattle.score_history.specs.Buffers.{least_bytes}

-- lines that no refusal applies to, and buffers with room for the history too
pub record Spacious (lines : Lines) (bytes words : ℕ) : Type 0 where
  pub sized : Sized lines.header bytes words
  pub room : least_bytes ≤ bytes
  pub passed : Passed (contents_by lines)
