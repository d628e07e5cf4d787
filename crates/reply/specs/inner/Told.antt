-- How an answer is told: the report stands in the result already, and the line of a refusal is written over its front.
-- Assumes nothing.
use Rattle.std.specs.Prelude.{List, ℕ, length, Result, Ok, Err}
use Rattle.columns.specs.Writing.{written}
use Rattle.refusals.specs.declared.Refusal.{Refusal}
use Rattle.refusals.specs.Numbers.{number}
use Rattle.reply.specs.Refused.{refused_line}

-- what a result e becomes
abbrev pub told_in : List ℕ → Result ℕ Refusal → List ℕ
told_in e (Ok b) = e
told_in e (Err x) = written e (refused_line (number x))

-- and how many bytes of it are told
abbrev pub told_bytes : Result ℕ Refusal → ℕ
told_bytes (Ok b) = b
told_bytes (Err x) = length (refused_line (number x))
