-- What a call that scores a family answers and leaves (01, "Refusals"), by its refusals in the order of checking, the greatest of their numbers, the contents
-- that it scores where none of them applies, and the piece, the bytes that it then writes; and the promise of such a call, part by part. Of most calls the
-- piece is the report.
-- Assumes nothing.
use Rattle.std.specs.Prelude.{◌≡◌, cond, List, ◌++◌, ℕ, ◌*◌, ◌≤◌, ◌<◌, length, drop, Result, Ok, Err}
use Rattle.finite.specs.Tests.{same}
use Rattle.finite.specs.Refusals.{least_report, Refusal, verdict, First, NoneApplies}
use Rattle.histories.specs.Words.{words}
use Rattle.columns.specs.Writing.{written}
use Rattle.family.specs.Families.{Contents, family_in}
use Rattle.family.specs.Reports.{report_in, Reported}
use Rattle.refusals.specs.declared.Refusal.{Refusal as Reason}
use Rattle.refusals.specs.Numbers.{number, refused}

-- the paper's number for each case: "A refusal returns its number .. A scored sheet returns how many bytes it wrote to the result"
abbrev pub number_of : Result ℕ Reason → ℕ
number_of (Ok bytes) = bytes
number_of (Err r) = number r

-- "result and scratch are untouched" by a refusal; else the piece, and the table of the whole network, with what stood behind them
unfoldable pub result_by : ℕ → (piece d : List ℕ) → List ℕ
result_by k piece d = cond (same k 0) (written d piece) d

unfoldable pub scratch_by : ℕ → Contents → List ℕ → List ℕ
scratch_by k X u = cond (same k 0) (words (family_in X) ++ drop (X.genes.count * X.nodes.size) u) u

-- the outcome of a call: refusal k is the first that applies, or, where k is 0, X is scored; the result was d and is e, the scratch was u and is t
pub record OutcomeWriting (k : ℕ) (X : Contents) (piece d e u t : List ℕ) (r : Result ℕ Reason) : Type 0 where
  pub refusal : refused r ≡ k
  pub report : k ≡ 0 → r ≡ Ok (length piece)
  pub result : e ≡ result_by k piece d
  pub scratch : t ≡ scratch_by k X u

abbrev pub Outcome : ℕ → Contents → (d e u t : List ℕ) → Result ℕ Reason → Type 0
Outcome k X d e u t r = OutcomeWriting k X (report_in X) d e u t r

-- "the first that applies is given. A refusal returns its number; result and scratch are untouched"
pub record IsRefused (last : ℕ) (refusals : List Refusal) (result result_after scratch scratch_after : List ℕ) (k : ℕ) : Type 0 where
  pub low : 1 ≤ k
  pub high : k ≤ last
  pub apart : k < least_report
  pub first : First refusals k
  pub result_kept : result_after ≡ result
  pub scratch_kept : scratch_after ≡ scratch

-- "A scored sheet returns how many bytes it wrote to the result"
pub record IsWritten (refusals : List Refusal) (X : Contents) (piece result result_after scratch scratch_after : List ℕ) (b : ℕ) : Type 0 where
  pub none : NoneApplies refusals
  pub bytes : b ≡ length piece
  pub apart : least_report ≤ b
  pub result_written : result_after ≡ written result piece
  pub scratch_written : scratch_after ≡ words (family_in X) ++ drop (X.genes.count * X.nodes.size) scratch
  -- demands 2 and 3
  pub reported : Reported X

-- what each case of the answer says: of the refusals, the contents and the piece, and of the result and the scratch before and after the call
module _ (last : ℕ) (refusals : List Refusal) (X : Contents) (piece result result_after scratch scratch_after : List ℕ) where
  abbrev pub Says : Result ℕ Reason → Type 0
  Says (Ok b) = IsWritten refusals X piece result result_after scratch scratch_after b
  Says (Err r) = IsRefused last refusals result result_after scratch scratch_after (number r)

-- the promise of a call with these refusals, numbered up to last, which scores X by this piece
pub record PromiseWriting (last : ℕ) (refusals : List Refusal) (X : Contents) (piece result result_after scratch scratch_after : List ℕ) (answer : Result ℕ Reason) : Type 0 where
  -- demand 1: a report or a refusal, each under its condition only
  pub says : Says last refusals X piece result result_after scratch scratch_after answer
  -- and wherever its condition holds
  pub refuses : (r : Reason) → First refusals (number r) → answer ≡ Err r
  pub scores : NoneApplies refusals → answer ≡ Ok (length piece)
  -- the same as equations that compute: the answer, the result and the scratch follow from the refusals' tests and the contents
  pub outcome : OutcomeWriting (verdict refusals) X piece result result_after scratch scratch_after answer

-- of a call that writes the report
module _ (last : ℕ) (refusals : List Refusal) (X : Contents) (result result_after scratch scratch_after : List ℕ) where
  abbrev pub Promise : Result ℕ Reason → Type 0
  Promise answer = PromiseWriting last refusals X (report_in X) result result_after scratch scratch_after answer
