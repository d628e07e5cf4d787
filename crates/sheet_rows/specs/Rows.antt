-- A row of the table of known sheets: a call's input, and what it has to answer and to write.
-- Assumes nothing.
use Rattle.std.specs.Prelude.{◌≡◌, List, [], ◌∷◌, ◌++◌, ℕ, length, drop, Result}
use Prim.Native.String.{String, [] as nil, ◌∷◌ as ◌◂◌}
use Prim.Native.Char.{code}
use Rattle.columns.specs.Writing.{written}
use Rattle.refusals.specs.declared.Refusal.{Refusal}
use Rattle.score.specs.Outcome.{Promise}

-- the bytes of a text
abbrev pub bytes : String → List ℕ
bytes nil = []
bytes (c ◂ s) = code c ∷ bytes s

-- a line of text: its bytes and a line feed
abbrev pub ln : String → List ℕ
ln s = bytes s ++ (10 ∷ [])

-- a sheet, the bytes of the result and the words of the scratch that are lent; then the answer, and the bytes and words written (none by a refusal)
pub record Row : Type 0 where
  pub sheet : List ℕ
  pub result : ℕ
  pub scratch : ℕ
  pub answer : Result ℕ Refusal
  pub report : List ℕ
  pub words : List ℕ

-- what a call with this row's input comes to: the result was d and is e, the scratch was u and is t, and a is returned
pub record AsExpected (r : Row) (d e u t : List ℕ) (a : Result ℕ Refusal) : Type 0 where
  pub answer : a ≡ r.answer
  pub result : e ≡ written d r.report
  pub scratch : t ≡ r.words ++ drop (length r.words) u

-- whatever a call that keeps the promise of `score` does, on this row's sheet and on buffers of its lengths, it does what the row says
pub record Known (r : Row) : Type 0 where
  pub outcome : (d e u t : List ℕ) (a : Result ℕ Refusal) → length d ≡ r.result → length u ≡ r.scratch → Promise r.sheet d e u t a → AsExpected r d e u t a
