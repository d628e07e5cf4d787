-- Refusals in the order of checking (01, "Refusals, by who can cause them"): "the first that applies is given". First and before go by place in a
-- list, never by the size of numbers.
-- Assumes nothing.
use Rattle.std.specs.Prelude.{ℕ, ◌<◌, ◌≡◌, ◌≢◌, ◌⊎◌, Bool, true, false, cond, List, [], ◌∷◌}

-- a refusal: its number, a test that computes, and its condition in the rules' words
pub record Refusal : Type 1 where
  pub number : ℕ
  pub test : Bool
  pub condition : Type 0

-- the number of the first whose test holds, 0 where none does
unfoldable pub verdict : List Refusal → ℕ
verdict [] = 0
verdict (r ∷ rs) = let k = verdict rs in cond r.test r.number k

-- the refusal with number k is the first that applies: its condition holds, and none before it
unfoldable pub First : List Refusal → ℕ → Type 0
First [] k = ⊥
First (r ∷ rs) k = (r.condition × (r.number ≡ k)) ⊎ ((¬ r.condition) × First rs k)

-- none applies
unfoldable pub NoneApplies : List Refusal → Type 0
NoneApplies [] = Unit {0}
NoneApplies (r ∷ rs) = (¬ r.condition) × NoneApplies rs

-- the bytes of three lines, which every report has at least: the number of a refusal is less
abbrev pub least_report : ℕ
least_report = 93

-- the test tells the condition, and the number is not 0, which stands for none, and is no report's
pub record Tells (r : Refusal) : Type 0 where
  pub some : r.number ≢ 0
  pub small : r.number < least_report
  pub yes : r.test ≡ true → r.condition
  pub refused : r.condition → r.test ≡ true

-- each test tells its condition where those before it have failed
pub data AllTell : List Refusal → Type 1 where
  no_more : AllTell []
  one_more : {r : Refusal} {rs : List Refusal} → Tells r → (r.test ≡ false → AllTell rs) → AllTell (r ∷ rs)
