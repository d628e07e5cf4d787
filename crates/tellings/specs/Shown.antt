-- What the lines of the history are (02, (ii)): those of the first of all cheapest histories.
-- Assumes nothing.
use Rattle.std.specs.Prelude.{◌≡◌, List, [], ◌∷◌, ℕ, ◌+◌, ◌≤◌, ◌<◌, get_or, length}
use Rattle.histories.specs.Histories.{pair, Family, History, overall}
use Rattle.histories.specs.Words.{word}
use Rattle.tellings.specs.Steps.{Step, code, first, second, Line, line, steps, listing, FirstCheapest}

-- the lines of a gene that starts at node v: it moves on by the codes 4 to 6, stands next at the node that it moved to, and comes at last to an event of
-- 01, which sends its children to p and q
pub data Way : (v : ℕ) → List Line → (p q : ℕ) → Type 0 where
  last : {v : ℕ} {s : Step} → code s ≤ 3 → Way v (line v s ∷ []) (first s) (second s)
  before : {v p q : ℕ} {s : Step} {l : List Line} → 4 ≤ code s → Way (first s) l p q → Way v (line v s ∷ l) p q

-- the costs of lines, their fifth numbers, together
unfoldable pub line_costs : List (List ℕ) → ℕ
line_costs [] = 0
line_costs (r ∷ l) = get_or r 4 0 + line_costs l

-- every number of the lines fits six columns
unfoldable pub LinesFit : List (List ℕ) → Type 0
LinesFit [] = Unit {0}
LinesFit (r ∷ l) = ((i : ℕ) → get_or r i 0 < 1000000) × LinesFit l

-- these are the lines of the history to write
pub record HistoryShown (F : Family) (lines : List (List ℕ)) : Type 0 where
  -- "After the report write one cheapest history: for each gene, rising, a line per step"
  pub start : ℕ
  pub history : History F 1 start
  pub tells : lines ≡ listing F (steps F history) F.genes
  -- "Among cheapest histories choose .."
  pub first_cheapest : FirstCheapest F start history
  -- "the lower-numbered child gene, then .. the other": a gene's first child is the lower-numbered one
  pub lower_first : (g a b : ℕ) → F.gene g ≡ pair a b → a < b
  -- gene 1 starts where the history does, every other gene where its parent's last line sends it
  pub start_of : ℕ → ℕ
  pub root_start : start_of 1 ≡ start
  pub ways : (x : ℕ) → 1 ≤ x → x ≤ F.genes → (p q : ℕ) × Way (start_of x) (steps F history x) p q × ((a b : ℕ) → F.gene x ≡ pair a b → (start_of a ≡ p) × (start_of b ≡ q))
  -- "The sum of the lines is the second line's cost"
  pub adds_up : line_costs lines ≡ word (overall F)
  pub six_columns : LinesFit lines
  -- 5,952 bytes of report and 31 bytes a line are at most 505,951: "a separate call whose result holds at least 600,000 bytes"
  pub few : length lines ≤ 16129

-- whoever unfolds this unfolds all of this file
unfoldable pub open_Shown : Unit {0}
unfolding line_costs LinesFit
open_Shown = tt
