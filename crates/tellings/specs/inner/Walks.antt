-- The chosen history as loops write it (02, (ii), "for each gene, rising"): a table holds where each gene starts, and a gene's own steps, its walk, lead to
-- its last, which says where its children start. A parent has a lower number, so the table has each gene's start in time.
-- Assumes nothing.
use Rattle.std.specs.Prelude.{◌≡◌, ◌≤◌, ◌<◌, Bool, cond, List, [], ◌∷◌, ℕ, zero, suc, ◌+◌, ◌*◌, min, set}
use Rattle.std.proofs.Math.Option.{Option, none, some}
use Rattle.finite.specs.Tests.{same}
use Rattle.finite.specs.Tables.{at, zeros}
use Rattle.histories.specs.Histories.{Gene, tip, pair, Family, least}
use Rattle.tellings.specs.Steps.{Step, rests, speciates, duplicates, transfers, loses_going_down, loses_by_transfer, passes_free, code, first, second, Line, line}
use Rattle.tellings.specs.Chosen.{Onward, ends, splits, goes, onward, choice, chosen_start}

-- gene g may start at node v: it has a history there
pub record MayStart (F : Family) (g v : ℕ) : Type 0 where
  pub low : 1 ≤ v
  pub high : v ≤ F.nodes
  pub cost : ℕ
  pub finite : least F g v ≡ some cost

-- a step as one number, nodes being below 128: lower numbers are sooner steps, and no step has `no_step`
unfoldable pub step_number : Step → ℕ
step_number s = (code s * 128 + first s) * 128 + second s

abbrev pub no_step : ℕ
no_step = 114688

unfoldable pub number_or : Option Step → ℕ
number_or none = no_step
number_or (some s) = step_number s

-- the nodes of a step have numbers below 128
pub record Low (s : Step) : Type 0 where
  pub first_low : first s < 128
  pub second_low : second s < 128

-- the step with this code and these nodes
unfoldable pub step_by : (c p q : ℕ) → Step
step_by c p q = cond (same c 0) rests (cond (same c 1) (speciates p q) (cond (same c 2) (duplicates p) (cond (same c 3) (transfers p q)
    (cond (same c 4) (loses_going_down p) (cond (same c 5) (loses_by_transfer p) (passes_free p))))))

-- what holds of each step of a list
unfoldable pub Each : (Step → Type 0) → List Step → Type 0
Each P [] = Unit {0}
Each P (s ∷ l) = P s × Each P l

-- the lowest number of the steps that pass a test, and of `best`: one offer after another
unfoldable pub offer : Bool → ℕ → ℕ → ℕ
offer b k best = cond b (min k best) best

unfoldable pub offers : (Step → Bool) → List Step → ℕ → ℕ
offers f [] best = best
offers f (s ∷ l) best = offers f l (offer (f s) (step_number s) best)

-- f from the node that a gene moves on to, e where it does not move on
unfoldable pub unless_gone : {A : Type 0} → (Onward → A) → (ℕ → A) → Onward → A
unless_gone e f ends = e ends
unless_gone e f (splits p q) = e (splits p q)
unless_gone e f (goes w) = f w

-- the line of a step, and those from where the gene moves on to; and what follows the last of them
unfoldable pub line_then : (ℕ → List Line) → ℕ → Option Step → List Line
line_then f v none = []
line_then f v (some s) = line v s ∷ unless_gone (λ o. []) f (onward s)

unfoldable pub last_of : (ℕ → Onward) → Option Step → Onward
last_of f none = ends
last_of f (some s) = unless_gone (λ o. o) f (onward s)

-- the steps of gene g from node v on, and what follows the last of them: k bounds the steps
unfoldable pub walk_in : Family → ℕ → (g v : ℕ) → List Line
walk_in F zero g v = []
walk_in F (suc k) g v = line_then (walk_in F k g) v (choice F (least F) g v)

unfoldable pub leave_in : Family → ℕ → (g v : ℕ) → Onward
leave_in F zero g v = ends
leave_in F (suc k) g v = last_of (leave_in F k g) (choice F (least F) g v)

unfoldable pub walk : Family → (g v : ℕ) → List Line
walk F g v = walk_in F (suc F.nodes) g v

unfoldable pub leave : Family → (g v : ℕ) → Onward
leave F g v = leave_in F (suc F.nodes) g v

-- the table with the starts of the children of one gene more
unfoldable pub settle : Gene → Onward → List ℕ → List ℕ
settle (tip s) o t = t
settle (pair a b) ends t = t
settle (pair a b) (splits p q) t = set (set t a p) b q
settle (pair a b) (goes w) t = t

-- the starts that are known after the first x genes
unfoldable pub starts : Family → ℕ → List ℕ
starts F zero = set zeros 1 (chosen_start F)
starts F (suc x) = let t = starts F x in settle (F.gene (suc x)) (leave F (suc x) (at t (suc x))) t

-- whoever unfolds this unfolds all of this file
unfoldable pub open_Walks : Unit {0}
unfolding step_number number_or step_by Each offer offers unless_gone line_then last_of walk_in leave_in walk leave settle starts
open_Walks = tt
