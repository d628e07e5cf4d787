-- The history that 02, (ii), chooses, computed: at each node a gene takes the first step, in 02's order, of those that attain the least cost there.
-- Assumes nothing.
use Rattle.std.specs.Prelude.{Bool, true, false, cond, ◌&&◌, ◌||◌, List, [], ◌∷◌, ◌++◌, ℕ, zero, suc, ◌+◌}
use Rattle.std.proofs.Math.Option.{Option, none, some}
use Rattle.finite.specs.Tests.{same, under}
unfoldable pub use Rattle.finite.specs.Range.{first as first_where}
use Rattle.histories.specs.Histories.{Out, leaf, one, two, mixed, Gene, tip, pair, Family, Cost, ◌⊕◌, then, least, overall}
use Rattle.tellings.specs.Steps.{Step, rests, speciates, duplicates, transfers, loses_going_down, loses_by_transfer, passes_free, code, step_cost, first, second, Line, own, listing}

-- the steps open to a gene at a node v with these arcs out (01, "The network as a whole"): it moves on
unfoldable pub moves : Out → List Step
moves (leaf t) = []
moves (one x) = passes_free x ∷ []
moves (two x y) = loses_going_down x ∷ loses_going_down y ∷ []
moves (mixed x y) = loses_by_transfer y ∷ passes_free x ∷ []

-- or its children part, one down each principal arc or one along the secondary arc
unfoldable pub partings : ℕ → Out → List Step
partings v (leaf t) = []
partings v (one x) = []
partings v (two x y) = speciates x y ∷ speciates y x ∷ []
partings v (mixed x y) = transfers v y ∷ transfers y v ∷ transfers x y ∷ transfers y x ∷ []

-- or, a leaf gene of species s, it rests
unfoldable pub restings : ℕ → Out → List Step
restings s (leaf t) = cond (same s t) (rests ∷ []) []
restings s (one x) = []
restings s (two x y) = []
restings s (mixed x y) = []

-- the steps that end at v: a leaf gene may rest, a gene with two children duplicate, or they part
unfoldable pub endings : Gene → ℕ → Out → List Step
endings (tip s) v o = restings s o
endings (pair a b) v o = duplicates v ∷ partings v o

-- all of them, for gene g at node v
unfoldable pub options : Family → (g v : ℕ) → List Step
options F g v = endings (F.gene g) v (F.out v) ++ moves (F.out v)

-- what follows a step: nothing, the two children from two nodes, or the gene itself from another node
pub data Onward : Type 0 where
  ends : Onward
  splits : (p q : ℕ) → Onward
  goes : (w : ℕ) → Onward

unfoldable pub onward : Step → Onward
onward rests = ends
onward (speciates p q) = splits p q
onward (duplicates v) = splits v v
onward (transfers p q) = splits p q
onward (loses_going_down w) = goes w
onward (loses_by_transfer w) = goes w
onward (passes_free w) = goes w

-- the least cost of what follows, and of the step with it, by the table W
unfoldable pub beyond : (W : ℕ → ℕ → Cost) → ℕ → Gene → Onward → Cost
beyond W g k ends = some 0
beyond W g (tip s) (splits p q) = none
beyond W g (pair a b) (splits p q) = W a p ⊕ W b q
beyond W g k (goes w) = W g w

unfoldable pub total : Family → (W : ℕ → ℕ → Cost) → ℕ → Step → Cost
total F W g s = then (step_cost F.costs s) (beyond W g (F.gene g) (onward s))

-- whether two costs are the same
unfoldable pub same_cost : Cost → Cost → Bool
same_cost none none = true
same_cost none (some b) = false
same_cost (some a) none = false
same_cost (some a) (some b) = same a b

-- whether step s comes before step t
unfoldable pub sooner : Step → Step → Bool
sooner s t = under (code s) (code t) || (same (code s) (code t) && (under (first s) (first t) || (same (first s) (first t) && under (second s) (second t))))

-- the first of those steps that pass a test
unfoldable pub soonest : Step → Option Step → Step
soonest s none = s
soonest s (some t) = cond (sooner t s) t s

unfoldable pub pick : (Step → Bool) → List Step → Option Step
pick f [] = none
pick f (s ∷ l) = let r = pick f l in cond (f s) (some (soonest s r)) r

-- the step that gene g takes at node v: the first that attains the least cost
unfoldable pub choice : Family → (W : ℕ → ℕ → Cost) → (g v : ℕ) → Option Step
choice F W g v = pick (λ s. same_cost (total F W g s) (W g v)) (options F g v)

-- the lines of gene x, when gene g starts at node v, in at most k steps in a row
unfoldable pub after : (C : ℕ → ℕ → ℕ → List Line) → ℕ → Gene → Onward → ℕ → List Line
after C g k ends x = []
after C g (tip s) (splits p q) x = []
after C g (pair a b) (splits p q) x = C a p x ++ C b q x
after C g k (goes w) x = C g w x

unfoldable pub follow : Family → (C : ℕ → ℕ → ℕ → List Line) → (g v : ℕ) → Option Step → ℕ → List Line
follow F C g v none x = []
follow F C g v (some s) x = own g v s x ++ after C g (F.gene g) (onward s) x

unfoldable pub chosen : Family → ℕ → (g v x : ℕ) → List Line
chosen F zero g v x = []
chosen F (suc k) g v x = follow F (chosen F k) g v (choice F (least F) g v) x

-- "the lowest starting node for gene 1"
unfoldable pub chosen_start : Family → ℕ
chosen_start F = first_where F.nodes (λ v. same_cost (least F 1 v) (overall F))

-- the lines of gene x in the chosen history: no history has more steps in a row than there are genes and nodes
unfoldable pub chosen_steps : Family → ℕ → List Line
chosen_steps F x = chosen F (suc (F.genes + F.nodes)) 1 (chosen_start F) x

-- the lines to write, five numbers each
unfoldable pub history_lines : Family → List (List ℕ)
history_lines F = listing F (chosen_steps F) F.genes

-- whoever unfolds this unfolds all of this file
unfoldable pub open_Chosen : Unit {0}
unfolding first_where moves partings restings endings options onward beyond total same_cost sooner soonest pick choice after follow chosen chosen_start chosen_steps history_lines
open_Chosen = tt
