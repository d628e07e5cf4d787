-- A history told gene by gene (02, (ii), "for each gene, rising, a line per step"): the steps that each gene takes in it, their lines, and the order by
-- which one of the cheapest histories is chosen.
-- Assumes nothing.
use Rattle.std.specs.Prelude.{◌≡◌, cond, List, [], ◌∷◌, ◌++◌, ℕ, zero, suc, ◌+◌, ◌≤◌, ◌<◌}
use Rattle.std.proofs.Common.{inl, inr}
use Rattle.finite.specs.Tests.{same}
use Rattle.reconciliation.specs.Costs.{Costs}
use Rattle.histories.specs.Histories.{Family, History, rest, duplicate, speciate, speciate_lose, transfer_stay, transfer_part, transfer_lose, pass, cost}

-- one step of a gene: the event, and the nodes where its children start, or the node that the gene moves on to. The children's nodes stand in the order
-- of `pair`, the lower-numbered child's first
pub data Step : Type 0 where
  rests : Step
  speciates : (first second : ℕ) → Step
  duplicates : (here : ℕ) → Step
  transfers : (first second : ℕ) → Step
  loses_going_down : (to : ℕ) → Step
  loses_by_transfer : (to : ℕ) → Step
  passes_free : (to : ℕ) → Step

-- "event code (those of 01, then 4 loss going down, 5 loss by transfer, 6 free pass)"
unfoldable pub code : Step → ℕ
code rests = 0
code (speciates p q) = 1
code (duplicates v) = 2
code (transfers p q) = 3
code (loses_going_down w) = 4
code (loses_by_transfer w) = 5
code (passes_free w) = 6

-- "and cost" (01, "The network as a whole"; D, T and L are the costs of the header)
unfoldable pub step_cost : Costs → Step → ℕ
step_cost C rests = 0
step_cost C (speciates p q) = 0
step_cost C (duplicates v) = C.duplication
step_cost C (transfers p q) = C.transfer
step_cost C (loses_going_down w) = C.loss
step_cost C (loses_by_transfer w) = C.transfer + C.loss
step_cost C (passes_free w) = 0

-- "the lowest node for the lower-numbered child gene, .. a gene that moves on takes the lower node": the node for that child, or the one moved on to
unfoldable pub first : Step → ℕ
first rests = 0
first (speciates p q) = p
first (duplicates v) = v
first (transfers p q) = p
first (loses_going_down w) = w
first (loses_by_transfer w) = w
first (passes_free w) = w

-- "then for the other": the node for the other child
unfoldable pub second : Step → ℕ
second rests = 0
second (speciates p q) = q
second (duplicates v) = v
second (transfers p q) = q
second (loses_going_down w) = 0
second (loses_by_transfer w) = 0
second (passes_free w) = 0

-- a gene stands at a node and takes a step
pub data Line : Type 0 where
  line : (node : ℕ) → Step → Line

-- gene g stands at node v and takes the step s: its line, where x is that gene
unfoldable pub own : (g v : ℕ) → Step → ℕ → List Line
own g v s x = cond (same x g) (line v s ∷ []) []

-- the lines of gene x in a history (001, Definition 3, clause by clause)
unfoldable pub steps : (F : Family) {g v : ℕ} → History F g v → ℕ → List Line
steps F {g} {v} (rest k o) x = own g v rests x
steps F {g} {v} (duplicate k h i) x = own g v (duplicates v) x ++ (steps F h x ++ steps F i x)
steps F {g} {v} (speciate {x = p} {y = q} (inl k) o h i) x = own g v (speciates p q) x ++ (steps F h x ++ steps F i x)
steps F {g} {v} (speciate {x = p} {y = q} (inr k) o h i) x = own g v (speciates q p) x ++ (steps F i x ++ steps F h x)
steps F {g} {v} (speciate_lose {x = p} o h) x = own g v (loses_going_down p) x ++ steps F h x
steps F {g} {v} (transfer_stay {y = q} (inl k) o h i) x = own g v (transfers q v) x ++ (steps F h x ++ steps F i x)
steps F {g} {v} (transfer_stay {y = q} (inr k) o h i) x = own g v (transfers v q) x ++ (steps F i x ++ steps F h x)
steps F {g} {v} (transfer_part {x = p} {y = q} (inl k) o h i) x = own g v (transfers q p) x ++ (steps F h x ++ steps F i x)
steps F {g} {v} (transfer_part {x = p} {y = q} (inr k) o h i) x = own g v (transfers p q) x ++ (steps F i x ++ steps F h x)
steps F {g} {v} (transfer_lose {y = q} o h) x = own g v (loses_by_transfer q) x ++ steps F h x
steps F {g} {v} (pass {x = p} o h) x = own g v (passes_free p) x ++ steps F h x

-- "a line per step with gene, step number from 1, node, event code .. and cost": the lines of gene g after its first k
unfoldable pub numbered : Family → (g k : ℕ) → List Line → List (List ℕ)
numbered F g k [] = []
numbered F g k (line v s ∷ l) = (g ∷ suc k ∷ v ∷ code s ∷ step_cost F.costs s ∷ []) ∷ numbered F g (suc k) l

-- "for each gene, rising": the lines of the genes 1..m
unfoldable pub listing : Family → (ℕ → List Line) → ℕ → List (List ℕ)
listing F f zero = []
listing F f (suc m) = listing F f m ++ numbered F (suc m) 0 (f (suc m))

-- "the lowest event code, then the lowest node for the lower-numbered child gene, then for the other; a gene that moves on takes the lower node"
pub data Sooner (s t : Step) : Type 0 where
  by_code : code s < code t → Sooner s t
  by_first : code s ≡ code t → first s < first t → Sooner s t
  by_second : code s ≡ code t → first s ≡ first t → second s < second t → Sooner s t

-- "at each step": where the lines of a gene first differ in two histories, it stands at one node, and takes the sooner step in the first of them
pub data Ahead : List Line → List Line → Type 0 where
  here : {v : ℕ} {s t : Step} {l k : List Line} → Sooner s t → Ahead (line v s ∷ l) (line v t ∷ k)
  later : {e : Line} {l k : List Line} → Ahead l k → Ahead (e ∷ l) (e ∷ k)

-- "genes rising": every gene has the same lines in both, or the first gene that has not is ahead in the first of them
pub data NotAfter (f k : ℕ → List Line) : Type 0 where
  alike : ((x : ℕ) → f x ≡ k x) → NotAfter f k
  earlier : (x : ℕ) → ((y : ℕ) → y < x → f y ≡ k y) → Ahead (f x) (k x) → NotAfter f k

-- "Among cheapest histories choose, nodes going by their numbers, the lowest starting node for gene 1, then, genes rising, at each step .."
pub record FirstCheapest (F : Family) (start : ℕ) (h : History F 1 start) : Type 0 where
  pub start_low : 1 ≤ start
  pub start_high : start ≤ F.nodes
  pub cheapest : (v : ℕ) → 1 ≤ v → v ≤ F.nodes → (i : History F 1 v) → cost F h ≤ cost F i
  pub lowest_start : (v : ℕ) → 1 ≤ v → v ≤ F.nodes → (i : History F 1 v) → cost F i ≡ cost F h → start ≤ v
  pub not_after : (i : History F 1 start) → cost F i ≡ cost F h → NotAfter (steps F h) (steps F i)

-- whoever unfolds this unfolds all of this file
unfoldable pub open_Steps : Unit {0}
unfolding code step_cost first second own steps numbered listing
open_Steps = tt
