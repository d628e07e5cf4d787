-- The histories of a gene in the network as a whole (01, "The network as a whole"; 001, Definition 3), what each costs, and the least cost, computed.
-- Assumes nothing.
use Rattle.std.specs.Prelude.{◌≡◌, ◌⊎◌, cond, ℕ, zero, suc, ◌+◌, ◌≤◌, min}
use Rattle.std.proofs.Math.Option.{Option, none, some}
use Rattle.finite.specs.Tests.{same}
use Rattle.reconciliation.specs.Costs.{Costs}

-- the arcs out of a node, by the nodes they lead to: none, at a leaf of a species; one principal; two principal; a principal and a secondary one
pub data Out : Type 0 where
  leaf : ℕ → Out
  one : ℕ → Out
  two : ℕ → ℕ → Out
  mixed : ℕ → ℕ → Out

-- a leaf gene of a species, or a gene with two children
pub data Gene : Type 0 where
  tip : ℕ → Gene
  pair : ℕ → ℕ → Gene

-- a gene family in a network: nodes 1..nodes, genes 1..genes, and the costs of a duplication, a transfer and a loss
pub record Family : Type 0 where
  pub nodes : ℕ
  pub genes : ℕ
  pub out : ℕ → Out
  pub gene : ℕ → Gene
  pub costs : Costs

module _ (F : Family) where
  open F use {out, gene, costs}
  open costs use {duplication, transfer, loss}

  -- a and b are the children of g, in either order
  abbrev pub Children : ℕ → ℕ → ℕ → Type 0
  Children g a b = (gene g ≡ pair a b) ⊎ (gene g ≡ pair b a)

  -- v has two principal arcs, to x and y, in either order
  abbrev pub Fork : ℕ → ℕ → ℕ → Type 0
  Fork v x y = (out v ≡ two x y) ⊎ (out v ≡ two y x)

  -- v has exactly one principal arc, to x
  abbrev pub Only : ℕ → ℕ → Type 0
  Only v x = (out v ≡ one x) ⊎ ((y : ℕ) × (out v ≡ mixed x y))

  -- the histories of gene g that start at node v
  pub data History : ℕ → ℕ → Type 0 where
    -- "rest, if both are leaves of one species (0)"
    rest : {g v s : ℕ} → gene g ≡ tip s → out v ≡ leaf s → History g v
    -- "duplicate, both children starting there (D)"
    duplicate : {g v a b : ℕ} → gene g ≡ pair a b → History a v → History b v → History g v
    -- "with two principal arcs, send one child down each (0)"
    speciate : {g v a b x y : ℕ} → Children g a b → out v ≡ two x y → History a x → History b y → History g v
    -- "or go down one itself (L)"
    speciate_lose : {g v x y : ℕ} → Fork v x y → History g x → History g v
    -- "with one secondary arc, send one child along it while the other stays", at T
    transfer_stay : {g v a b x y : ℕ} → Children g a b → out v ≡ mixed x y → History a y → History b v → History g v
    -- "or takes the principal arc (T)"
    transfer_part : {g v a b x y : ℕ} → Children g a b → out v ≡ mixed x y → History a y → History b x → History g v
    -- "or go along it itself (T + L)"
    transfer_lose : {g v x y : ℕ} → out v ≡ mixed x y → History g y → History g v
    -- "with exactly one principal arc, go down it free"
    pass : {g v x : ℕ} → Only v x → History g x → History g v

  unfoldable pub cost : {g v : ℕ} → History g v → ℕ
  cost (rest k o) = 0
  cost (duplicate k h i) = duplication + cost h + cost i
  cost (speciate k o h i) = cost h + cost i
  cost (speciate_lose o h) = loss + cost h
  cost (transfer_stay k o h i) = transfer + cost h + cost i
  cost (transfer_part k o h i) = transfer + cost h + cost i
  cost (transfer_lose o h) = (transfer + loss) + cost h
  cost (pass o h) = cost h

-- the least cost of some histories: none where there is no history
abbrev pub Cost : Type 0
Cost = Option ℕ

-- what it means to be that: a history of gene g starting at v has this cost and none is cheaper, or there is none
pub data Least (F : Family) (g v : ℕ) : Cost → Type 0 where
  attained : {c : ℕ} → (h : History F g v) → cost F h ≡ c → ((i : History F g v) → c ≤ cost F i) → Least F g v (some c)
  nothing : ¬ (History F g v) → Least F g v none

-- "The result is the least cost over histories starting gene 1 at any node"
pub record LeastOverall (F : Family) (c : ℕ) : Type 0 where
  pub start : ℕ
  pub start_low : 1 ≤ start
  pub start_high : start ≤ F.nodes
  pub history : History F 1 start
  pub attains : cost F history ≡ c
  pub cheapest : (v : ℕ) → 1 ≤ v → v ≤ F.nodes → (h : History F 1 v) → c ≤ cost F h

-- the lesser of two costs, and the sum of two
infixl 20 ◌lesser◌
infixl 25 ◌⊕◌
unfoldable pub ◌lesser◌ : Cost → Cost → Cost
none lesser b = b
some a lesser none = some a
some a lesser some b = some (min a b)

unfoldable pub ◌⊕◌ : Cost → Cost → Cost
none ⊕ b = none
some a ⊕ none = none
some a ⊕ some b = some (a + b)

-- an event of cost x, and what goes on from it: one history, or the two children's
unfoldable pub then : ℕ → Cost → Cost
then x a = some x ⊕ a

unfoldable pub both : ℕ → Cost → Cost → Cost
both x a b = some x ⊕ a ⊕ b

-- The clauses on least costs. A row has a gene's least costs by starting node

-- a leaf gene of species s rests
unfoldable pub resting : ℕ → Out → Cost
resting s (leaf t) = cond (same s t) (some 0) none
resting s (one x) = none
resting s (two x y) = none
resting s (mixed x y) = none

-- the children, whose rows are A and B, part at v, for a transfer cost t
unfoldable pub parting : ℕ → (A B : ℕ → Cost) → ℕ → Out → Cost
parting t A B v (leaf s) = none
parting t A B v (one x) = none
parting t A B v (two x y) = both 0 (A x) (B y) lesser both 0 (B x) (A y)
parting t A B v (mixed x y) = (both t (A y) (B v) lesser both t (B y) (A v)) lesser (both t (A y) (B x) lesser both t (B y) (A x))

-- a gene, whose row is G, moves on, for a transfer cost t and a loss cost l
unfoldable pub moving : ℕ → ℕ → (G : ℕ → Cost) → Out → Cost
moving t l G (leaf s) = none
moving t l G (one x) = then 0 (G x)
moving t l G (two x y) = then l (G x) lesser then l (G y)
moving t l G (mixed x y) = then (t + l) (G y) lesser then 0 (G x)

-- a gene ends at v, for a duplication cost d: it rests, or its children start there, or they part
unfoldable pub ending : ℕ → ℕ → (W : ℕ → ℕ → Cost) → Gene → ℕ → Out → Cost
ending d t W (tip s) v o = resting s o
ending d t W (pair a b) v o = both d (W a v) (W b v) lesser parting t (W a) (W b) v o

-- a gene g of this kind at a node v with these arcs out ends there or moves on
unfoldable pub stepping : (d t l : ℕ) → (W : ℕ → ℕ → Cost) → ℕ → Gene → ℕ → Out → Cost
stepping d t l W g k v o = ending d t W k v o lesser moving t l (W g) o

unfoldable pub clauses : Family → (W : ℕ → ℕ → Cost) → ℕ → ℕ → Cost
clauses F W g v = stepping F.costs.duplication F.costs.transfer F.costs.loss W g (F.gene g) v (F.out v)

-- the least cost of the histories of at most k steps
unfoldable pub best : Family → ℕ → ℕ → ℕ → Cost
best F zero g v = none
best F (suc k) g v = clauses F (best F k) g v

-- the least cost for gene g starting at node v: no history has more steps in a row than there are genes and nodes
unfoldable pub least : Family → ℕ → ℕ → Cost
least F g v = best F (suc (F.genes + F.nodes)) g v

-- the least of the costs at the nodes 1..k
unfoldable pub least_over : ℕ → (ℕ → Cost) → Cost
least_over zero f = none
least_over (suc k) f = least_over k f lesser f (suc k)

-- the least cost of gene 1 starting at any node
unfoldable pub overall : Family → Cost
overall F = least_over F.nodes (least F 1)

-- whoever unfolds this unfolds all of this file
unfoldable pub open_Histories : Unit {0}
unfolding cost ◌lesser◌ ◌⊕◌ then both resting parting moving ending stepping clauses best least least_over overall
open_Histories = tt
