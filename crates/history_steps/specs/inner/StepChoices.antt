-- What the steps of a gene at a node cost, read from rows of words, and which of them the choice is made of (crate tellings has the steps and their order).
-- Assumes nothing.
use Rattle.std.specs.Prelude.{◌≡◌, Bool, List, ◌++◌, ℕ, ◌+◌, ◌-◌, ◌≤◌, ◌<◌, length, drop, get_or, Option, Some, None}
use Rattle.std.proofs.Math.Option.{some}
use Rattle.layout.specs.Headers.{costs, WithinLimits}
use Rattle.layout.specs.declared.Header.{Header}
use Rattle.histories.specs.Histories.{Out, Gene, tip, pair, Cost, ◌⊕◌, then}
use Rattle.histories.specs.Words.{no_history}
use Rattle.histories.specs.inner.Rows.{cost_at, Cell}
use Rattle.cell_costs.specs.declared.Children.{Children}
use Rattle.cell_costs.specs.inner.Costs.{left_cost, right_cost}
use Rattle.tellings.specs.Steps.{Step, rests, speciates, duplicates, transfers, loses_going_down, loses_by_transfer, passes_free, step_cost}
use Rattle.tellings.specs.Chosen.{Onward, ends, splits, goes, onward, same_cost, moves, endings}
use Rattle.tellings.specs.inner.Walks.{Low}
use Rattle.history_steps.specs.declared.Step.{Step as Taken}
use Rattle.history_steps.specs.declared.Step.TheVariants.{Rest, Speciation, Duplication, Transfer, LossGoingDown, LossByTransfer, FreePass}
use Rattle.whole_network.specs.declared.Kind.{Kind}
use Rattle.whole_network.specs.declared.Kind.TheVariants.{Tip, Pair}
use Rattle.whole_network.specs.declared.Row.{Row}
use Rattle.history_steps.specs.declared.StepChoice.{StepChoice}

-- the step as the definitions of histories have it
abbrev pub step_of : Taken → Step
step_of Rest = rests
step_of (Speciation p q) = speciates p q
step_of (Duplication v) = duplicates v
step_of (Transfer p q) = transfers p q
step_of (LossGoingDown w) = loses_going_down w
step_of (LossByTransfer w) = loses_by_transfer w
step_of (FreePass w) = passes_free w

-- the node that a gene moves on to, and those where its children start, where what follows its step is that
unfoldable pub moved_to : Onward → Option ℕ
moved_to ends = None
moved_to (splits p q) = None
moved_to (goes w) = Some w

unfoldable pub parted_to : Onward → Option (ℕ × ℕ)
parted_to ends = None
parted_to (splits p q) = Some (p, q)
parted_to (goes w) = None

-- the least cost of what follows a step, by the rows of the gene and of its children
unfoldable pub following : (own left right : ℕ → Cost) → Onward → Cost
following own left right ends = some 0
following own left right (splits p q) = left p ⊕ right q
following own left right (goes w) = own w

-- and of the step with it
unfoldable pub spent : StepChoice → Step → Cost
spent t s = then (step_cost (costs t.header) s) (following (cost_at t.own.now) (left_cost t.children) (right_cost t.children) (onward s))

-- whether that is the least cost there
unfoldable pub attains : StepChoice → Step → Bool
attains t s = same_cost (spent t s) (some t.least)

-- the rows may be read where the step leads
unfoldable pub Readable : StepChoice → Onward → Type 0
Readable t ends = Unit {0}
Readable t (splits p q) = Cell t.children.left.now p × Cell t.children.right.now q
Readable t (goes w) = Cell t.own.now w

-- the step may be offered
pub record Fit (t : StepChoice) (s : Step) : Type 0 where
  pub low : Low s
  pub readable : Readable t (onward s)

-- costs within their limits, and a least cost that is one
pub record Ready (t : StepChoice) : Type 0 where
  pub limits : WithinLimits t.header
  pub least_low : t.least < no_history

-- a leaf gene of a species, or a gene with two children, by what its row says of it (the places where its children's rows begin stand for their numbers)
abbrev pub gene_by : Kind → Gene
gene_by (Tip k) = tip k
gene_by (Pair a b) = pair a b

-- the steps open to such a gene at a node v with these arcs out
abbrev pub open_to : Kind → (v : ℕ) → Out → List Step
open_to k v o = endings (gene_by k) v o ++ moves o

-- the rows of a gene's children begin in the words s
abbrev pub BeginIn : List ℕ → Kind → Type 0
BeginIn s (Tip k) = Unit {0}
BeginIn s (Pair a b) = (a ≤ length s) × (b ≤ length s)

-- and its own does
pub record Within (s : List ℕ) (r : Row) : Type 0 where
  pub own : r.start ≤ length s
  pub others : BeginIn s r.kind

-- its children's rows there; of a leaf gene its own
abbrev pub ChildRows : List ℕ → ℕ → Kind → Children → Type 0
ChildRows s k (Tip j) c = (c.left.now ≡ drop k s) × (c.right.now ≡ drop k s)
ChildRows s k (Pair a b) c = (c.left.now ≡ drop a s) × (c.right.now ≡ drop b s)

-- the choice of a row's gene at node v, by the words s of the table
pub record ChoiceAt (h : Header) (s : List ℕ) (r : Row) (v : ℕ) (t : StepChoice) : Type 0 where
  pub header : t.header ≡ h
  pub own : t.own.now ≡ drop r.start s
  pub children : ChildRows s r.start r.kind t.children
  pub least : t.least ≡ get_or s (r.start + (v - 1)) 0
