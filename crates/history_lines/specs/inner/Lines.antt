-- What is written for a step and for a gene of the history that is shown.
-- Assumes nothing.
use Rattle.std.specs.Prelude.{◌≡◌, ◌≢◌, List, [], ◌∷◌, ℕ, ◌+◌, ◌-◌, ◌*◌, ◌≤◌, length}
use Rattle.std.proofs.Math.Option.{some}
use Rattle.finite.specs.Tables.{at}
use Rattle.columns.specs.Writing.{put}
use Rattle.layout.specs.inner.Genes.{left}
use Rattle.text_lines.specs.Lines.{line_length, line_of, lines_text}
use Rattle.histories.specs.Histories.{Family, least}
use Rattle.tellings.specs.Steps.{Step, code, step_cost, numbered}
use Rattle.tellings.specs.Chosen.{splits, onward, choice}
use Rattle.tellings.specs.inner.Walks.{MayStart, walk, leave, starts}
use Rattle.whole_network.specs.declared.source.Source.{Source}
use Rattle.history_steps.specs.inner.StepChoices.{step_of}
use Rattle.history_lines.specs.declared.LastStep.{LastStep}

-- the numbers of the line of step k of gene g, at node v
abbrev pub step_line : Family → (g k v : ℕ) → Step → List ℕ
step_line F g k v s = g ∷ k ∷ v ∷ code s ∷ step_cost F.costs s ∷ []

-- the result was d and is e: the line of gene g's k-th step, at node v, stands at a place of it
pub record StepWritten (F : Family) (g k v : ℕ) (d : List ℕ) (at : ℕ) (e : List ℕ) (t : LastStep) : Type 0 where
  pub chosen : choice F (least F) g v ≡ some (step_of t.step)
  pub bytes : e ≡ put d at (line_of (step_line F g k v (step_of t.step)))
  pub next : t.next ≡ at + line_length

-- the lines of gene g, which starts at node v, do, and t has its last step, which is taken at a node
pub record WalkWritten (F : Family) (g v : ℕ) (d : List ℕ) (at : ℕ) (e : List ℕ) (t : LastStep) : Type 0 where
  pub node : ℕ
  pub may : MayStart F g node
  pub chosen : choice F (least F) g node ≡ some (step_of t.step)
  pub leaves : leave F g v ≡ onward (step_of t.step)
  pub bytes : e ≡ put d at (lines_text (numbered F g 0 (walk F g v)))
  pub next : t.next ≡ at + line_length * length (walk F g v)

-- where the step of gene g sends children, it has some, and they start at nodes
pub record Sends (f : Source) (g : ℕ) (s : Step) : Type 0 where
  pub inner : (p q : ℕ) → onward s ≡ splits p q → left f.genes.now g ≢ 0
  pub nodes : (p q : ℕ) → onward s ≡ splits p q → (p ≤ 127) × (q ≤ 127)

-- the table has the starts of gene 1 and of the children of the first i genes
abbrev pub Known : Family → (i : ℕ) → List ℕ → Type 0
Known F i t = t ≡ starts F i

-- the lines of gene g
abbrev pub gene_lines : Family → ℕ → List (List ℕ)
gene_lines F g = numbered F g 0 (walk F g (at (starts F (g - 1)) g))

-- there is room for them, and they are written
abbrev pub RoomFor : Family → ℕ → (long place : ℕ) → Type 0
RoomFor F g long place = place + line_length * length (gene_lines F g) ≤ long

pub record GeneWritten (F : Family) (g : ℕ) (d : List ℕ) (place : ℕ) (e : List ℕ) (next : ℕ) : Type 0 where
  pub bytes : e ≡ put d place (lines_text (gene_lines F g))
  pub after : next ≡ place + line_length * length (gene_lines F g)
