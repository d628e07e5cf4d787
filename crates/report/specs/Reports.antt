-- The report (01, "The report"): which lines it has. The numbers of a line come as functions of the node or the gene, so that the same definition
-- serves tables (specs/Tables) and the model.
-- Assumes nothing.
use Rattle.std.specs.Prelude.{ℕ, zero, suc, ◌+◌, ◌*◌, ◌<◌, Bool, true, cond, ◌≡◌, List, [], ◌∷◌, ◌++◌}
use Rattle.finite.specs.Tests.{tally}
use Rattle.finite.specs.Range.{count}
use Rattle.columns.specs.Writing.{put}
use Rattle.text_lines.specs.Lines.{line_length, line_of}
use Rattle.report.specs.declared.Totals.{Totals}

-- the numbers of a line: five, as `field_count` of columns says
abbrev pub five_of : ℕ → ℕ → ℕ → ℕ → ℕ → List ℕ
five_of a b c d e = a ∷ b ∷ c ∷ d ∷ e ∷ []

-- each of five numbers has a field
pub record SmallFive (a b c d e : ℕ) : Type 0 where
  pub one : a < 1000000
  pub two : b < 1000000
  pub three : c < 1000000
  pub four : d < 1000000
  pub five : e < 1000000

-- each number of the first two lines has a field
pub record SmallTotals (t : Totals) : Type 0 where
  pub cost : t.cost < 1000000
  pub duplications : t.duplications < 1000000
  pub transfers : t.transfers < 1000000
  pub losses : t.losses < 1000000
  pub trials : t.trials < 1000000
  pub whole : t.whole < 1000000
  pub nodes : t.nodes < 1000000
  pub genes : t.genes < 1000000
  pub reticulations : t.reticulations < 1000000
  pub components : t.components < 1000000

-- "First: cost, duplications, transfers, losses, trials. Second: whole-network cost, n, m, reticulations, components that have any"
unfoldable pub totals_lines : Totals → List ℕ
totals_lines t = line_of (five_of t.cost t.duplications t.transfers t.losses t.trials)
    ++ line_of (five_of t.whole t.nodes t.genes t.reticulations t.components)

-- a line for each of 1..k that passes the test, rising
unfoldable pub lines_where : (ℕ → Bool) → (ℕ → List ℕ) → ℕ → List ℕ
lines_where test fields zero = []
lines_where test fields (suc k) = lines_where test fields k ++ cond (test (suc k)) (line_of (fields (suc k))) []

abbrev pub always : ℕ → Bool
always g = true

-- "for each reticulation, rising: node, parent taken, 1 if secondary else 0, top of its component, reticulations there"
abbrev pub reticulation_fields : (taken second top held : ℕ → ℕ) → ℕ → List ℕ
reticulation_fields taken second top held v = five_of v (taken v) (second v) (top v) (held (top v))

-- "for each gene: gene, place, event, transfers and losses on the way from its parent gene"
abbrev pub gene_fields : (place event transfers losses : ℕ → ℕ) → ℕ → List ℕ
gene_fields place event transfers losses g = five_of g (place g) (event g) (transfers g) (losses g)

-- the whole report
unfoldable pub report_of : Totals → (n m : ℕ) → (ℕ → Bool) → (taken second top held place event transfers losses : ℕ → ℕ) → List ℕ
report_of t n m reticulation taken second top held place event transfers losses = totals_lines t
    ++ lines_where reticulation (reticulation_fields taken second top held) n
    ++ lines_where always (gene_fields place event transfers losses) m

-- its bytes
unfoldable pub report_length : (n m : ℕ) → (ℕ → Bool) → ℕ
report_length n m reticulation = line_length * (2 + count n reticulation + m)

-- d has become e by a line at the place `start`, if the test holds, and r is the place after it
pub record Appended (d e : List ℕ) (start r : ℕ) (test : Bool) (fields : List ℕ) : Type 0 where
  pub bytes : e ≡ put d start (cond test (line_of fields) [])
  pub after : r ≡ start + line_length * tally test

-- d has become e by a line for each of 1..k that passes the test, from the place `start` on, and r is the place after them
pub record Extended (d e : List ℕ) (start r : ℕ) (test : ℕ → Bool) (fields : ℕ → List ℕ) (k : ℕ) : Type 0 where
  pub bytes : e ≡ put d start (lines_where test fields k)
  pub after : r ≡ start + line_length * count k test
