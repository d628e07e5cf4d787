-- The promise of an accepted network and gene tree: the computed costs are least over all histories, gene 1 has a history that costs below 1,000,000, and
-- each word of the table tells its cost, for a least cost lies below the word for no history. Filled rows are the table, so they keep the promise.
-- Assumes nothing.
use Rattle.std.proofs.Common.{◌≡◌, refl, sym, ap, ◌∙◌, List, ◌++◌, ℕ, zero, suc, ◌*◌, ◌≤◌, ◌<◌, arith, length, get_or, drop}
use mathlib.Core.Option.{none, some}
use lib.ListN.{get_or-append}
use Rattle.topology.specs.Lines.{NodeLines, GeneLines}
use Rattle.reconciliation.specs.GeneTrees.{GeneTree}
use Rattle.reconciliation.specs.Costs.{Costs}
use Rattle.histories.specs.Histories.{Family, Cost, Least, LeastOverall, least, least_over, overall}
use Rattle.histories.specs.Words.{no_history, word, cost_of, cell, words}
use Rattle.histories.specs.inner.Rows.{row, Rows, Kept}
use Rattle.histories.specs.Families.{family_of}
use Rattle.histories.specs.inner.Accepted.{Accepted}
use Rattle.histories.specs.inner.Promise.{WholeNetwork}
use Rattle.histories.proofs.Words.{cost_none, cost_some, word_cost}
use Rattle.histories.proofs.Cells.{cell_in, length_words, word_at_lem, is_words}
use Rattle.histories.proofs.Least.{is_least, is_overall}
use Rattle.histories.proofs.Bound.{least_bound}
use Rattle.histories.proofs.Accepted.{Whole, whole_limits, graded}
use Rattle.histories.proofs.Small.{overall_exists}

over_same : (k : ℕ) (f g : ℕ → Cost) → ((v : ℕ) → 1 ≤ v → v ≤ k → f v ≡ g v) → least_over k f ≡ least_over k g
unfolding least_over
over_same zero f g e = refl
over_same (suc k) f g e = rw (over_same k f g (λ v l u. e v l (omega arith)), e (suc k) (omega arith) (omega arith))

-- a word below the one for no history tells its cost
word_tells : (a : Cost) → ((c : ℕ) → a ≡ some c → c < no_history) → cost_of (word a) ≡ a
unfolding word
word_tells none h = cost_none {w = no_history} refl
word_tells (some c) h = cost_some {w = c} (λ e. omega (arith, h c refl))

-- the table's word for gene g and node v, whatever follows the table
table_word : (F : Family) (g v : ℕ) → 1 ≤ g → g ≤ F.genes → 1 ≤ v → v ≤ F.nodes → (rest : List ℕ) → get_or (words F ++ rest) (cell F.nodes g v) 0 ≡ word (least F g v)
table_word F g v lg ug lv uv rest = get_or-append (words F) rest 0 (cell F.nodes g v) (omega (arith, length_words F, cell_in F.nodes F.genes g v lg ug lv uv)) ∙ word_at_lem F g v lg ug lv uv

module _ (L : NodeLines) (K : GeneLines) (G : GeneTree) (C : Costs) (ok : Accepted L K G C) where
  abbrev F : Family
  F = Whole L K G C

  exists : (c : ℕ) × (overall F ≡ some c) × (c < 1000000)
  exists = overall_exists L K G C ok

  word_is : word (overall F) ≡ exists.0
  unfolding word
  word_is = ap word exists.1

  -- the least cost over all histories that start gene 1 at any node, and it fits six columns
  pub overall_least : LeastOverall F (word (overall F))
  overall_least = is_overall F (graded L K G C ok) (word (overall F)) (exists.1 ∙ ap some (sym word_is))

  pub overall_small : word (overall F) < 1000000
  overall_small = omega (arith, word_is, exists.2)

  least_low : (g v c : ℕ) → least F g v ≡ some c → c < no_history
  least_low g v c e = omega (arith, least_bound F (graded L K G C ok) (whole_limits L K G C ok) g v c e)

  -- each word of the table is the least cost of the histories of gene g that start at node v, or tells that there is none
  pub each_word : (g v : ℕ) → 1 ≤ g → g ≤ F.genes → 1 ≤ v → v ≤ F.nodes → (rest : List ℕ) → Least F g v (cost_of (get_or (words F ++ rest) (cell F.nodes g v) 0))
  each_word g v lg ug lv uv rest = rw (table_word F g v lg ug lv uv rest, word_tells (least F g v) (least_low g v)) (is_least F (graded L K G C ok) g v)

  -- so it is read as the least costs, whatever follows it
  pub words_hold : (rest : List ℕ) → Rows F (words F ++ rest) 0
  unfolding row
  words_hold rest = record { holds = λ g v lg ug lv uv. rw (table_word F g v (omega arith) ug lv uv rest) (word_tells (least F g v) (least_low g v)) }

  -- words that were s and begin with the table now, and the least cost returned, keep the promise
  pub whole_network : (s u : List ℕ) → u ≡ words F ++ drop (F.genes * F.nodes) s → WholeNetwork F s u (word (overall F))
  whole_network s u e = record {
    table = e;
    each_least = λ g v lg ug lv uv. rw e (each_word g v lg ug lv uv (drop (F.genes * F.nodes) s));
    answer = refl;
    least_overall = overall_least;
    six_columns = overall_small;
  }

  some_gene : 1 ≤ F.genes
  unfolding family_of
  some_gene = ok.rooted.some

  -- so do filled rows, and the least of gene 1's
  pub promise : (s u : List ℕ) → F.genes * F.nodes ≤ length s → Rows F u 0 → Kept F s u → (r : ℕ) → cost_of r ≡ least_over F.nodes (row F.nodes u 1) → WholeNetwork F s u r
  unfolding overall
  promise s u long rows kept r e =
      let q : r ≡ word (overall F) = sym (word_cost r) ∙ ap word (e ∙ over_same F.nodes (row F.nodes u 1) (least F 1) (λ v lv uv. rows.holds 1 v (omega arith) some_gene lv uv)) in
      rw q (whole_network s u (is_words F s u kept rows long))
