-- Where gene 1 starts: at the first word of its row that is the least of them, which is the word of the least cost over all histories.
-- Assumes nothing.
use Rattle.std.proofs.Common.{◌≡◌, sym, ap, ◌∙◌, ◌≢◌, List, ℕ, ◌+◌, ◌-◌, ◌*◌, ◌≤◌, arith, length, get_or}
use mathlib.Core.Option.{some}
use Rattle.finite.specs.Tests.{same}
use Rattle.finite.specs.Range.{first}
use Rattle.finite.proofs.Cases.{by_eq}
use Rattle.finite.proofs.Tests.{not_same}
use Rattle.finite.proofs.Every.{first_same}
use Rattle.layout.specs.Lines.{nodes_in}
use Rattle.layout.specs.inner.Genes.{gene_tree}
use Rattle.histories.specs.Histories.{Family, least, least_over, overall}
use Rattle.histories.specs.Families.{family_of}
use Rattle.histories.specs.Words.{no_history, word, cost_of, cell}
use Rattle.histories.specs.inner.Rows.{row}
use Rattle.histories.proofs.Words.{cost_none, cost_some}
use Rattle.histories.proofs.Filling.{kept_none}
use Rattle.tellings.specs.Chosen.{same_cost, chosen_start}
use Rattle.tellings.proofs.First.{start_is}
use Rattle.whole_network.specs.declared.source.Source.{Source}
use Rattle.whole_network.specs.inner.Stages.{header, family}
use Rattle.whole_network.proofs.Ready.{ready, row_within, kept_promise}
use Rattle.history_steps.specs.inner.Tables.{Tabled}
use Rattle.history_lines.proofs.Genes.{whole}
use Rattle.history_lines.proofs.Walks.{nodes_few}

-- a word's test is its cost's
same_word : (x c : ℕ) → c ≢ no_history → same x c ≡ same_cost (cost_of x) (some c)
unfolding same_cost
same_word x c d = by_eq x no_history (λ e. rw (cost_none e) (not_same (λ q. d (sym q ∙ e)))) (λ n. rw (cost_some n))

module _ (f : Source) (s : List ℕ) (T : Tabled f s) where
  abbrev F : Family
  F = family f

  abbrev n : ℕ
  n = (header f).nodes

  pub row_long : n ≤ length s
  row_long = row_within f.lines.now f.genes.now f.accepted T.room (kept_none F s)

  module _ (w : ℕ) (least_word : cost_of w ≡ least_over n (row n s 1)) where
    whole_word : w ≡ word (overall F)
    unfolding family_of nodes_in gene_tree
    whole_word = (kept_promise f.lines.now f.genes.now f.accepted T.room T.rows (kept_none F s) least_word).answer

    is_least : w ≡ (whole f s T).0
    unfolding word
    is_least = whole_word ∙ ap word (whole f s T).1

    some_gene : 1 ≤ F.genes
    unfolding family_of gene_tree
    some_gene = f.accepted.rooted.some

    first_row : (v : ℕ) → cost_of (get_or s (v - 1) 0) ≡ row n s 1 v
    unfolding row cell
    first_row v = let e : v - 1 ≡ (1 - 1) * n + (v - 1) = omega arith in ap (λ (i : ℕ). cost_of (get_or s i 0)) e

    first_costs : (v : ℕ) → 1 ≤ v → v ≤ n → same (get_or s (v - 1) 0) w ≡ same_cost (least F 1 v) (overall F)
    unfolding family_of nodes_in
    first_costs v l u =
        let c = whole f s T in
        let e : row n s 1 v ≡ least F 1 v = T.rows.holds 1 v (omega arith) some_gene l u in
        same_word (get_or s (v - 1) 0) w (λ q. omega (arith, is_least, c.2)) ∙ rw (first_row v, e, c.1, is_least)

    pub start_found : (r : ℕ) → r ≡ first n (λ v. same (get_or s (v - 1) 0) w) → r ≡ chosen_start F
    unfolding chosen_start family_of nodes_in
    start_found r e = e ∙ first_same n _ _ first_costs

  pub start_low : chosen_start F ≤ 127
  start_low = let c = whole f s T in omega (arith, start_is F (ready f).graded c.0 c.1, nodes_few f)
