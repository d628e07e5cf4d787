-- The lines of a listing cost what the genes' steps cost, summed gene by gene, and are as many. So the lines of the chosen history are those to write,
-- and no other lines are.
-- Assumes nothing.
use Rattle.std.proofs.Common.{◌≡◌, refl, sym, ap, ◌∙◌, List, [], ◌∷◌, ◌++◌, ℕ, zero, suc, ◌+◌, ◌-◌, ◌≤◌, add_assoc, arith, get_or, length, length-append}
use mathlib.Core.Option.{some}
use Rattle.finite.specs.Range.{sum}
use Rattle.histories.specs.Histories.{Family, overall}
use Rattle.histories.specs.inner.Grades.{Graded}
use Rattle.reconciliation.specs.Limits.{Limits}
use Rattle.tellings.specs.inner.Lineages.{Levels}
use Rattle.tellings.specs.inner.Lineages.{Lineage}
use Rattle.histories.specs.Words.{word}
use Rattle.tellings.specs.Steps.{Line, line, steps, numbered, listing}
use Rattle.tellings.specs.Chosen.{chosen_start, chosen_steps, history_lines}
use Rattle.tellings.specs.Shown.{line_costs, LinesFit, HistoryShown}
use Rattle.tellings.specs.inner.Walks.{starts}
use Rattle.finite.specs.Tables.{at}
use Rattle.tellings.proofs.Rising.{rising, up_less, first_start, sent}
use Rattle.tellings.proofs.Turns.{way, ready, fits_columns}
use Rattle.tellings.proofs.First.{shown, only}
use Rattle.tellings.proofs.Told.{steps_cost, adds_up, few_lines}

costs_append : (l k : List (List ℕ)) → line_costs (l ++ k) ≡ line_costs l + line_costs k
unfolding line_costs
costs_append [] k = omega arith
costs_append (r ∷ l) k = rw (costs_append l k) (sym (add_assoc (get_or r 4 0) (line_costs l) (line_costs k)))

module _ (F : Family) where
  numbered_costs : (g k : ℕ) (l : List Line) → line_costs (numbered F g k l) ≡ steps_cost F l
  unfolding numbered line_costs steps_cost
  numbered_costs g k [] = refl
  numbered_costs g k (line v s ∷ l) = rw (numbered_costs g (suc k) l)

  pub numbered_length : (g k : ℕ) (l : List Line) → length (numbered F g k l) ≡ length l
  unfolding numbered
  numbered_length g k [] = refl
  numbered_length g k (line v s ∷ l) = ap suc (numbered_length g (suc k) l)

  listing_costs : (f : ℕ → List Line) (m : ℕ) → line_costs (listing F f m) ≡ sum m (λ x. steps_cost F (f x))
  unfolding listing sum line_costs
  listing_costs f zero = refl
  listing_costs f (suc m) = costs_append (listing F f m) (numbered F (suc m) 0 (f (suc m))) ∙ rw (listing_costs f m, numbered_costs (suc m) 0 (f (suc m)))

  pub listing_length : (f : ℕ → List Line) (m : ℕ) → length (listing F f m) ≡ sum m (λ x. length (f x))
  unfolding listing sum
  listing_length f zero = refl
  listing_length f (suc m) = length-append (listing F f m) (numbered F (suc m) 0 (f (suc m))) ∙ rw (listing_length f m, numbered_length (suc m) 0 (f (suc m)))

  pub listing_same : (f k : ℕ → List Line) (m : ℕ) → ((x : ℕ) → 1 ≤ x → x ≤ m → f x ≡ k x) → listing F f m ≡ listing F k m
  unfolding listing
  listing_same f k zero e = refl
  listing_same f k (suc m) e = rw (listing_same f k m (λ x l u. e x l (omega arith)), e (suc m) (omega arith) (omega arith))

  columns_append : (l k : List (List ℕ)) → LinesFit l → LinesFit k → LinesFit (l ++ k)
  unfolding LinesFit
  columns_append [] k a b = b
  columns_append (r ∷ l) k a b = (a.0, columns_append l k a.1 b)

  listing_columns : (f : ℕ → List Line) (m : ℕ) → ((x : ℕ) → 1 ≤ x → x ≤ m → LinesFit (numbered F x 0 (f x))) → LinesFit (listing F f m)
  unfolding listing LinesFit
  listing_columns f zero e = tt
  listing_columns f (suc m) e = columns_append (listing F f m) (numbered F (suc m) 0 (f (suc m))) (listing_columns f m (λ x l u. e x l (omega arith))) (e (suc m) (omega arith) (omega arith))

  -- the lines of the chosen history keep the promise
  pub shown_lines : Graded F → Limits F.nodes F.genes F.costs → Levels F → Lineage F → (c : ℕ) → overall F ≡ some c → HistoryShown F (history_lines F)
  unfolding history_lines word
  shown_lines ok limits levels tree c whole =
      let r = shown F ok c whole in
      let e : history_lines F ≡ listing F (steps F r.0) F.genes = listing_same (chosen_steps F) (steps F r.0) F.genes (λ x _ _. sym (r.2 x)) in
      record {
        start = chosen_start F;
        history = r.0;
        tells = e;
        first_cheapest = r.3;
        lower_first = tree.lower_first;
        start_of = λ x. at (starts F (x - 1)) x;
        root_start = first_start F ok tree limits.few_genes;
        ways = λ x lx ux.
            let w = way F ok levels x (at (starts F (x - 1)) x) (ready F ok levels tree limits.few_genes c whole (x - 1) x (omega arith) lx ux (omega (arith, up_less F ok tree limits.few_genes x lx))) in
            (w.0, w.1, rw (r.2 x, rising F ok tree limits.few_genes c whole x lx ux) w.2, λ a b k. sent F ok tree limits.few_genes x a b w.0 w.1 lx k (w.3 a b k));
        adds_up = rw whole (ap line_costs e ∙ listing_costs (steps F r.0) F.genes ∙ adds_up F ok (omega arith) limits.some_gene r.0 ∙ r.1);
        six_columns = listing_columns (chosen_steps F) F.genes (λ x lx ux. rw (rising F ok tree limits.few_genes c whole x lx ux)
            (fits_columns F ok levels x (at (starts F (x - 1)) x) limits (omega (arith, limits.few_genes)) (ready F ok levels tree limits.few_genes c whole (x - 1) x (omega arith) lx ux (omega (arith, up_less F ok tree limits.few_genes x lx)))));
        few = rw (e, listing_length (steps F r.0) F.genes) (few_lines F ok tree levels limits r.3.start_low r.3.start_high r.0);
      }

  -- there is one list of lines to write
  pub shown_once : (l k : List (List ℕ)) → HistoryShown F l → HistoryShown F k → l ≡ k
  shown_once l k p q =
      let e = only F p.start q.start p.history q.history p.first_cheapest q.first_cheapest in
      p.tells ∙ listing_same (steps F p.history) (steps F q.history) F.genes (λ x _ _. e.1 x) ∙ sym q.tells
