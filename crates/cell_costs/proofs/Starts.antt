-- The least word of the first words of a list stands for the least of their costs, for the word for no history is the highest.
-- Assumes nothing.
use Rattle.std.proofs.Common.{◌≡◌, ℕ, zero, suc, ◌≤◌, min, List, [], ◌∷◌, ◌++◌, length, get_or, take, refl, sym, ap, ◌∙◌, arith}
use Rattle.std.proofs.Math.Seq.{take-suc}
use Rattle.std.specs.List.{reduce}
use Rattle.std.specs.Option.{unwrap_or}
use Rattle.std.proofs.lemmas.List.Sums.{fold-append}
use Rattle.histories.specs.Histories.{least_over}
use Rattle.histories.specs.Words.{no_history, cost_of, cell}
use Rattle.histories.specs.inner.Rows.{row}
use Rattle.histories.proofs.Words.{cost_none}
use Rattle.cell_costs.proofs.Sums.{lesser_of, sum_word}

-- the least of some words, the highest word where there are none
abbrev least_word : List ℕ → ℕ
least_word xs = unwrap_or (reduce min xs) no_history

-- one word more
one_more : (xs : List ℕ) (y : ℕ) → y ≤ no_history → least_word (xs ++ (y ∷ [])) ≡ min (least_word xs) y
one_more [] y l = omega arith
one_more (x ∷ xs) y l = fold-append min x xs (y ∷ [])

words_fit : (s : List ℕ) (k : ℕ) → k ≤ length s → ((i : ℕ) → get_or s i 0 ≤ no_history) → least_word (take k s) ≤ no_history
words_fit s zero l f = omega arith
words_fit s (suc k) l f = rw (take-suc s k 0 l) (omega (arith, one_more (take k s) (get_or s k 0) (f k), f k))

pub least_words : (n : ℕ) (s : List ℕ) (k : ℕ) → k ≤ length s → ((i : ℕ) → get_or s i 0 ≤ no_history) → cost_of (least_word (take k s)) ≡ least_over k (row n s 1)
unfolding least_over row cell
least_words n s zero l f = cost_none refl
least_words n s (suc k) l f = sym (sum_word _ (words_fit s (suc k) l f)) ∙ rw (take-suc s k 0 l) (
    lesser_of _ _ _ (one_more (take k s) (get_or s k 0) (f k))
    (sum_word _ (words_fit s k (omega arith) f) ∙ least_words n s k (omega arith) f)
    (sum_word _ (f k) ∙ ap (λ x. cost_of (get_or s x 0)) (omega arith)))
