-- A word and the cost that it stands for: the word for no history is told apart, every other word is its cost.
-- Assumes nothing.
use Rattle.std.proofs.Common.{◌≡◌, sym, ◌≢◌, ℕ}
use mathlib.Core.Option.{none, some}
use Rattle.finite.proofs.Tests.{is_same, not_same}
use Rattle.finite.proofs.Cases.{by_eq}
use Rattle.histories.specs.Words.{no_history, word, cost_of}

pub cost_none : {w : ℕ} → w ≡ no_history → cost_of w ≡ none
unfolding cost_of
cost_none e = rw (is_same e)

pub cost_some : {w : ℕ} → w ≢ no_history → cost_of w ≡ some w
unfolding cost_of
cost_some d = rw (not_same d)

pub word_cost : (w : ℕ) → word (cost_of w) ≡ w
unfolding word
word_cost w = by_eq w no_history (λ e. rw (cost_none e) (sym e)) (λ d. rw (cost_some d))
