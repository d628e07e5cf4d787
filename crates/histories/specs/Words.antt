-- Least costs as the words of the scratch (01: "scratch word (g − 1) × n + (v − 1) holds the least cost for gene g starting at node v, or
-- 4,294,967,295 if no history exists").
-- Assumes nothing.
use Rattle.std.specs.Prelude.{cond, List, [], ◌∷◌, ℕ, zero, suc, ◌+◌, ◌-◌, ◌*◌, ◌/◌, ◌%◌}
use Rattle.std.proofs.Math.Option.{none, some}
use Rattle.finite.specs.Tests.{same}
use Rattle.histories.specs.Histories.{Family, Cost, least}

-- the word that stands for no history
abbrev pub no_history : ℕ
no_history = 4294967295

unfoldable pub word : Cost → ℕ
word none = no_history
word (some c) = c

-- the cost that a word stands for
unfoldable pub cost_of : ℕ → Cost
cost_of w = cond (same w no_history) none (some w)

-- the place of gene g and node v in the table
unfoldable pub cell : (n : ℕ) → ℕ → ℕ → ℕ
cell n g v = (g - 1) * n + (v - 1)

-- f a, f (a + 1), .., k of them
unfoldable pub listed : (ℕ → ℕ) → ℕ → ℕ → List ℕ
listed f a zero = []
listed f a (suc k) = f a ∷ listed f (suc a) k

-- the word at place i: it is about gene i / n + 1 and node i % n + 1
unfoldable pub word_at : Family → ℕ → ℕ
word_at F i = word (least F (suc (i / F.nodes)) (suc (i % F.nodes)))

-- the whole table, genes rising, for each gene the nodes rising
unfoldable pub words : Family → List ℕ
words F = listed (word_at F) 0 (F.genes * F.nodes)

-- whoever unfolds this unfolds all of this file
unfoldable pub open_Words : Unit {0}
unfolding word cost_of cell listed word_at words
open_Words = tt
