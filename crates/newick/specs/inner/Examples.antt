-- Texts and their answers, by computation: the smallest and the largest, and texts that a reader could take by mistake.
-- Assumes nothing.
use Rattle.std.specs.Prelude.{ℕ, zero, suc, ◌≡◌, refl, List, [], ◌∷◌, take, replicate, Result, Ok, Err}
use Prim.Native.String.{String, [] as nil, ◌∷◌ as ◌◂◌}
use Prim.Native.Char.{code}
use Rattle.finite.specs.Tests.{same, under}
use Rattle.columns.specs.Fields.{numeral_in, numeral}
use Rattle.newick.specs.Trees.{Tree, leaf, pair, GeneLine, spelled, text_of, genes, lines_from}
use Rattle.newick.specs.Reading.{digit_from, more_at, leaf_at, leaf_of, closed, paired, tree_in, tree_at, answer_to, answer_of}
use Rattle.refusals.specs.declared.Refusal.{Refusal}
use Rattle.refusals.specs.declared.Refusal.TheVariants.{OutsideGrammar, LargeGeneTree}

-- the bytes of a text
abbrev bytes : String → List ℕ
bytes nil = []
bytes (c ◂ s) = code c ∷ bytes s

-- the answers to texts
answers_to : List (List ℕ) → List (Result ℕ Refusal)
answers_to [] = []
answers_to (x ∷ xs) = answer_of x ∷ answers_to xs

-- leaves of six digits, all equally deep: `full 6` has 127 genes in 574 bytes
full : ℕ → Tree
full zero = leaf 999999
full (suc k) = pair (full k) (full k)

-- each pair is the first member of the next: `comb 64` has 129 genes
comb : ℕ → Tree
comb zero = leaf 1
comb (suc k) = pair (comb k) (leaf 2)

unfoldable open_Newick : Unit {0}
unfolding spelled text_of genes lines_from numeral numeral_in same under digit_from more_at leaf_at leaf_of closed paired tree_in tree_at answer_to answer_of answers_to full comb
open_Newick = tt

text : text_of (pair (pair (leaf 3) (leaf 20)) (leaf 2)) ≡ bytes "((3,20),2);"
unfolding open_Newick
text = refl

abbrev line : (parent species : ℕ) → GeneLine
line p s = record { parent = p; species = s }

lines : lines_from 1 0 (pair (pair (leaf 3) (leaf 20)) (leaf 2)) ≡ line 0 0 ∷ line 1 0 ∷ line 2 3 ∷ line 2 20 ∷ line 1 2 ∷ []
unfolding open_Newick
lines = refl

taken : answers_to (bytes "1;" ∷ bytes "999999;" ∷ bytes "((3,20),2);" ∷ text_of (full 6) ∷ []) ≡ Ok 1 ∷ Ok 1 ∷ Ok 5 ∷ Ok 127 ∷ []
unfolding open_Newick
taken = refl

outside :
    answers_to (bytes "" ∷ bytes "1" ∷ bytes "0;" ∷ bytes "01;" ∷ bytes "1000000;" ∷ bytes "1; " ∷ bytes "(1);" ∷ bytes "(1,2,3);" ∷ bytes "(1, 2);" ∷ bytes "(1:2,3);" ∷ [])
    ≡ replicate 10 (Err OutsideGrammar)
unfolding open_Newick
outside = refl

-- 129 genes; the same text broken off after its 128th
many : answers_to (text_of (comb 64) ∷ take 254 (text_of (comb 64)) ∷ []) ≡ Err LargeGeneTree ∷ Err OutsideGrammar ∷ []
unfolding open_Newick
many = refl
