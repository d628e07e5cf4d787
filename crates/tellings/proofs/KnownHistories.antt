-- The history chosen for sheet K of 01, and for case 4 at its own costs and at no costs, computed by the checker:
-- the lines are those that an enumeration of all histories gives.
-- Assumes nothing.
use Rattle.std.proofs.Common.{◌≡◌, refl, List, [], ◌∷◌, ℕ}
use Rattle.finite.specs.Tests.{same, under}
use Rattle.finite.specs.Tables.{at, within}
use Rattle.topology.specs.Lines.{NodeLines, GeneLines}
use Rattle.gene_tree.specs.Genes.{left_of, right_of, gene_tree_of}
use Rattle.histories.specs.Histories.{open_Histories}
use Rattle.histories.specs.Families.{family_of, open_Families}
use Rattle.tellings.specs.Steps.{open_Steps}
use Rattle.tellings.specs.Chosen.{history_lines, open_Chosen}

-- K's network lines
abbrev nodes : NodeLines
nodes = record {
  size = 7;
  principal = at (0 ∷ 0 ∷ 1 ∷ 2 ∷ 1 ∷ 2 ∷ 3 ∷ 4 ∷ []);
  secondary = at (0 ∷ 0 ∷ 0 ∷ 4 ∷ 0 ∷ 0 ∷ 0 ∷ 0 ∷ []);
  stamp = at (0 ∷ 0 ∷ 1 ∷ 2 ∷ 2 ∷ 9 ∷ 9 ∷ 9 ∷ []);
  species = at (0 ∷ 0 ∷ 0 ∷ 0 ∷ 0 ∷ 1 ∷ 2 ∷ 3 ∷ []);
}

-- the lines of five genes with these parents and species, at these costs
abbrev lines : (parent species : List ℕ) → (D T L : ℕ) → List (List ℕ)
lines parent species D T L =
    let genes : GeneLines = record { count = 5; parent = at parent; species = at species } in
    history_lines (family_of nodes genes (gene_tree_of nodes genes) (record { duplication = D; transfer = T; loss = L }))

-- K: gene 3's transfer sends gene 4 along the secondary arc, and gene 5 stays, to pass on free
k : lines (0 ∷ 0 ∷ 1 ∷ 1 ∷ 3 ∷ 3 ∷ []) (0 ∷ 0 ∷ 1 ∷ 0 ∷ 2 ∷ 3 ∷ []) 2 3 1 ≡ (
    (1 ∷ 1 ∷ 1 ∷ 1 ∷ 0 ∷ [])
    ∷ (2 ∷ 1 ∷ 2 ∷ 4 ∷ 1 ∷ [])
    ∷ (2 ∷ 2 ∷ 5 ∷ 0 ∷ 0 ∷ [])
    ∷ (3 ∷ 1 ∷ 4 ∷ 3 ∷ 3 ∷ [])
    ∷ (4 ∷ 1 ∷ 3 ∷ 6 ∷ 0 ∷ [])
    ∷ (4 ∷ 2 ∷ 6 ∷ 0 ∷ 0 ∷ [])
    ∷ (5 ∷ 1 ∷ 4 ∷ 6 ∷ 0 ∷ [])
    ∷ (5 ∷ 2 ∷ 7 ∷ 0 ∷ 0 ∷ [])
    ∷ []
    )
unfolding open_Histories open_Families open_Steps open_Chosen same under within left_of right_of gene_tree_of
k = refl

-- case 4: gene 3, the lower-numbered child, stays, and gene 4 is sent
pair_first : lines (0 ∷ 0 ∷ 1 ∷ 2 ∷ 2 ∷ 1 ∷ []) (0 ∷ 0 ∷ 0 ∷ 3 ∷ 2 ∷ 2 ∷ []) 2 3 1 ≡ (
    (1 ∷ 1 ∷ 1 ∷ 1 ∷ 0 ∷ [])
    ∷ (2 ∷ 1 ∷ 4 ∷ 3 ∷ 3 ∷ [])
    ∷ (3 ∷ 1 ∷ 4 ∷ 6 ∷ 0 ∷ [])
    ∷ (3 ∷ 2 ∷ 7 ∷ 0 ∷ 0 ∷ [])
    ∷ (4 ∷ 1 ∷ 3 ∷ 6 ∷ 0 ∷ [])
    ∷ (4 ∷ 2 ∷ 6 ∷ 0 ∷ 0 ∷ [])
    ∷ (5 ∷ 1 ∷ 2 ∷ 4 ∷ 1 ∷ [])
    ∷ (5 ∷ 2 ∷ 3 ∷ 6 ∷ 0 ∷ [])
    ∷ (5 ∷ 3 ∷ 6 ∷ 0 ∷ 0 ∷ [])
    ∷ []
    )
unfolding open_Histories open_Families open_Steps open_Chosen same under within left_of right_of gene_tree_of
pair_first = refl

-- where no event costs, a duplication (2) goes before a transfer (3)
free : lines (0 ∷ 0 ∷ 1 ∷ 2 ∷ 2 ∷ 1 ∷ []) (0 ∷ 0 ∷ 0 ∷ 3 ∷ 2 ∷ 2 ∷ []) 0 0 0 ≡ (
    (1 ∷ 1 ∷ 1 ∷ 1 ∷ 0 ∷ [])
    ∷ (2 ∷ 1 ∷ 4 ∷ 2 ∷ 0 ∷ [])
    ∷ (3 ∷ 1 ∷ 4 ∷ 6 ∷ 0 ∷ [])
    ∷ (3 ∷ 2 ∷ 7 ∷ 0 ∷ 0 ∷ [])
    ∷ (4 ∷ 1 ∷ 4 ∷ 5 ∷ 0 ∷ [])
    ∷ (4 ∷ 2 ∷ 3 ∷ 6 ∷ 0 ∷ [])
    ∷ (4 ∷ 3 ∷ 6 ∷ 0 ∷ 0 ∷ [])
    ∷ (5 ∷ 1 ∷ 2 ∷ 4 ∷ 0 ∷ [])
    ∷ (5 ∷ 2 ∷ 3 ∷ 6 ∷ 0 ∷ [])
    ∷ (5 ∷ 3 ∷ 6 ∷ 0 ∷ 0 ∷ [])
    ∷ []
    )
unfolding open_Histories open_Families open_Steps open_Chosen same under within left_of right_of gene_tree_of
free = refl
