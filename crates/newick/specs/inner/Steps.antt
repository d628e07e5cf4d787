-- What the parts of the reader promise each other: what is found at a place, and what is written for it.
-- Assumes nothing.
use Rattle.std.specs.Prelude.{ℕ, suc, ◌+◌, ◌-◌, ◌≡◌, cond, List, [], ◌∷◌, length, set, Option, Some, None}
use Rattle.finite.specs.Tests.{same, under}
use Rattle.layout.specs.declared.lines.GeneColumns.{GeneColumns}
use Rattle.newick.specs.Trees.{GeneLine, genes, lines_from}
use Rattle.newick.specs.Reading.{byte_at, digit_from, Found}
use Rattle.newick.specs.Answers.{Kept}
use Rattle.newick.specs.declared.Place.{Place}

-- what the digit at a place counts for
unfoldable pub digit_at : List ℕ → (at : ℕ) → Option ℕ
digit_at text at = cond (digit_from 48 (byte_at text at)) (Some (byte_at text at - 48)) None

-- a place, and the genes met before it
abbrev pub place : (at genes : ℕ) → Place
place at genes = record { at = at; genes = genes }

-- the place behind a byte, where that is the next one
unfoldable pub passed : List ℕ → (byte : ℕ) → Place → Option Place
passed text byte p = cond (same (byte_at text p.at) byte) (Some (place (suc p.at) p.genes)) None

-- columns as long as those of a sheet, which is known where they are written
pub record Whole (c : GeneColumns) : Type 0 where
  pub parents : length c.parent ≡ 128
  pub species : length c.species ≡ 128

-- the columns c of the genes with the parent p and the species s of gene g, where they have room for it
unfoldable pub entered : GeneColumns → (g p s : ℕ) → GeneColumns
entered c g p s = cond (under g 128) (record { parent = set c.parent g p; species = set c.species g s }) c

-- the same of the genes from g on
unfoldable pub entered_all : GeneColumns → (g : ℕ) → List GeneLine → GeneColumns
entered_all c g [] = c
entered_all c g (x ∷ xs) = entered_all (entered c g x.parent x.species) (suc g) xs

-- what a reader does that has met so many genes and gives what it finds the parent up: r is the place behind that, b are the columns before, c after
unfoldable pub Outcome : Option Found → (met up : ℕ) → GeneColumns → Option Place → GeneColumns → Type 0
Outcome None met up b r c = (r ≡ None) × Kept 127 b c
Outcome (Some f) met up b r c = (r ≡ Some (place f.next (met + genes f.tree))) × (c ≡ entered_all b (suc met) (lines_from (suc met) up f.tree)) × Whole b
