-- What the columns hold once the genes of a tree are entered: a gene has its own entries, and those of every other number stay as they were.
-- Assumes nothing.
use Rattle.std.proofs.Common.{ℕ, zero, suc, ◌+◌, ◌≤◌, ◌<◌, ◌≡◌, ⊎_elim, List, [], ◌∷◌, ◌++◌, length, get_or, refl, sym, ap, ◌∙◌, arith, length-set, length-append, get_or-set_same, get_or-set_other}
use Rattle.std.proofs.Math.ListN.{get_or-eq_default}
use Rattle.std.proofs.Math.Path.{fun_ext}
use Rattle.finite.specs.Tests.{under}
use Rattle.finite.specs.Tables.{at, within}
use Rattle.finite.proofs.Cases.{by_bool, by_less}
use Rattle.finite.proofs.Tests.{is_under, under_is}
use Rattle.finite.proofs.Tables.{within_in, within_zero, within_out}
use Rattle.layout.specs.declared.lines.GeneColumns.{GeneColumns}
use Rattle.layout.specs.Lines.{genes_in}
use Rattle.newick.specs.Trees.{Tree, leaf, pair, GeneLine, genes, lines_from, no_line, line_at, gene_lines_of}
use Rattle.newick.specs.Answers.{line_in, Kept}
use Rattle.newick.specs.inner.Steps.{Whole, entered, entered_all}

-- a gene is entered: every other number has what it had
module _ (c : GeneColumns) (g p s : ℕ) where
  whole_entered : Whole c → Whole (entered c g p s)
  unfolding entered
  whole_entered h = by_bool (under g 128) (λ y. rw y (record { parents = length-set c.parent g p ∙ h.parents; species = length-set c.species g s ∙ h.species })) (λ y. rw y h)

  entered_other : (i : ℕ) → (i ≡ g → 127 < i) → line_in (entered c g p s) i ≡ line_in c i
  unfolding entered
  entered_other i d = by_bool (under g 128)
      (λ y. rw (y, get_or-set_other c.parent g i p 0 (λ e. omega (arith, d e, under_is g 128 y)), get_or-set_other c.species g i s 0 (λ e. omega (arith, d e, under_is g 128 y))))
      (λ y. rw y)

  entered_here : g ≤ 127 → Whole c → line_in (entered c g p s) g ≡ record { parent = p; species = s }
  unfolding entered
  entered_here l h = rw (is_under {m = g} {n = 128} (omega arith), get_or-set_same c.parent g p 0 (omega (arith, h.parents)), get_or-set_same c.species g s 0 (omega (arith, h.species)))

-- genes entered from g on: a number that is none of them has what it had, and they have their lines
others : (xs : List GeneLine) (c : GeneColumns) (g i : ℕ) → ((j : ℕ) → j < length xs → i ≡ g + j → 127 < i) → line_in (entered_all c g xs) i ≡ line_in c i
unfolding entered_all
others [] c g i d = refl
others (x ∷ xs) c g i d = others xs (entered c g x.parent x.species) (suc g) i (λ j h e. d (suc j) (omega arith) (omega arith))
    ∙ entered_other c g x.parent x.species i (λ e. d 0 (omega arith) (omega arith))

written : (xs : List GeneLine) (c : GeneColumns) (g i : ℕ) → g + i ≤ 127 → i < length xs → Whole c → line_in (entered_all c g xs) (g + i) ≡ get_or xs i no_line
unfolding entered_all
written [] c g i l h whole = absurd (omega arith)
written (x ∷ xs) c g zero l h whole =
    let z : g + 0 ≡ g = omega arith in
    rw z (others xs (entered c g x.parent x.species) (suc g) g (λ j _ e. absurd (omega arith)) ∙ entered_here c g x.parent x.species (omega arith) whole)
written (x ∷ xs) c g (suc i) l h whole =
    let z : g + suc i ≡ suc g + i = omega arith in
    rw z (written xs (entered c g x.parent x.species) (suc g) i (omega arith) (omega arith) (whole_entered c g x.parent x.species whole))

-- what is kept
pub kept_same : (m : ℕ) (b : GeneColumns) → Kept m b b
kept_same m b = record { others = λ g h. refl }

pub kept_then : {m : ℕ} {b c d : GeneColumns} → Kept m b c → Kept m c d → Kept m b d
kept_then x y = record { others = λ g h. y.others g h ∙ x.others g h }

pub kept_all : (xs : List GeneLine) (c : GeneColumns) (g : ℕ) → 1 ≤ g → Kept 127 c (entered_all c g xs)
kept_all xs c g a = record { others = λ i h. others xs c g i (λ j _ e. ⊎_elim (λ z. absurd (omega arith)) (λ z. z) h) }

-- genes entered in two parts
pub entered_two : (xs ys : List GeneLine) (c : GeneColumns) (g : ℕ) → entered_all c g (xs ++ ys) ≡ entered_all (entered_all c g xs) (g + length xs) ys
unfolding entered_all
entered_two [] ys c g = ap (λ (k : ℕ). entered_all c k ys) (omega arith)
entered_two (x ∷ xs) ys c g =
    let d = entered c g x.parent x.species in
    entered_two xs ys d (suc g) ∙ ap (λ (k : ℕ). entered_all (entered_all d (suc g) xs) k ys) (omega arith)

-- the genes of a tree
pub some_gene : (t : Tree) → 1 ≤ genes t
unfolding genes
some_gene (leaf s) = omega arith
some_gene (pair l r) = omega arith

pub length_lines : (t : Tree) (own up : ℕ) → length (lines_from own up t) ≡ genes t
unfolding lines_from genes
length_lines (leaf s) own up = refl
length_lines (pair l r) own up = rw length-append (omega (arith, length_lines l (suc own) own, length_lines r (suc own + genes l) own))

-- the gene lines of a tree, once they are entered: q is one of their fields
pub lines_held : (t : Tree) (q : GeneLine → ℕ) (f : ℕ → ℕ) → q no_line ≡ 0 → ((i : ℕ) → i < genes t → f (1 + i) ≡ q (get_or (lines_from 1 0 t) i no_line))
    → within (genes t) f ≡ (λ g. q (line_at t g))
unfolding line_at
lines_held t q f z e = fun_ext (λ v. at v)
  where
    at : (v : ℕ) → within (genes t) f v ≡ q (get_or (no_line ∷ lines_from 1 0 t) v no_line)
    at zero = within_zero (genes t) f ∙ sym z
    at (suc i) = by_less i (genes t)
        (λ h. within_in (genes t) f (suc i) (omega arith) (omega arith) ∙ ap f (omega arith) ∙ e i h)
        (λ h. within_out (genes t) f (suc i) (omega arith) ∙ sym (ap q (get_or-eq_default (lines_from 1 0 t) no_line (omega (arith, length_lines t 1 0))) ∙ z))

-- the columns once all genes of a tree are entered
module _ (t : Tree) (b c : GeneColumns) (m : ℕ) (em : genes t ≡ m) (e : c ≡ entered_all b 1 (lines_from 1 0 t)) where
  pub kept_tree : Kept m b c
  kept_tree = rw e (record { others = λ i h. others (lines_from 1 0 t) b 1 i (λ j l q. ⊎_elim (λ z. absurd (omega arith)) (λ z. absurd (omega (arith, length_lines t 1 0))) h) })

  pub genes_in_lem : m ≤ 127 → Whole b → genes_in m c ≡ gene_lines_of t
  unfolding genes_in gene_lines_of no_line
  genes_in_lem lm whole =
      let w : (i : ℕ) → i < genes t → line_in c (1 + i) ≡ get_or (lines_from 1 0 t) i no_line =
      λ i h. rw e (written (lines_from 1 0 t) b 1 i (omega arith) (omega (arith, length_lines t 1 0)) whole) in
      rw (
        ← em,
        lines_held t (λ x. x.parent) (at c.parent) refl (λ i h. ap (λ x. x.parent) (w i h)),
        lines_held t (λ x. x.species) (at c.species) refl (λ i h. ap (λ x. x.species) (w i h)),
      )
