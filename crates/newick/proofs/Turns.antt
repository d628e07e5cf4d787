-- The returns of the tree reader and the pair reader, over plain values: what a member read and entered is put together to what the pair asks.
-- Assumes nothing.
use Rattle.std.proofs.Common.{ℕ, suc, ◌+◌, ◌≤◌, ◌≡◌, true, false, List, [], ◌∷◌, Option, Some, None, refl, sym, ap, ◌∙◌, add-one, arith}
use Rattle.finite.specs.Tests.{same}
use Rattle.finite.proofs.Cases.{by_bool}
use Rattle.layout.specs.declared.lines.GeneColumns.{GeneColumns}
use Rattle.newick.specs.Trees.{Tree, pair, genes, lines_from}
use Rattle.newick.specs.Reading.{byte_at, leaf_at, Found, found, leaf_of, closed, paired, tree_at, pair_at}
use Rattle.newick.specs.Answers.{Kept}
use Rattle.newick.specs.inner.Steps.{place, passed, Whole, entered, entered_all, Outcome}
use Rattle.newick.specs.declared.Numeral.{Numeral}
use Rattle.newick.specs.declared.Place.{Place}
use Rattle.newick.proofs.Places.{inside}
use Rattle.newick.proofs.Trees.{tree_eq, room}
use Rattle.newick.proofs.Writing.{kept_same, kept_then, kept_all, entered_two, some_gene, length_lines}

-- what an outcome says of an answer that is known
pub record Told (f : Option Found) (met up : ℕ) (b : GeneColumns) (p : Place) (c : GeneColumns) : Type 0 where
  pub tree : Tree
  pub found_is : f ≡ Some (found tree p.at)
  pub all_is : p.genes ≡ met + genes tree
  pub lines_are : c ≡ entered_all b (suc met) (lines_from (suc met) up tree)
  pub whole : Whole b

module _ (met up : ℕ) (b c : GeneColumns) where
  pub told : (f : Option Found) (p : Place) → Outcome f met up b (Some p) c → Told f met up b p c
  unfolding Outcome
  told None p o = let q = o.0 in cc
  told (Some f) p o =
      let q : p ≡ place f.next (met + genes f.tree) = let z = o.0 in cc in
      rw q (record { tree = f.tree; found_is = refl; all_is = refl; lines_are = o.1; whole = o.2 })

  pub told_none : (f : Option Found) → Outcome f met up b None c → f ≡ None
  unfolding Outcome
  told_none None o = refl
  told_none (Some f) o = let q = o.0 in cc

  pub told_kept : (f : Option Found) (r : Option Place) → Outcome f met up b r c → Kept 127 b c
  unfolding Outcome
  told_kept None r o = o.1
  told_kept (Some f) r o = rw o.1 (kept_all (lines_from (suc met) up f.tree) b (suc met) (omega arith))

-- a byte that was passed, and one that was not
pub record Next (text : List ℕ) (byte : ℕ) (p q : Place) : Type 0 where
  pub test : same (byte_at text p.at) byte ≡ true
  pub at_is : q.at ≡ suc p.at
  pub genes_is : q.genes ≡ p.genes

pub did_pass : (text : List ℕ) (byte : ℕ) (p q : Place) → Some q ≡ passed text byte p → Next text byte p q
unfolding passed
did_pass text byte p q e = by_bool (same (byte_at text p.at) byte)
    (λ y. let q' : q ≡ place (suc p.at) p.genes = let z = rw y at e in cc in rw q' (record { test = y; at_is = refl; genes_is = refl }))
    (λ y. let z = rw y at e in cc)

pub not_passed : (text : List ℕ) (byte : ℕ) (p : Place) → None ≡ passed text byte p → same (byte_at text p.at) byte ≡ false
unfolding passed
not_passed text byte p e = by_bool (same (byte_at text p.at) byte) (λ y. let z = rw y at e in cc) (λ y. y)

-- where a tree that was read ends
pub record Ended (text : List ℕ) (at met : ℕ) (p : Place) : Type 0 where
  pub more : met + 1 ≤ p.genes
  pub apart : at + p.genes ≤ p.at + met

pub ended : (text : List ℕ) (at met up : ℕ) (b : GeneColumns) (p : Place) (c : GeneColumns) → Outcome (tree_at text at) met up b (Some p) c → Ended text at met p
ended text at met up b p c o =
    let q = told met up b c (tree_at text at) p o in
    let g = room text at (found q.tree p.at) q.found_is in
    record { more = omega (arith, q.all_is, some_gene q.tree); apart = omega (arith, q.all_is, g.0) }

-- the tree reader
module _ (text : List ℕ) (from : Place) (up : ℕ) (b : GeneColumns) (r : Option Place) where
  pub tree_pair : (inside : Place) (c : GeneColumns) → Some inside ≡ passed text 40 from → Outcome (pair_at text inside.at) inside.genes up b r c
      → Outcome (tree_at text from.at) from.genes up b r c
  tree_pair inside c e o = let g = did_pass text 40 from inside e in rw (tree_eq text from.at, g.test) (rw (g.at_is, g.genes_is) at o)

  pub tree_none : None ≡ passed text 40 from → None ≡ leaf_at text from.at → r ≡ None → Outcome (tree_at text from.at) from.genes up b r b
  unfolding leaf_of Outcome
  tree_none e q z = rw (tree_eq text from.at, not_passed text 40 from e, ← q) (z, kept_same 127 b)

  pub tree_leaf : (m : Numeral) (c : GeneColumns) → None ≡ passed text 40 from → Some m ≡ leaf_at text from.at → c ≡ entered b (from.genes + 1) up m.species → Whole b
      → r ≡ Some (place m.next (from.genes + 1)) → Outcome (tree_at text from.at) from.genes up b r c
  unfolding leaf_of Outcome genes lines_from entered_all
  tree_leaf m c e q z w d = rw (tree_eq text from.at, not_passed text 40 from e, ← q) (d, rw add-one at z, w)

-- the lines of a pair are those that it enters for itself and those of its members
lines_two : (l r : Tree) (met up some : ℕ) (b b₁ b₂ b₃ : GeneColumns) → some ≡ met + 1 + genes l → b₁ ≡ entered b (met + 1) up 0
    → b₂ ≡ entered_all b₁ (suc (met + 1)) (lines_from (suc (met + 1)) (met + 1) l) → b₃ ≡ entered_all b₂ (suc some) (lines_from (suc some) (met + 1) r)
    → b₃ ≡ entered_all b (suc met) (lines_from (suc met) up (pair l r))
unfolding lines_from entered_all
lines_two l r met up some b b₁ b₂ b₃ e e₁ e₂ e₃ =
    let z : met + 1 ≡ suc met = add-one met in
    let c : suc some ≡ suc (suc met) + genes l = omega arith in
    let b' = entered b (suc met) up 0 in
    let xs = lines_from (suc (suc met)) (suc met) l in
    let ys = lines_from (suc (suc met) + genes l) (suc met) r in
    e₃ ∙ rw (c, e₂, e₁, z) (sym (entered_two xs ys b' (suc (suc met))
    ∙ ap (λ (i : ℕ). entered_all (entered_all b' (suc (suc met)) xs) (suc (suc met) + i) ys) (length_lines l (suc (suc met)) (suc met))))

-- the pair reader where it finds no pair, whatever it has entered and numbered
module _ (text : List ℕ) (at met up : ℕ) (b b₁ b₂ : GeneColumns) (own p s m₁ u₁ : ℕ) (e₁ : b₁ ≡ entered b (own + 1) p s) where
  kept₂ : (r₁ : Option Place) → Outcome (tree_at text at) m₁ u₁ b₁ r₁ b₂ → Kept 127 b b₂
  unfolding entered_all
  kept₂ r₁ o₁ = kept_then (rw e₁ (kept_all (record { parent = p; species = s } ∷ []) b (own + 1) (omega arith))) (told_kept m₁ u₁ b₁ b₂ (tree_at text at) r₁ o₁)

  pub pair_no_left : Outcome (tree_at text at) m₁ u₁ b₁ None b₂ → (r : Option Place) → r ≡ None → Outcome (pair_at text at) met up b r b₂
  unfolding pair_at paired Outcome
  pair_no_left o₁ r e = rw (told_none m₁ u₁ b₁ b₂ (tree_at text at) o₁) (e, kept₂ None o₁)

  module _ (left : Place) (o₁ : Outcome (tree_at text at) m₁ u₁ b₁ (Some left) b₂) where
    x : Told (tree_at text at) m₁ u₁ b₁ left b₂
    x = told m₁ u₁ b₁ b₂ (tree_at text at) left o₁

    pub pair_no_comma : None ≡ passed text 44 left → (r : Option Place) → r ≡ None → Outcome (pair_at text at) met up b r b₂
    unfolding pair_at paired Outcome
    pair_no_comma c r e = rw (x.found_is, not_passed text 44 left c) (e, kept₂ (Some left) o₁)

    module _ (comma : Place) (c : Some comma ≡ passed text 44 left) (b₃ : GeneColumns) (m₂ u₂ : ℕ) where
      kept₃ : (r₂ : Option Place) → Outcome (tree_at text comma.at) m₂ u₂ b₂ r₂ b₃ → Kept 127 b b₃
      kept₃ r₂ o₂ = kept_then (kept₂ (Some left) o₁) (told_kept m₂ u₂ b₂ b₃ (tree_at text comma.at) r₂ o₂)

      pub pair_no_right : Outcome (tree_at text comma.at) m₂ u₂ b₂ None b₃ → (r : Option Place) → r ≡ None → Outcome (pair_at text at) met up b r b₃
      unfolding pair_at paired closed Outcome
      pair_no_right o₂ r e =
          let next = did_pass text 44 left comma c in
          let y : tree_at text (suc left.at) ≡ None = rw next.at_is at (told_none m₂ u₂ b₂ b₃ (tree_at text comma.at) o₂) in
          rw (x.found_is, next.test, y) (e, kept₃ None o₂)

-- where it finds both its members: the place after its bracket, if that is there
module _ (text : List ℕ) (at met up : ℕ) (b b₁ b₂ b₃ : GeneColumns) (left comma right : Place) (e₁ : b₁ ≡ entered b (met + 1) up 0) (w : Whole b)
    (o₁ : Outcome (tree_at text at) (met + 1) (met + 1) b₁ (Some left) b₂) (c : Some comma ≡ passed text 44 left)
    (o₂ : Outcome (tree_at text comma.at) comma.genes (met + 1) b₂ (Some right) b₃) where
  pub pair_end : (r : Option Place) → r ≡ passed text 41 right → Outcome (pair_at text at) met up b r b₃
  unfolding pair_at paired closed passed Outcome genes
  pair_end r e =
      let next = did_pass text 44 left comma c in
      let x = told (met + 1) (met + 1) b₁ b₂ (tree_at text at) left o₁ in
      let y : Told (tree_at text (suc left.at)) left.genes (met + 1) b₂ right b₃ =
      rw (next.at_is, next.genes_is) at (told comma.genes (met + 1) b₂ b₃ (tree_at text comma.at) right o₂) in
      let all : right.genes ≡ met + suc (genes x.tree + genes y.tree) = omega (arith, x.all_is, y.all_is) in
      by_bool (same (byte_at text right.at) 41)
      (λ z. rw (x.found_is, next.test, y.found_is, e, z)
      (ap (λ (i : ℕ). Some (place (suc right.at) i)) all, lines_two x.tree y.tree met up left.genes b b₁ b₂ b₃ x.all_is e₁ x.lines_are y.lines_are, w))
      (λ z. rw (x.found_is, next.test, y.found_is, e, z)
      (refl, kept₃ text at met up b b₁ b₂ met up 0 (met + 1) (met + 1) e₁ left o₁ comma c b₃ comma.genes (met + 1) (Some right) o₂))
