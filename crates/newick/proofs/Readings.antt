-- What is found at a place is a tree whose bytes stand there (`sound`), and each such tree that no digit follows is found (`complete`), by induction on
-- the tree. So a text has one reading: what is found at its start.
-- Assumes nothing.
use Rattle.std.proofs.Common.{ℕ, zero, suc, ◌+◌, ◌-◌, ◌*◌, ◌≤◌, ◌≡◌, false, List, [], ◌∷◌, ◌++◌, length, get_or, drop, Option, Some, refl, sym, ap, ◌∙◌, append_assoc, arith, length-append}
use Rattle.finite.specs.Tests.{same}
use Rattle.finite.proofs.Tests.{is_same, not_same}
use Rattle.newick.specs.Trees.{Tree, leaf, pair, spelled, text_of, Proper, HasText, genes}
use Rattle.newick.specs.Reading.{byte_at, digit_from, Found, found, leaf_of, closed, paired, tree_in, tree_at, pair_at}
use Rattle.newick.proofs.Places.{digit_low, digit_less, digit_more, front, past, past_one, opens}
use Rattle.newick.proofs.Trees.{by_tree, tree_eq}
use Rattle.newick.proofs.Numerals.{leaf_sound, leaf_complete, numeral_of, numeral_short}

-- a tree whose text stands at a place
pub record Stands (text : List ℕ) (at : ℕ) (t : Tree) (next : ℕ) : Type 0 where
  pub proper : Proper t
  pub text_is : drop at text ≡ spelled t ++ drop next text

-- brackets around what stands there
bracketed : (a b c d : List ℕ) (l r : List ℕ) → a ≡ 40 ∷ b → b ≡ l ++ (44 ∷ c) → c ≡ r ++ (41 ∷ d) → a ≡ (40 ∷ (l ++ (44 ∷ (r ++ (41 ∷ []))))) ++ d
bracketed a b c d l r e₁ e₂ e₃ = e₁ ∙ ap (λ (x : List ℕ). 40 ∷ x) (e₂ ∙ ap (λ (x : List ℕ). l ++ (44 ∷ x)) (e₃ ∙ sym (append_assoc r (41 ∷ []) d)) ∙ sym (append_assoc l (44 ∷ (r ++ (41 ∷ []))) d))

tree_sound : (text : List ℕ) (k at : ℕ) (f : Found) → tree_in text k at ≡ Some f → Stands text at f.tree f.next
unfolding tree_in spelled Proper
tree_sound text zero at f e = cc
tree_sound text (suc k) at f e = by_tree text k at f e
    (λ b p. let l = tree_sound text k (suc at) p.left p.left_is in
    let r = tree_sound text k (suc p.left.next) p.right p.right_is in
    rw (p.tree_is, p.next_is)
    (record {
      proper = (l.proper, r.proper);
      text_is = bracketed (drop at text) (drop (suc at) text) (drop (suc p.left.next) text) (drop (suc p.right.next) text) (spelled p.left.tree) (spelled p.right.tree)
          (opens text at 40 b (omega arith))
          (l.text_is ∙ ap (λ (x : List ℕ). spelled p.left.tree ++ x) (opens text p.left.next 44 p.comma_is (omega arith)))
          (r.text_is ∙ ap (λ (x : List ℕ). spelled p.right.tree ++ x) (opens text p.right.next 41 p.close_is (omega arith)));
    }))
    (λ n q d. let g = leaf_sound text at n q in
    rw d (record { proper = (g.some, g.small); text_is = g.text_is }))

pub sound : (text : List ℕ) (at : ℕ) (f : Found) → tree_at text at ≡ Some f → Stands text at f.tree f.next
unfolding tree_at
sound text at f e = tree_sound text (suc (length text - at)) at f e

-- each tree that stands at a place is found there, if no digit follows it
pub complete : (t : Tree) (text : List ℕ) (at : ℕ) (rest : List ℕ) → Proper t → drop at text ≡ spelled t ++ rest → digit_from 48 (get_or rest 0 0) ≡ false
    → tree_at text at ≡ Some (found t (at + length (spelled t)))
unfolding spelled Proper leaf_of pair_at paired closed
complete (leaf s) text at rest ok e d =
    let g = numeral_of s ok.0 ok.1 in
    let b : byte_at text at ≡ g.first = front text at _ e ∙ ap (λ (x : List ℕ). get_or (x ++ rest) 0 0) g.bytes_are in
    let y : same (byte_at text at) 40 ≡ false = not_same (λ h. absurd (omega (arith, digit_low 49 g.first g.first_is))) in
    tree_eq text at ∙ rw (y, leaf_complete text at s rest ok.0 ok.1 e d)
complete (pair l r) text at rest ok e d =
    let b : byte_at text at ≡ 40 = front text at _ e in
    let e₁ = past_one text at 40 _ e ∙ append_assoc (spelled l) (44 ∷ (spelled r ++ (41 ∷ []))) rest in
    let f₁ = complete l text (suc at) (44 ∷ ((spelled r ++ (41 ∷ [])) ++ rest)) ok.0 e₁ (digit_less 48 44 (omega arith)) in
    let e₂ = past text (suc at) (spelled l) (44 ∷ ((spelled r ++ (41 ∷ [])) ++ rest)) e₁ in
    let b₂ : byte_at text (suc at + length (spelled l)) ≡ 44 = front text (suc at + length (spelled l)) _ e₂ in
    let e₃ = past_one text (suc at + length (spelled l)) 44 _ e₂ ∙ append_assoc (spelled r) (41 ∷ []) rest in
    let f₃ = complete r text (suc (suc at + length (spelled l))) (41 ∷ rest) ok.1 e₃ (digit_less 48 41 (omega arith)) in
    let e₄ = past text (suc (suc at + length (spelled l))) (spelled r) (41 ∷ rest) e₃ in
    let b₄ : byte_at text (suc (suc at + length (spelled l)) + length (spelled r)) ≡ 41 = front text (suc (suc at + length (spelled l)) + length (spelled r)) _ e₄ in
    let n : suc (suc (suc at + length (spelled l)) + length (spelled r)) ≡ at + length (spelled (pair l r)) =
    rw (length-append, length-append) (omega arith) in
    tree_eq text at ∙ rw (is_same b, f₁, is_same b₂, f₃, is_same b₄) (ap (λ (i : ℕ). Some (found (pair l r) i)) n)

-- a text has one reading
pub reads : (text : List ℕ) (t : Tree) → Proper t → text ≡ text_of t → tree_at text 0 ≡ Some (found t (length (spelled t)))
unfolding text_of
reads text t ok e = complete t text 0 (59 ∷ []) ok e (digit_more 48 59 (omega arith)) ∙ ap (λ (i : ℕ). Some (found t i)) (omega arith)

pub one_found : {r : Option Found} {t t' : Tree} {n n' : ℕ} → r ≡ Some (found t n) → r ≡ Some (found t' n') → t ≡ t'
one_found {r} {t} {t'} {n} {n'} e e' = let q : found t n ≡ found t' n' = cc in ap (λ (f : Found). f.tree) q

pub one_reading : (t t' : Tree) → Proper t → Proper t' → text_of t ≡ text_of t' → t ≡ t'
one_reading t t' ok ok' e = one_found (reads (text_of t) t ok refl) (reads (text_of t) t' ok' e)

pub one_tree : (text : List ℕ) (t t' : Tree) → HasText text t → HasText text t' → t ≡ t'
one_tree text t t' w w' = one_reading t t' w.proper w'.proper (sym w.text_is ∙ w'.text_is)

-- the bytes of a text: those of its tree and a semicolon
pub length_text : (t : Tree) → length (text_of t) ≡ length (spelled t) + 1
unfolding text_of
length_text t = length-append (spelled t) (59 ∷ [])

-- so many as 02 has for the longest text: no tree with at most 127 genes has a longer one
length_spelled : (t : Tree) → length (spelled t) + length (spelled t) ≤ 9 * genes t + 3
unfolding spelled genes
length_spelled (leaf s) = omega (arith, numeral_short s)
length_spelled (pair l r) = rw (length-append, length-append) (omega (arith, length_spelled l, length_spelled r))

pub text_short : (t : Tree) → genes t ≤ 127 → length (text_of t) ≤ 574
text_short t few = omega (arith, length_text t, length_spelled t)
