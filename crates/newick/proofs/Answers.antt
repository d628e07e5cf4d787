-- What is found at the start of a text, and a semicolon that is its last byte, decide which answer is right (`decided`), and so refusals 14
-- and 15 (`tree_tells`). Each return of the reader of a whole text is one law over plain values.
-- Assumes nothing.
use Rattle.std.proofs.Common.{ℕ, suc, ◌+◌, ◌≤◌, ◌<◌, ◌≡◌, ◌↔◌, ⊎_elim, inl, inr, true, false, cond, List, [], ◌∷◌, ◌++◌, length, drop, Option, Some, None, Result, Ok, Err, refl, ap, ◌∙◌, arith}
use Rattle.std.proofs.Math.Seq.{drop-length}
use Rattle.finite.specs.Tests.{same, under}
use Rattle.finite.specs.Refusals.{verdict, AllTell, no_more, one_more}
use Rattle.finite.proofs.Cases.{by_bool}
use Rattle.finite.proofs.Tests.{same_is, is_same, not_same, same_not, is_under, not_under, under_is, under_not}
use Rattle.finite.proofs.Refusals.{tell}
use Rattle.layout.specs.declared.lines.GeneColumns.{GeneColumns}
use Rattle.newick.specs.Trees.{Tree, spelled, text_of, HasText, OfGrammar, genes, gene_lines_of}
use Rattle.newick.specs.Reading.{byte_at, Found, found, tree_at, answer_to, answer_of, lines_found, lines_read}
use Rattle.newick.specs.Answers.{Taken, Refusal14, Refusal15, tree_refusals, Refused, Says, Promise}
use Rattle.newick.specs.Answers.Refusal15.{longer, many}
use Rattle.newick.specs.inner.Steps.{passed, Outcome}
use Rattle.newick.specs.declared.Place.{Place}
use Rattle.refusals.specs.declared.Refusal.{Refusal}
use Rattle.refusals.specs.declared.Refusal.TheVariants.{OutsideGrammar, LargeGeneTree}
use Rattle.refusals.specs.Numbers.{number, refused}
use Rattle.newick.proofs.Places.{front, past, opens}
use Rattle.newick.proofs.Turns.{Told, told, told_none, told_kept, Next, did_pass, not_passed}
use Rattle.newick.proofs.Writing.{kept_same, kept_tree, genes_in_lem}
use Rattle.newick.proofs.Readings.{sound, reads, one_found, one_tree, length_text}

-- where the text of a tree ends
module _ (text : List ℕ) (t : Tree) (w : HasText text t) where
  pub found_text : tree_at text 0 ≡ Some (found t (length (spelled t)))
  found_text = reads text t w.proper w.text_is

  -- so the gene lines read from the text are the tree's
  pub lines_read_is : lines_read text ≡ gene_lines_of t
  unfolding lines_read lines_found
  lines_read_is = rw found_text

  length_is : suc (length (spelled t)) ≡ length text
  length_is = omega (arith, length_text t, ap (λ (x : List ℕ). length x) w.text_is)

  last_byte : byte_at text (length (spelled t)) ≡ 59
  unfolding text_of
  last_byte =
      let z : length (spelled t) ≡ 0 + length (spelled t) = omega arith in
      front text (length (spelled t)) (59 ∷ []) (ap (λ (i : ℕ). drop i text) z ∙ past text 0 (spelled t) (59 ∷ []) w.text_is)

-- a tree found at the start of a text that ends after a semicolon behind it has that text
text_of_lem : (text : List ℕ) (f : Found) → tree_at text 0 ≡ Some f → byte_at text f.next ≡ 59 → suc f.next ≡ length text → HasText text f.tree
unfolding text_of
text_of_lem text f e b z =
    let g = sound text 0 f e in
    record {
      proper = g.proper;
      text_is = g.text_is ∙ ap (λ (x : List ℕ). spelled f.tree ++ x)
          (opens text f.next 59 b (omega arith) ∙ ap (λ (x : List ℕ). 59 ∷ x) (ap (λ (i : ℕ). drop i text) z ∙ drop-length text));
    }

-- what an answer says of the text alone
unfoldable pub Means : List ℕ → Result ℕ Refusal → Type 0
Means text (Ok m) = Taken text m
Means text (Err r) = Refused text r

module _ (text : List ℕ) (short : length text ≤ 574) where
  outside : ((t : Tree) → HasText text t → ⊥) → Means text (Err OutsideGrammar)
  unfolding Means OfGrammar
  outside f = inl (refl, record { short = short; outside = λ g. f g.0 g.1 })

  decided_by : (r : Option Found) → tree_at text 0 ≡ r → Means text (answer_to text r)
  unfolding Means answer_to
  decided_by None e = outside (λ t w. let q = found_text text t w in cc)
  decided_by (Some f) e = by_bool (same (byte_at text f.next) 59)
      (λ b. by_bool (same (suc f.next) (length text))
      (λ z. let w = text_of_lem text f e (same_is _ _ b) (same_is _ _ z) in by_bool (under 127 (genes f.tree))
      (λ u. rw (b, z, u) (inr (refl, many f.tree w (under_is _ _ u))))
      (λ u. rw (b, z, u) (record { short = short; tree = f.tree; has_text = w; count = refl; few = under_not _ _ u })))
      (λ z. rw (b, z) (outside (λ t w. same_not _ _ z (ap suc (at_end t w) ∙ length_is text t w)))))
      (λ b. rw b (outside (λ t w. same_not _ _ b (ap (λ (i : ℕ). byte_at text i) (at_end t w) ∙ last_byte text t w))))
    where
      at_end : (t : Tree) → HasText text t → f.next ≡ length (spelled t)
      at_end t w = let q : f ≡ found t (length (spelled t)) = let z = found_text text t w in cc in ap (λ (x : Found). x.next) q

pub decided : (text : List ℕ) → Means text (answer_of text)
unfolding Means answer_of
decided text = by_bool (under 574 (length text))
    (λ u. rw u (inr (refl, longer (under_is _ _ u))))
    (λ u. rw u (decided_by text (under_not _ _ u) (tree_at text 0) refl))

-- so the tests of 14 and 15 tell their conditions, of which one alone can hold
module _ (text : List ℕ) where
  apart : Refusal14 text → Refusal15 text → ⊥
  unfolding OfGrammar
  apart x (longer l) = omega (arith, x.short)
  apart x (many t w l) = x.outside (t, w)

  taken_14 : {m : ℕ} → Taken text m → Refusal14 text → ⊥
  unfolding OfGrammar
  taken_14 h x = x.outside (h.tree, h.has_text)

  taken_15 : {m : ℕ} → Taken text m → Refusal15 text → ⊥
  taken_15 h (longer l) = omega (arith, h.short)
  taken_15 h (many t w l) = omega (arith, h.few, h.count, ap genes (one_tree text t h.tree w h.has_text))

  is_14 : (a : Result ℕ Refusal) → Means text a → (same (refused a) 14 ≡ true) ↔ Refusal14 text
  unfolding Means
  is_14 (Ok m) h = (λ e. absurd (omega (arith, same_is 0 14 e)), λ x. absurd (taken_14 h x))
  is_14 (Err r) h = ⊎_elim
      (λ q. (λ _. q.1, λ _. is_same (ap number q.0)))
      (λ q. (λ e. absurd (omega (arith, same_is _ 14 e, ap number q.0)), λ x. absurd (apart x q.1))) h

  is_15 : (a : Result ℕ Refusal) → Means text a → (same (refused a) 15 ≡ true) ↔ Refusal15 text
  unfolding Means
  is_15 (Ok m) h = (λ e. absurd (omega (arith, same_is 0 15 e)), λ x. absurd (taken_15 h x))
  is_15 (Err r) h = ⊎_elim
      (λ q. (λ e. absurd (omega (arith, same_is _ 15 e, ap number q.0)), λ x. absurd (apart q.1 x)))
      (λ q. (λ _. q.1, λ _. is_same (ap number q.0))) h

  pub tree_tells : AllTell (tree_refusals text)
  unfolding tree_refusals
  tree_tells = one_more (tell 14 (omega arith, omega arith) (is_14 (answer_of text) (decided text)))
      (λ _. one_more (tell 15 (omega arith, omega arith) (is_15 (answer_of text) (decided text))) (λ _. no_more))

  verdict_by : (a : Result ℕ Refusal) → Means text a → cond (same (refused a) 14) 14 (cond (same (refused a) 15) 15 0) ≡ refused a
  unfolding Means same
  verdict_by (Ok m) h = refl
  verdict_by (Err r) h = ⊎_elim (λ q. rw q.0) (λ q. rw q.0) h

  pub tree_verdict : verdict (tree_refusals text) ≡ refused (answer_of text)
  unfolding tree_refusals verdict
  tree_verdict = verdict_by (answer_of text) (decided text)

-- the returns
promised : (text : List ℕ) (b c : GeneColumns) (a : Result ℕ Refusal) → a ≡ answer_of text → (Means text a → Says text b c a) → Promise text b c a
promised text b c a e f = record { says = f (rw e (decided text)); answer_is = e }

pub answer_long : (text : List ℕ) (b : GeneColumns) → 574 < length text → Promise text b b (Err LargeGeneTree)
unfolding answer_of Means
answer_long text b h = promised text b b (Err LargeGeneTree) (rw (is_under h)) (λ m. (m, kept_same 127 b, λ _. refl))

module _ (text : List ℕ) (b c : GeneColumns) (short : length text ≤ 574) where
  -- it is read, and not longer
  not_longer : 574 < length text → c ≡ b
  not_longer l = absurd (omega arith)

  -- where the text is outside the grammar
  outside_by : (r : Option Place) → Outcome (tree_at text 0) 0 0 b r c → answer_to text (tree_at text 0) ≡ Err OutsideGrammar → Promise text b c (Err OutsideGrammar)
  unfolding answer_of Means
  outside_by r o e = promised text b c (Err OutsideGrammar) (rw (not_under short, e)) (λ m. (m, told_kept 0 0 b c (tree_at text 0) r o, not_longer))

  pub answer_none : {r : Option Place} → Outcome (tree_at text 0) 0 0 b r c → r ≡ None → Promise text b c (Err OutsideGrammar)
  unfolding answer_to
  answer_none o d = outside_by None (rw d at o) (rw (told_none 0 0 b c (tree_at text 0) (rw d at o)))

  module _ (tree : Place) {r : Option Place} (out : Outcome (tree_at text 0) 0 0 b r c) (d : r ≡ Some tree) where
    o : Outcome (tree_at text 0) 0 0 b (Some tree) c
    o = rw d at out

    x : Told (tree_at text 0) 0 0 b tree c
    x = told 0 0 b c (tree_at text 0) tree o

    pub answer_unended : None ≡ passed text 59 tree → Promise text b c (Err OutsideGrammar)
    unfolding answer_to
    answer_unended e = outside_by (Some tree) o (rw (x.found_is, not_passed text 59 tree e))

    module _ (end : Place) (e : Some end ≡ passed text 59 tree) where
      next : Next text 59 tree end
      next = did_pass text 59 tree end e

      pub answer_longer : (end.at ≡ length text → ⊥) → Promise text b c (Err OutsideGrammar)
      unfolding answer_to
      answer_longer n =
          let z : same (suc tree.at) (length text) ≡ false = not_same (λ h. n (omega (arith, next.at_is))) in
          outside_by (Some tree) o (rw (x.found_is, next.test, z))

      module _ (last : end.at ≡ length text) where
        z : same (suc tree.at) (length text) ≡ true
        z = is_same (omega (arith, next.at_is))

        count : genes x.tree ≡ end.genes
        count = omega (arith, x.all_is, next.genes_is)

        pub answer_many : 127 < end.genes → Promise text b c (Err LargeGeneTree)
        unfolding answer_of answer_to Means
        answer_many h =
            let u : under 127 (genes x.tree) ≡ true = is_under (omega (arith, count)) in
            promised text b c (Err LargeGeneTree) (rw (not_under short, x.found_is, next.test, z, u)) (λ m. (m, told_kept 0 0 b c (tree_at text 0) (Some tree) o, not_longer))

        pub answer_genes : end.genes ≤ 127 → Promise text b c (Ok end.genes)
        unfolding answer_of answer_to Means
        answer_genes h =
            let u : under 127 (genes x.tree) ≡ false = not_under (omega (arith, count)) in
            promised text b c (Ok end.genes) (rw (not_under short, x.found_is, next.test, z, u, count)) (λ m.
            let q : m.tree ≡ x.tree = one_found (found_text text m.tree m.has_text) x.found_is in
            (m, rw q (genes_in_lem x.tree b c end.genes count x.lines_are h x.whole), kept_tree x.tree b c end.genes count x.lines_are))
