-- Reading a tree: what was found when a tree was found, and that each gene of it has a byte of its own. So brackets are never deeper than the text left
-- is long, and the bound on the depth does not matter (`tree_eq`).
-- Assumes nothing.
use Rattle.std.proofs.Common.{ℕ, zero, suc, ◌+◌, ◌-◌, ◌*◌, ◌≤◌, ◌<◌, ◌≡◌, cond, List, length, Option, Some, None, refl, sym, ap, ◌∙◌, arith}
use Rattle.finite.specs.Tests.{same}
use Rattle.finite.proofs.Cases.{by_bool, by_less}
use Rattle.finite.proofs.Tests.{same_is}
use Rattle.newick.specs.Trees.{leaf, pair, genes}
use Rattle.newick.specs.Reading.{byte_at, digit_from, more_at, leaf_at, Found, found, leaf_of, closed, paired, tree_in, tree_at, pair_at}
use Rattle.newick.specs.declared.Numeral.{Numeral}
use Rattle.newick.proofs.Places.{inside, digit_low}

-- the parts of a pair that was found
pub record Parts (text : List ℕ) (read : ℕ → Option Found) (first : Option Found) (f : Found) : Type 0 where
  pub left : Found
  pub right : Found
  pub left_is : first ≡ Some left
  pub comma_is : byte_at text left.next ≡ 44
  pub right_is : read (suc left.next) ≡ Some right
  pub close_is : byte_at text right.next ≡ 41
  pub tree_is : f.tree ≡ pair left.tree right.tree
  pub next_is : f.next ≡ suc right.next

module _ (text : List ℕ) (read : ℕ → Option Found) (f : Found) where
  closed_parts : (l : Found) (g : Option Found) → byte_at text l.next ≡ 44 → read (suc l.next) ≡ g → closed text l.tree g ≡ Some f → Parts text read (Some l) f
  unfolding closed
  closed_parts l None be re e = cc
  closed_parts l (Some r) be re e = by_bool (same (byte_at text r.next) 41)
      (λ y. let q : f ≡ found (pair l.tree r.tree) (suc r.next) = let z = rw y at e in cc in
      rw q (record { left = l; right = r; left_is = refl; comma_is = be; right_is = re; close_is = same_is (byte_at text r.next) 41 y; tree_is = refl; next_is = refl }))
      (λ y. let z = rw y at e in cc)

  pub paired_parts : (first : Option Found) → paired text read first ≡ Some f → Parts text read first f
  unfolding paired
  paired_parts None e = cc
  paired_parts (Some l) e = by_bool (same (byte_at text l.next) 44)
      (λ y. closed_parts l (read (suc l.next)) (same_is (byte_at text l.next) 44 y) refl (rw y at e))
      (λ y. let z = rw y at e in cc)

-- a tree that was found is a pair after its bracket or a leaf
leaf_parts : {A : Type 0} (m : Option Numeral) (f : Found) → leaf_of m ≡ Some f → ((n : Numeral) → m ≡ Some n → f ≡ found (leaf n.species) n.next → A) → A
unfolding leaf_of
leaf_parts None f e k = cc
leaf_parts (Some n) f e k = k n refl (cc)

pub by_tree : {A : Type 0} (text : List ℕ) (k at : ℕ) (f : Found) → tree_in text (suc k) at ≡ Some f
    → (byte_at text at ≡ 40 → Parts text (λ p. tree_in text k p) (tree_in text k (suc at)) f → A)
    → ((n : Numeral) → leaf_at text at ≡ Some n → f ≡ found (leaf n.species) n.next → A) → A
unfolding tree_in
by_tree text k at f e g h = by_bool (same (byte_at text at) 40)
    (λ y. g (same_is (byte_at text at) 40 y) (paired_parts text (λ p. tree_in text k p) f (tree_in text k (suc at)) (rw y at e)))
    (λ y. leaf_parts (leaf_at text at) f (rw y at e) h)

-- a number leaves room
more_room : (text : List ℕ) (k n at : ℕ) → at ≤ length text → (at ≤ (more_at text k n at).next) × ((more_at text k n at).next ≤ length text)
unfolding more_at
more_room text zero n at l = (omega arith, l)
more_room text (suc k) n at l = by_bool (digit_from 48 (byte_at text at))
    (λ y. let i : at < length text = inside text at (omega (arith, digit_low 48 (byte_at text at) y)) in
    let r = more_room text k (n * 10 + (byte_at text at - 48)) (suc at) (omega arith) in rw y (omega (arith, r.0), r.1))
    (λ y. rw y (omega arith, l))

pub leaf_room : (text : List ℕ) (at : ℕ) (n : Numeral) → leaf_at text at ≡ Some n → (at < n.next) × (n.next ≤ length text)
unfolding leaf_at
leaf_room text at n e = by_bool (digit_from 49 (byte_at text at))
    (λ y. let i : at < length text = inside text at (omega (arith, digit_low 49 (byte_at text at) y)) in
    let r = more_room text 5 (byte_at text at - 48) (suc at) (omega arith) in
    let q : more_at text 5 (byte_at text at - 48) (suc at) ≡ n = let z = rw y at e in cc in
    rw (← q) (omega (arith, r.0), r.1))
    (λ y. let z = rw y at e in cc)

-- each gene of a tree has a byte of its own
pub tree_room : (text : List ℕ) (k at : ℕ) (f : Found) → tree_in text k at ≡ Some f → (at + genes f.tree ≤ f.next) × (f.next ≤ length text)
unfolding tree_in genes
tree_room text zero at f e = cc
tree_room text (suc k) at f e = by_tree text k at f e
    (λ b p. let l = tree_room text k (suc at) p.left p.left_is in
    let r = tree_room text k (suc p.left.next) p.right p.right_is in
    let i : p.right.next < length text = inside text p.right.next (rw p.close_is (omega arith)) in
    let g : genes f.tree ≡ suc (genes p.left.tree + genes p.right.tree) = ap genes p.tree_is in
    (omega (arith, p.next_is, l.0, r.0), omega (arith, p.next_is)))
    (λ n q d. let r = leaf_room text at n q in rw d (omega (arith, r.0), r.1))

-- a bound on the depth that is above what is left of the text does not matter
paired_same : (text : List ℕ) (read read' : ℕ → Option Found) (first : Option Found) → ((l : Found) → first ≡ Some l → read (suc l.next) ≡ read' (suc l.next))
    → paired text read first ≡ paired text read' first
unfolding paired
paired_same text read read' None h = refl
paired_same text read read' (Some l) h = rw (h l refl)

tree_more : (text : List ℕ) (k at : ℕ) → length text - at < k → tree_in text k at ≡ tree_in text (suc k) at
unfolding tree_in
tree_more text zero at h = absurd (omega arith)
tree_more text (suc k) at h = by_bool (same (byte_at text at) 40)
    (λ y. let i : at < length text = inside text at (rw (same_is (byte_at text at) 40 y) (omega arith)) in
    rw (y, ← tree_more text k (suc at) (omega arith))
    (paired_same text (λ p. tree_in text k p) (λ p. tree_in text (suc k) p) (tree_in text k (suc at))
    (λ l q. let r = tree_room text k (suc at) l q in tree_more text k (suc l.next) (omega (arith, r.0)))))
    (λ y. rw y)

tree_any : (text : List ℕ) (k at : ℕ) → length text - at < k → tree_in text k at ≡ tree_at text at
unfolding tree_at
tree_any text zero at h = absurd (omega arith)
tree_any text (suc k) at h = by_less (length text - at) k
    (λ l. sym (tree_more text k at l) ∙ tree_any text k at l)
    (λ l. let e : length text - at ≡ k = omega arith in rw e)

pub tree_eq : (text : List ℕ) (at : ℕ) → tree_at text at ≡ cond (same (byte_at text at) 40) (pair_at text (suc at)) (leaf_of (leaf_at text at))
unfolding tree_at tree_in pair_at
tree_eq text at = by_bool (same (byte_at text at) 40)
    (λ y. let i : at < length text = inside text at (rw (same_is (byte_at text at) 40 y) (omega arith)) in
    let k : ℕ = length text - at in
    rw y
    (paired_same text (λ p. tree_in text k p) (λ p. tree_at text p) (tree_in text k (suc at))
    (λ l q. let r = tree_room text k (suc at) l q in tree_any text k (suc l.next) (omega (arith, r.0)))
    ∙ ap (λ (f : Option Found). paired text (λ p. tree_at text p) f) (tree_any text k (suc at) (omega arith))))
    (λ y. rw y)

pub room : (text : List ℕ) (at : ℕ) (f : Found) → tree_at text at ≡ Some f → (at + genes f.tree ≤ f.next) × (f.next ≤ length text)
unfolding tree_at
room text at f e = tree_room text (suc (length text - at)) at f e
