-- Where refusals 12 and 13 do not apply the lines describe a rooted gene tree, each leaf gene of which sits at a node that bears its species. A gene with
-- a child has two, so the lowest and the lowest after it are its children and no other gene is.
-- Assumes nothing.
use Rattle.std.proofs.Common.{◌≡◌, refl, sym, ◌∙◌, ◌≢◌, ◌⊎◌, inl, inr, true, false, ℕ, ◌≤◌, ◌<◌, arith}
use Rattle.finite.specs.Tests.{same, under, tally}
use Rattle.finite.specs.Range.{count, children}
use Rattle.finite.specs.Tables.{within}
use Rattle.finite.proofs.Cases.{by_eq, by_less, by_order, clash}
use Rattle.finite.proofs.Tests.{is_same, same_is, not_same, is_under, not_under, and_r, tally_imp}
use Rattle.finite.proofs.Count.{count_less, count_is, count_one, count_zero, zero_count}
use Rattle.finite.proofs.Sum.{sum_le}
use Rattle.finite.proofs.Tables.{within_in, within_zero, within_out}
use Rattle.tables.specs.Children.{is_next}
use Rattle.tables.proofs.Nexts.{next_is, next_none, next_low}
use Rattle.topology.specs.Lines.{Gene, NodeLines, GeneLines}
use Rattle.reconciliation.specs.GeneTrees.{GeneTree, Rooted}
use Rattle.gene_tree.specs.Refusals.{child_count, refusal12, refusal13}
use Rattle.gene_tree.specs.Genes.{left_of, right_of, leaf_of, gene_tree_of, SeatAt}
use Rattle.gene_tree.proofs.Refusals.{gene_first, gene_some, gene_below, gene_two, bearer_some, bearer_in, seat_leaf}

-- what `within` gives at a number where it is not 0
within_some : (m : ℕ) (f : ℕ → ℕ) (g : ℕ) → within m f g ≢ 0 → (1 ≤ g) × (g ≤ m)
within_some m f g d = by_eq g 0 (λ e. absurd (d (rw e (within_zero m f))))
    (λ z. by_less m g (λ l. absurd (d (within_out m f g l))) (λ l. (omega arith, l)))

-- the test for the next child, by its parts
module _ (f : ℕ → ℕ) (g a : ℕ) where
  is_next_lem : (v : ℕ) → a < v → f v ≡ g → is_next f a g v ≡ true
  unfolding is_next
  is_next_lem v l e = rw (is_under l, is_same e)

  next_child : (v : ℕ) → is_next f a g v ≡ true → same (f v) g ≡ true
  unfolding is_next
  next_child v e = and_r (under a v) (same (f v) g) e

  next_itself : is_next f a g a ≡ false
  unfolding is_next
  next_itself = rw (not_under {m = a} {n = a} (omega arith))

module _ (K : GeneLines) (g : ℕ) where
  -- a gene's children are counted
  child_counted : (x : ℕ) → Gene K x → K.parent x ≡ g → child_count K g ≢ 0
  unfolding child_count children
  child_counted x k e z = clash (is_same e) (zero_count K.count (λ y. same (K.parent y) g) z x k.low k.high)

  -- a gene with children has a lowest one, and one after it
  pub left_child : left_of K g ≡ 0 → child_count K g ≡ 0
  unfolding left_of child_count children
  left_child z = count_zero K.count (λ y. same (K.parent y) g) (λ x l u. not_same (next_none K.count K.parent 0 g z x (omega arith) u))

  none_lower : (x : ℕ) → 1 ≤ x → x < left_of K g → K.parent x ≢ g
  unfolding left_of
  none_lower x l u = next_low K.count K.parent 0 g x (omega arith) u

  only_left : right_of K g ≡ 0 → (x : ℕ) → 1 ≤ x → x ≤ K.count → same (K.parent x) g ≡ true → same (left_of K g) x ≡ true
  unfolding right_of
  only_left z x l u e = by_order x (left_of K g)
      (λ b. absurd (none_lower x l b (same_is _ _ e)))
      (λ q. is_same (sym q))
      (λ b. absurd (next_none K.count K.parent (left_of K g) g z x b u (same_is _ _ e)))

  right_child : child_count K g ≡ 2 → right_of K g ≢ 0
  unfolding child_count children count
  right_child k z = omega (
    arith,
    count_is K.count (left_of K g),
    sum_le K.count (λ x. tally (same (K.parent x) g)) (λ x. tally (same (left_of K g) x)) (λ x l u. tally_imp _ _ (only_left z x l u)),
  )

  module _ (d : left_of K g ≢ 0) where
    pub left_in : left_of K g ≤ K.count
    unfolding left_of
    left_in = (next_is K.count K.parent 0 g d).0

    pub left_parent : K.parent (left_of K g) ≡ g
    unfolding left_of
    left_parent = (next_is K.count K.parent 0 g d).2

    left_gene : Gene K (left_of K g)
    left_gene = record { low = omega arith; high = left_in }

-- a gene with a child, where 12 does not apply
module _ {K : GeneLines} (t : refusal12 K ≡ false) (g : ℕ) (k : Gene K g) (d : left_of K g ≢ 0) where
  two : child_count K g ≡ 2
  two = gene_two t g k (child_counted K g (left_of K g) (left_gene K g d) (left_parent K g d))

  right_some : right_of K g ≢ 0
  right_some = right_child K g two

  pub right_in : right_of K g ≤ K.count
  unfolding right_of
  right_in = (next_is K.count K.parent (left_of K g) g right_some).0

  pub right_after : left_of K g < right_of K g
  unfolding right_of
  right_after = (next_is K.count K.parent (left_of K g) g right_some).1

  pub right_parent : K.parent (right_of K g) ≡ g
  unfolding right_of
  right_parent = (next_is K.count K.parent (left_of K g) g right_some).2

  right_gene : Gene K (right_of K g)
  right_gene = record { low = omega (arith, right_some); high = right_in }

  -- a child has a higher number
  more : (x : ℕ) → Gene K x → K.parent x ≡ g → g < x
  more x kx e = by_eq x 1
      (λ q. absurd (omega (arith, gene_first t x kx q, k.low)))
      (λ q. omega (arith, gene_below t x kx q))

  left_more : g < left_of K g
  left_more = more (left_of K g) (left_gene K g d) (left_parent K g d)

  right_more : g < right_of K g
  right_more = more (right_of K g) right_gene right_parent

  -- beside the lowest child there is one more, so each child is one of the two
  one_after : count K.count (is_next K.parent (left_of K g) g) ≤ 1
  unfolding child_count children
  one_after = omega (
    arith,
    two,
    count_less K.count (left_of K g) (is_next K.parent (left_of K g) g) (λ y. same (K.parent y) g) (next_child K.parent g (left_of K g))
        (omega arith) (left_in K g d) (next_itself K.parent g (left_of K g)) (is_same (left_parent K g d)),
  )

  other_is : (x : ℕ) → Gene K x → K.parent x ≡ g → (left_of K g ≡ x) ⊎ (right_of K g ≡ x)
  other_is x kx e = by_order x (left_of K g)
      (λ b. absurd (none_lower K g x kx.low b e))
      (λ q. inl (sym q))
      (λ b. inr (count_one K.count (right_of K g) x (is_next K.parent (left_of K g) g) one_after right_gene.low right_in kx.low kx.high
      (is_next_lem K.parent g (left_of K g) (right_of K g) right_after right_parent) (is_next_lem K.parent g (left_of K g) x b e)))

-- the gene tree of the lines: its size, and what it has at a gene
pub count_at : (L : NodeLines) (K : GeneLines) → (gene_tree_of L K).count ≡ K.count
unfolding gene_tree_of
count_at L K = refl

module _ (L : NodeLines) (K : GeneLines) (g : ℕ) (k : Gene K g) where
  pub left_at : (gene_tree_of L K).left g ≡ left_of K g
  unfolding gene_tree_of
  left_at = within_in K.count (left_of K) g k.low k.high

  pub right_at : (gene_tree_of L K).right g ≡ right_of K g
  unfolding gene_tree_of
  right_at = within_in K.count (right_of K) g k.low k.high

  pub leaf_at_lem : (gene_tree_of L K).leaf g ≡ leaf_of L K g
  unfolding gene_tree_of
  leaf_at_lem = within_in K.count (leaf_of L K) g k.low k.high

  pub parent_at : (gene_tree_of L K).parent g ≡ K.parent g
  unfolding gene_tree_of
  parent_at = within_in K.count K.parent g k.low k.high

module _ (L : NodeLines) (K : GeneLines) (some : 1 ≤ K.count) (t : refusal12 K ≡ false) where
  abbrev G : GeneTree
  G = gene_tree_of L K

  -- what has a left child is a gene
  module _ (g : ℕ) (d : G.left g ≢ 0) where
    gene : Gene K g
    unfolding gene_tree_of
    gene = let r = within_some K.count (left_of K) g d in record { low = r.0; high = r.1 }

    left_is : G.left g ≡ left_of K g
    left_is = left_at L K g gene

    right_is : G.right g ≡ right_of K g
    right_is = right_at L K g gene

    has : left_of K g ≢ 0
    has e = d (left_is ∙ e)

  -- a gene's parent is a gene, and has children
  module _ (g : ℕ) (d : G.parent g ≢ 0) where
    child : Gene K g
    unfolding gene_tree_of
    child = let r = within_some K.count K.parent g d in record { low = r.0; high = r.1 }

    parent_is : G.parent g ≡ K.parent g
    parent_is = parent_at L K g child

    not_first : g ≢ 1
    not_first q = d (parent_is ∙ gene_first t g child q)

    parent_gene : Gene K (K.parent g)
    parent_gene = record { low = omega (arith, gene_some t g child not_first); high = omega (arith, gene_below t g child not_first, child.high) }

    parent_left : left_of K (K.parent g) ≢ 0
    parent_left z = child_counted K (K.parent g) g child refl (left_child K (K.parent g) z)

    parent_has : G.left (G.parent g) ≢ 0
    parent_has = rw (parent_is, left_at L K (K.parent g) parent_gene) parent_left

    child_of : (G.left (G.parent g) ≡ g) ⊎ (G.right (G.parent g) ≡ g)
    child_of = rw (parent_is, left_at L K (K.parent g) parent_gene, right_at L K (K.parent g) parent_gene)
        (other_is t (K.parent g) parent_gene parent_left g child refl)

  root : Gene K 1
  root = record { low = omega arith; high = some }

  pub rooted : Rooted G
  rooted = record {
    some = omega (arith, some, count_at L K);
    root = parent_at L K 1 root ∙ gene_first t 1 root refl;
    inner_low = λ g d. (gene g d).low;
    inner_high = λ g d. omega (arith, (gene g d).high, count_at L K);
    left_more = λ g d. omega (arith, left_is g d, left_more t g (gene g d) (has g d));
    right_more = λ g d. omega (arith, right_is g d, right_more t g (gene g d) (has g d));
    left_in = λ g d. omega (arith, left_is g d, left_in K g (has g d), count_at L K);
    right_in = λ g d. omega (arith, right_is g d, right_in t g (gene g d) (has g d), count_at L K);
    apart = λ g d e. omega (arith, left_is g d, right_is g d, right_after t g (gene g d) (has g d));
    left_parent = λ g d. rw (left_is g d) (parent_at L K (left_of K g) (left_gene K g (has g d)) ∙ left_parent K g (has g d));
    right_parent = λ g d. rw (right_is g d) (parent_at L K (right_of K g) (right_gene t g (gene g d) (has g d)) ∙ right_parent t g (gene g d) (has g d));
    parent_inner = parent_has;
    is_child = child_of;
  }

-- each leaf gene sits at a node that bears its species
pub seated : (L : NodeLines) {K : GeneLines} → refusal13 L K ≡ false → (g : ℕ) → Gene K g → (gene_tree_of L K).left g ≡ 0 → SeatAt L K g ((gene_tree_of L K).leaf g)
unfolding leaf_of
seated L {K} t g k z =
    let s = K.species g in
    let d = seat_leaf L t g k (left_child K g (sym (left_at L K g k) ∙ z)) in
    let r = bearer_in L s d in
    rw (leaf_at_lem L K g k) (record { low = omega (arith, d); high = r.0; some = bearer_some L s d; bears = r.1 })
