-- The genes of a subtree have the numbers from its first one on, without a gap, and no gene behind them has a parent among them. So a gene's parent is
-- below it, a leaf has no child, and a pair has its two members for children: 12 never applies, and the gene lines describe the tree that they are of.
-- Assumes nothing.
use Rattle.std.proofs.Common.{ℕ, suc, ◌+◌, ◌≤◌, ◌<◌, ◌≡◌, ◌≢◌, ◌⊎◌, inl, inr, ⊎_elim, false, cond, List, ◌++◌, length, get_or, Option, Some, None, refl, sym, ap, ◌∙◌, arith, get_or-append-add}
use Rattle.std.proofs.Math.ListN.{get_or-append}
use Rattle.finite.specs.Tests.{same}
use Rattle.finite.specs.Range.{any, children}
use Rattle.finite.proofs.Cases.{by_bool, by_eq, by_less}
use Rattle.finite.proofs.Tests.{is_same, not_same, same_is}
use Rattle.finite.proofs.Count.{count_zero, count_alone, children_change}
use Rattle.topology.specs.Lines.{GeneLines, Gene}
use Rattle.gene_tree.specs.Refusals.{child_count, refusal12, Refusal12}
use Rattle.gene_tree.specs.Refusals.Refusal12.{first_has_parent, no_parent, parent_not_below, children_amiss}
use Rattle.gene_tree.proofs.Refusals.{from_12}
use Rattle.newick.specs.Trees.{Tree, leaf, pair, GeneLine, genes, lines_from, no_line, line_at, gene_lines_of}
use Rattle.newick.specs.Reading.{Found, tree_at, lines_found, lines_read}
use Rattle.newick.specs.Numbering.{Numbered, PairGene, Describes}
use Rattle.newick.proofs.Writing.{some_gene, length_lines}

-- exactly two children, counted
two_children : (n : ℕ) (parent : ℕ → ℕ) (g a b : ℕ) → 1 ≤ a → a ≤ n → 1 ≤ b → b ≤ n → a ≢ b → parent a ≡ g → parent b ≡ g
    → ((x : ℕ) → 1 ≤ x → x ≤ n → parent x ≡ g → (x ≡ a) ⊎ (x ≡ b)) → children n parent g ≡ 2
unfolding children
two_children n parent g a b la ua lb ub d ea eb only =
    let f : ℕ → ℕ = λ x. cond (same x a) (suc g) (parent x) in
    let at_a : f a ≡ suc g = rw (is_same {m = a} refl) in
    let off : (x : ℕ) → x ≢ a → f x ≡ parent x = λ x e. rw (not_same e) in
    let one : children n f g ≡ 1 = count_alone n b (λ x. same (f x) g) lb ub (is_same (off b (λ e. d (sym e)) ∙ eb))
    (λ x lx ux t. by_eq x a
    (λ e. let z : suc g ≡ g = sym at_a ∙ ap f (sym e) ∙ same_is (f x) g t in absurd (omega arith))
    (λ e. ⊎_elim (λ q. absurd (e q)) (λ q. q) (only x lx ux (sym (off x e) ∙ same_is (f x) g t)))) in
    let z : suc g ≢ g = λ e. absurd (omega arith) in
    omega (arith, one, rw (is_same ea, at_a, not_same z) at (children_change n a parent f la ua off g))

-- no gene from e on has a parent from g to e - 1
Apart : GeneLines → (g e : ℕ) → Type 0
Apart K g e = (x : ℕ) → Gene K x → e ≤ x → (K.parent x < g) ⊎ (e ≤ K.parent x)

-- a subtree that is numbered from g on
module _ (K : GeneLines) where
  -- of gene x of it: the first one has the parent up, and every other has one before it
  ParentIn : (g up x : ℕ) → Type 0
  ParentIn g up x = ((x ≡ g) × (K.parent x ≡ up)) ⊎ ((g ≤ K.parent x) × (K.parent x < x))

  member : (g f x : ℕ) → g < f → ParentIn f g x → (g ≤ K.parent x) × (K.parent x < x)
  unfolding ParentIn
  member g f x l h = ⊎_elim (λ q. (omega (arith, q.1), omega (arith, q.0, q.1))) (λ q. (omega (arith, q.0), q.1)) h

  parent_in : (t : Tree) (g up : ℕ) → Numbered K g up t → (x : ℕ) → g ≤ x → x < g + genes t → ParentIn g up x
  unfolding Numbered genes ParentIn
  parent_in (leaf s) g up h x a b = let e : x ≡ g = omega arith in inl (e, rw e h.1)
  parent_in (pair l r) g up h x a b = by_eq x g
      (λ e. inl (e, rw e h.1))
      (λ d. inr (by_less x (suc g + genes l)
      (λ c. member g (suc g) x (omega arith) (parent_in l (suc g) g h.3 x (omega arith) c))
      (λ c. member g (suc g + genes l) x (omega arith) (parent_in r (suc g + genes l) g h.4 x c (omega arith)))))

  first_gene : (t : Tree) (g up : ℕ) → Numbered K g up t → Gene K g × (K.parent g ≡ up)
  unfolding Numbered
  first_gene (leaf s) g up h = (h.0, h.1)
  first_gene (pair l r) g up h = (h.0, h.1)

  module _ (below : (x : ℕ) → Gene K x → K.parent x < x) where
    childless : (g : ℕ) → Apart K g (suc g) → (x : ℕ) → Gene K x → K.parent x ≡ g → ⊥
    unfolding Apart
    childless g a x k e = by_less g x (λ c. ⊎_elim (λ q. omega arith) (λ q. omega arith) (a x k c)) (λ c. omega (arith, below x k))

    leaf_apart : (g s : ℕ) → Apart K g (g + genes (leaf s)) → Apart K g (suc g)
    unfolding genes
    leaf_apart g s a = let e : g + 1 ≡ suc g = omega arith in rw e at a

    -- a pair and its two members
    module _ (g up : ℕ) (l r : Tree) (h : Numbered K g up (pair l r)) (a : Apart K g (g + genes (pair l r))) where
      left_at : Numbered K (suc g) g l
      unfolding Numbered
      left_at = h.3

      right_at : Numbered K (suc g + genes l) g r
      unfolding Numbered
      right_at = h.4

      behind : (x : ℕ) → Gene K x → suc g + genes l + genes r ≤ x → (K.parent x < g) ⊎ (suc g + genes l + genes r ≤ K.parent x)
      unfolding Apart genes
      behind x k c = ⊎_elim (λ q. inl q) (λ q. inr (omega arith)) (a x k (omega arith))

      members : (x : ℕ) → Gene K x → K.parent x ≡ g → (x ≡ suc g) ⊎ (x ≡ suc g + genes l)
      unfolding ParentIn
      members x k e = by_less x (suc g) (λ c. absurd (omega (arith, below x k))) (λ c. by_less x (suc g + genes l)
          (λ d. ⊎_elim (λ q. inl q.0) (λ q. absurd (omega (arith, q.0))) (parent_in l (suc g) g left_at x c d))
          (λ d. by_less x (suc g + genes l + genes r)
          (λ f. ⊎_elim (λ q. inr q.0) (λ q. absurd (omega (arith, q.0))) (parent_in r (suc g + genes l) g right_at x d f))
          (λ f. ⊎_elim (λ q. absurd (omega arith)) (λ q. absurd (omega arith)) (behind x k f))))

      apart_left : Apart K (suc g) (suc g + genes l)
      unfolding Apart ParentIn
      apart_left x k c = by_less x (suc g + genes l + genes r)
          (λ f. ⊎_elim (λ q. inl (omega (arith, q.1))) (λ q. inr q.0) (parent_in r (suc g + genes l) g right_at x c f))
          (λ f. ⊎_elim (λ q. inl (omega arith)) (λ q. inr (omega arith)) (behind x k f))

      apart_right : Apart K (suc g + genes l) (suc g + genes l + genes r)
      unfolding Apart
      apart_right x k c = ⊎_elim (λ q. inl (omega arith)) (λ q. inr q) (behind x k c)

    describes : (t : Tree) (g up : ℕ) → Numbered K g up t → Apart K g (g + genes t) → Describes K g t
    unfolding Numbered Describes
    describes (leaf s) g up h a = record { gene = h.0; species_is = h.2; childless = childless g (leaf_apart g s a) }
    describes (pair l r) g up h a =
        let members : PairGene K g (suc g) (suc g + genes l) = record {
          gene = h.0;
          no_species = h.2;
          order = omega (arith, some_gene l);
          left_child = (first_gene l (suc g) g h.3).1;
          right_child = (first_gene r (suc g + genes l) g h.4).1;
          no_others = members g up l r h a;
        } in
        (suc g, suc g + genes l, members, describes l (suc g) g h.3 (apart_left g up l r h a), describes r (suc g + genes l) g h.4 (apart_right g up l r h a))

    counts : (t : Tree) (g up : ℕ) → Numbered K g up t → Apart K g (g + genes t) → (x : ℕ) → g ≤ x → x < g + genes t → (child_count K x ≡ 0) ⊎ (child_count K x ≡ 2)
    unfolding genes child_count children
    counts (leaf s) g up h a x c d =
        let e : x ≡ g = omega arith in
        inl (rw e (count_zero K.count (λ y. same (K.parent y) g) (λ y ly uy. not_same (λ q. childless g (leaf_apart g s a) y (record { low = ly; high = uy }) q))))
    counts (pair l r) g up h a x c d = by_eq x g
        (λ e. let p = first_gene l (suc g) g (left_at g up l r h a) in
        let q = first_gene r (suc g + genes l) g (right_at g up l r h a) in
        inr (rw e (two_children K.count K.parent g (suc g) (suc g + genes l) p.0.low p.0.high q.0.low q.0.high
        (λ z. absurd (omega (arith, some_gene l))) p.1 q.1 (λ y ly uy z. members g up l r h a y (record { low = ly; high = uy }) z))))
        (λ e. by_less x (suc g + genes l)
        (λ f. counts l (suc g) g (left_at g up l r h a) (apart_left g up l r h a) x (omega arith) f)
        (λ f. counts r (suc g + genes l) g (right_at g up l r h a) (apart_right g up l r h a) x f (omega arith)))

  -- lines that are those of a subtree, from its first gene on
  abbrev line : ℕ → GeneLine
  line g = record { parent = K.parent g; species = K.species g }

  numbers : (t : Tree) (g up : ℕ) → 1 ≤ g → g + genes t ≤ suc K.count → ((i : ℕ) → i < genes t → line (g + i) ≡ get_or (lines_from g up t) i no_line) → Numbered K g up t
  unfolding Numbered genes lines_from
  numbers (leaf s) g up a b e =
      let z : line g ≡ record { parent = up; species = s } = ap line (omega arith) ∙ e 0 (omega arith) in
      (record { low = a; high = omega arith }, ap (λ x. x.parent) z, ap (λ x. x.species) z)
  numbers (pair l r) g up a b e =
      let z : line g ≡ record { parent = up; species = 0 } = ap line (omega arith) ∙ e 0 (omega arith) in
      let xs = lines_from (suc g) g l in
      let ys = lines_from (suc g + genes l) g r in
      let n : length xs ≡ genes l = length_lines l (suc g) g in (
        record { low = a; high = omega arith },
        ap (λ x. x.parent) z,
        ap (λ x. x.species) z,
        numbers l (suc g) g (omega arith) (omega arith) (λ i h. ap line (omega arith) ∙ e (suc i) (omega arith) ∙ get_or-append xs ys no_line i (omega arith)),
        numbers r (suc g + genes l) g (omega arith) (omega arith) (λ i h. ap line (omega arith) ∙ e (suc (genes l + i)) (omega arith)
            ∙ ap (λ (j : ℕ). get_or (xs ++ ys) (j + i) no_line) (sym n) ∙ get_or-append-add xs ys i no_line),
      )

-- lines describe one tree at most
module _ (K : GeneLines) where
  gene_of_lem : (t : Tree) (g : ℕ) → Describes K g t → Gene K g
  unfolding Describes
  gene_of_lem (leaf s) g d = d.gene
  gene_of_lem (pair l r) g d = d.2.gene

  pub one_described : (t t' : Tree) (g : ℕ) → Describes K g t → Describes K g t' → t ≡ t'
  unfolding Describes
  one_described (leaf s) (leaf s') g d d' = ap leaf (sym d.species_is ∙ d'.species_is)
  one_described (leaf s) (pair l r) g d d' = absurd (d.childless d'.0 (gene_of_lem l d'.0 d'.3) d'.2.left_child)
  one_described (pair l r) (leaf s) g d d' = absurd (d'.childless d.0 (gene_of_lem l d.0 d.3) d.2.left_child)
  one_described (pair l r) (pair l' r') g d d' =
      let a' : (d'.0 ≡ d.0) ⊎ (d'.0 ≡ d.1) = d.2.no_others d'.0 (gene_of_lem l' d'.0 d'.3) d'.2.left_child in
      let b' : (d'.1 ≡ d.0) ⊎ (d'.1 ≡ d.1) = d.2.no_others d'.1 (gene_of_lem r' d'.1 d'.4) d'.2.right_child in
      let b = d.2.order in
      let c = d'.2.order in
      let ea : d'.0 ≡ d.0 = ⊎_elim (λ q. q) (λ q. ⊎_elim (λ z. absurd (omega arith)) (λ z. absurd (omega arith)) b') a' in
      let eb : d'.1 ≡ d.1 = ⊎_elim (λ q. absurd (omega arith)) (λ q. q) b' in
      let el : l ≡ l' = one_described l l' d.0 d.3 (rw ea at d'.3) in
      let er : r ≡ r' = one_described r r' d.1 d.4 (rw eb at d'.4) in
      rw (el, er)

-- the gene lines of a tree
module _ (t : Tree) where
  abbrev K : GeneLines
  K = gene_lines_of t

  count_is : K.count ≡ genes t
  unfolding gene_lines_of
  count_is = refl

  -- "Genes are numbered as met from the left, each pair before its members"
  pub numbered : Numbered K 1 0 t
  unfolding gene_lines_of line_at
  numbered = numbers K t 1 0 (omega arith) (omega arith) (λ i h. let z : 1 + i ≡ suc i = omega arith in ap (line K) z)

  pub root_parent : K.parent 1 ≡ 0
  root_parent = (first_gene K t 1 0 numbered).1

  pub parent_below : (g : ℕ) → Gene K g → g ≢ 1 → (1 ≤ K.parent g) × (K.parent g < g)
  unfolding ParentIn
  parent_below g k d = ⊎_elim (λ q. absurd (d q.0)) (λ q. q) (parent_in K t 1 0 numbered g k.low (omega (arith, k.high, count_is)))

  below : (g : ℕ) → Gene K g → K.parent g < g
  below g k = by_eq g 1 (λ e. rw (e, root_parent) (omega arith)) (λ d. (parent_below g k d).1)

  apart : Apart K 1 (1 + genes t)
  unfolding Apart
  apart x k c = absurd (omega (arith, k.high, count_is))

  -- the tree that the lines describe is the tree that they are of
  pub described : Describes K 1 t
  described = describes K below t 1 0 numbered apart

  -- 12 never applies
  pub no_refusal12 : Refusal12 K → ⊥
  no_refusal12 (first_has_parent k d) = d root_parent
  no_refusal12 (no_parent g k d e) = let b = (parent_below g k d).0 in omega arith
  no_refusal12 (parent_not_below g k d l) = let b = (parent_below g k d).1 in omega arith
  no_refusal12 (children_amiss g k d e) = ⊎_elim d e (counts K below t 1 0 numbered apart g k.low (omega (arith, k.high, count_is)))

  pub passes_12 : refusal12 K ≡ false
  passes_12 = by_bool (refusal12 K) (λ y. absurd (no_refusal12 (from_12 K y))) (λ y. y)

-- so 12 never applies to what is read from a text
module _ (text : List ℕ) where
  found_12 : (f : Option Found) → refusal12 (lines_found f) ≡ false
  unfolding lines_found refusal12 any
  found_12 None = refl
  found_12 (Some f) = passes_12 f.tree

  pub read_12 : refusal12 (lines_read text) ≡ false
  unfolding lines_read
  read_12 = found_12 (tree_at text 0)
