-- The table in the scratch: gene and node tell the places apart, every place below genes × nodes has a gene and a node, and so words that hold every
-- row are the table, followed by what was there.
-- Assumes nothing.
use mathlib.Core.Path.{fun_ext}
use Rattle.std.proofs.Common.{◌≡◌, refl, sym, ap, ◌∙◌, ◌≢◌, ◌⊎◌, inl, inr, List, ◌++◌, ℕ, zero, suc, ◌+◌, ◌-◌, ◌*◌, ◌/◌, ◌%◌, ◌≤◌, ◌<◌, mul-le-mul_right, suc-mul, add-zero, div-lt_iff_lt-mul, div-add-mod', mod-lt, arith, get_or, length, set, drop, length-append, length-drop, get_or-set_same, get_or-set_other, get_or-append-add, get_or-drop, ext_get_or}
use lib.ListN.{get_or-append}
use Rattle.finite.proofs.Cases.{by_eq, by_less, by_order}
use Rattle.histories.specs.Histories.{Family, least}
use Rattle.histories.specs.Words.{word, cost_of, cell, listed, word_at, words}
use Rattle.histories.specs.inner.Rows.{row, cost_at, Rows, Kept}
use Rattle.histories.proofs.Words.{word_cost}

before : (g n : ℕ) → (suc g - 1) * n ≡ g * n
before g n = let e : suc g - 1 ≡ g = omega arith in ap (λ x. x * n) e

-- a lower row lies before
rows_apart : (n g h : ℕ) → 1 ≤ g → g < h → (g - 1) * n + n ≤ (h - 1) * n
rows_apart n (suc g) h l u = omega (arith, suc-mul g n, mul-le-mul_right n (under h u), before g n)
  where
    under : (h : ℕ) → suc g < h → suc g ≤ h - 1
    under h u = omega arith
rows_apart n zero h l u = absurd (omega arith)

pub cell_in : (n m g v : ℕ) → 1 ≤ g → g ≤ m → 1 ≤ v → v ≤ n → cell n g v < m * n
unfolding cell
cell_in n m g v lg ug lv uv = omega (arith, rows_apart n g (suc m) lg (omega arith), before m n)

cell_apart : (n g v h u : ℕ) → 1 ≤ g → 1 ≤ h → 1 ≤ v → v ≤ n → 1 ≤ u → u ≤ n → cell n g v ≡ cell n h u → (g ≡ h) × (v ≡ u)
unfolding cell
cell_apart n g v h u lg lh lv uv lu uu e = by_order g h
    (λ l. absurd (omega (arith, rows_apart n g h lg l)))
    (λ q. (q, omega (arith, ap (λ x. (x - 1) * n) q)))
    (λ l. absurd (omega (arith, rows_apart n h g lh l)))

-- a word written at a cell is the row's cost there, and every other cell keeps its cost
pub row_here : (n : ℕ) (s : List ℕ) (g v w : ℕ) → cell n g v < length s → row n (set s (cell n g v) w) g v ≡ cost_of w
unfolding row
row_here n s g v w l = ap cost_of (get_or-set_same s (cell n g v) w 0 l)

pub row_there : (n : ℕ) (s : List ℕ) (g v h u w : ℕ) → 1 ≤ g → 1 ≤ h → 1 ≤ v → v ≤ n → 1 ≤ u → u ≤ n → (h ≢ g) ⊎ (u ≢ v) → row n (set s (cell n g v) w) h u ≡ row n s h u
unfolding row
row_there n s g v h u w lg lh lv uv lu uu d = ap cost_of (get_or-set_other s (cell n g v) (cell n h u) w 0 (λ e. other d (cell_apart n h u g v lh lg lu uu lv uv e)))
  where
    other : (h ≢ g) ⊎ (u ≢ v) → (h ≡ g) × (u ≡ v) → ⊥
    other (inl d) p = d p.0
    other (inr d) p = d p.1

-- the words from a row's start on hold the row
pub row_costs : (n : ℕ) (s : List ℕ) (g r : ℕ) → r ≡ (g - 1) * n → cost_at (drop r s) ≡ row n s g
unfolding cost_at row cell
row_costs n s g r e = fun_ext (λ v. ap cost_of (rw e (get_or-drop ((g - 1) * n) s (v - 1) 0)))

length_listed : (f : ℕ → ℕ) (a k : ℕ) → length (listed f a k) ≡ k
unfolding listed
length_listed f a zero = refl
length_listed f a (suc k) = ap suc (length_listed f (suc a) k)

get_or_listed : (f : ℕ → ℕ) (a k i : ℕ) → i < k → get_or (listed f a k) i 0 ≡ f (a + i)
unfolding listed
get_or_listed f a zero i h = absurd (omega arith)
get_or_listed f a (suc k) zero h = ap f (sym (add-zero a))
get_or_listed f a (suc k) (suc i) h = get_or_listed f (suc a) k i (omega arith) ∙ ap f (omega arith)

module _ (F : Family) where
  open F use {nodes, genes}

  -- the gene and the node of a place
  place_of : (i : ℕ) → i < genes * nodes → (cell nodes (suc (i / nodes)) (suc (i % nodes)) ≡ i) × (suc (i / nodes) ≤ genes) × (suc (i % nodes) ≤ nodes)
  unfolding cell
  place_of i l = by_eq nodes 0
      (λ e. absurd (omega (arith, ap (λ x. genes * x) e)))
      (λ d. let p : 0 < nodes = omega arith in
      (omega (arith, div-add-mod' i nodes, before (i / nodes) nodes), (div-lt_iff_lt-mul p).1 l, mod-lt i p))

  pub length_words : length (words F) ≡ genes * nodes
  unfolding words
  length_words = length_listed (word_at F) 0 (genes * nodes)

  -- the table's word at the place of gene g and node v
  pub word_at_lem : (g v : ℕ) → 1 ≤ g → g ≤ genes → 1 ≤ v → v ≤ nodes → get_or (words F) (cell nodes g v) 0 ≡ word (least F g v)
  unfolding words word_at
  word_at_lem g v lg ug lv uv =
      let i : ℕ = cell nodes g v in
      let u = cell_in nodes genes g v lg ug lv uv in
      let p = place_of i u in
      let q = cell_apart nodes (suc (i / nodes)) (suc (i % nodes)) g v (omega arith) lg (omega arith) p.2 lv uv p.0 in
      get_or_listed (word_at F) 0 (genes * nodes) i u ∙ ap (word_at F) (omega arith) ∙ ap (λ (x : ℕ). word (least F x (suc (i % nodes)))) q.0 ∙ ap (λ (x : ℕ). word (least F g x)) q.1

  table_inside : (t : List ℕ) → Rows F t 0 → (i : ℕ) → i < genes * nodes → get_or t i 0 ≡ get_or (words F) i 0
  unfolding words word_at row
  table_inside t r i u =
      let p = place_of i u in
      let q : cost_of (get_or t i 0) ≡ least F (suc (i / nodes)) (suc (i % nodes)) =
      rw p.0 at (r.holds (suc (i / nodes)) (suc (i % nodes)) (omega arith) p.1 (omega arith) p.2) in
      sym (word_cost (get_or t i 0)) ∙ ap word q ∙ sym (get_or_listed (word_at F) 0 (genes * nodes) i u ∙ ap (word_at F) (omega arith))

  -- words that hold every row's least costs are the table, then what was there
  pub is_words : (s t : List ℕ) → Kept F s t → Rows F t 0 → genes * nodes ≤ length s → t ≡ words F ++ drop (genes * nodes) s
  is_words s t k r l = ext_get_or 0 t (words F ++ drop (genes * nodes) s)
      (k.long ∙ sym (length-append (words F) (drop (genes * nodes) s) ∙ omega (arith, length_words, length-drop (genes * nodes) s)))
      (λ i _. by_less i (genes * nodes)
      (λ u. table_inside t r i u ∙ sym (get_or-append (words F) (drop (genes * nodes) s) 0 i (omega (arith, length_words))))
      (λ u. outer i (i - genes * nodes) (omega (arith, length_words)) (omega arith) u))
    where
      outer : (i j : ℕ) → i ≡ length (words F) + j → i ≡ genes * nodes + j → genes * nodes ≤ i → get_or t i 0 ≡ get_or (words F ++ drop (genes * nodes) s) i 0
      outer i j e f u = k.rest i u ∙ ap (λ x. get_or s x 0) f ∙ sym (rw e (get_or-append-add (words F) (drop (genes * nodes) s) j 0 ∙ get_or-drop (genes * nodes) s j 0))
