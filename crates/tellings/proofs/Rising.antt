-- A parent has a lower number than its children, so the table of starts, filled genes rising, has each gene's start when its turn comes, and keeps it.
-- The walks from these starts are the lines of the chosen history.
-- Assumes nothing.
use Rattle.std.proofs.Common.{◌≡◌, refl, sym, ap, ◌∙◌, ◌≢◌, true, List, ℕ, zero, suc, ◌+◌, ◌-◌, ◌≤◌, ◌<◌, arith, length, set, length-set, get_or-set_same, get_or-set_other}
use mathlib.Core.Option.{some}
use Rattle.finite.specs.Tables.{at, zeros}
use Rattle.finite.proofs.Cases.{by_eq, measure}
use Rattle.finite.proofs.Tables.{zeros_long}
use Rattle.topology.proofs.Climbing.{over_self, over_up}
use Rattle.histories.specs.Histories.{Family, Gene, tip, pair, overall}
use Rattle.histories.specs.inner.Grades.{Graded}
use Rattle.tellings.specs.inner.Lineages.{Lineage}
use Rattle.tellings.specs.Chosen.{Onward, ends, splits, goes, chosen_start, chosen_steps}
use Rattle.tellings.specs.inner.Walks.{walk, leave, settle, starts}
use Rattle.tellings.proofs.Told.{above}
use Rattle.tellings.proofs.Walks.{Fits, Tells, tells}
use Rattle.tellings.proofs.First.{start_is, enough}

settle_long : (K : Gene) (o : Onward) (t : List ℕ) → length (settle K o t) ≡ length t
unfolding settle
settle_long (tip s) o t = refl
settle_long (pair a b) ends t = refl
settle_long (pair a b) (splits p q) t = rw (length-set, length-set)
settle_long (pair a b) (goes w) t = refl

settle_keeps : (K : Gene) (o : Onward) (t : List ℕ) (i : ℕ) → ((a b : ℕ) → K ≡ pair a b → (i ≢ a) × (i ≢ b)) → at (settle K o t) i ≡ at t i
unfolding settle
settle_keeps (tip s) o t i d = refl
settle_keeps (pair a b) ends t i d = refl
settle_keeps (pair a b) (splits p q) t i d = let r = d a b refl in get_or-set_other (set t a p) b i q 0 r.1 ∙ get_or-set_other t a i p 0 r.0
settle_keeps (pair a b) (goes w) t i d = refl

module _ (F : Family) (ok : Graded F) (tree : Lineage F) (few : F.genes ≤ 127) where
  open F use {gene, genes}

  long : (x : ℕ) → length (starts F x) ≡ 128
  unfolding starts
  long zero = rw length-set zeros_long
  long (suc x) = settle_long (gene (suc x)) _ (starts F x) ∙ long x

  -- a gene's start changes at its parent's turn only
  pub keep : (z i : ℕ) → tree.up i ≢ suc z → at (starts F (suc z)) i ≡ at (starts F z) i
  unfolding starts
  keep z i d = settle_keeps (gene (suc z)) _ (starts F z) i (λ a b k. (λ e. d (rw e (tree.left_up (suc z) a b k)), λ e. d (rw e (tree.right_up (suc z) a b k))))

  pub keeps : (y z i : ℕ) → y ≤ z → tree.up i ≤ y → at (starts F z) i ≡ at (starts F y) i
  keeps y zero i l u = let e : y ≡ 0 = omega arith in rw e
  keeps y (suc z) i l u = by_eq y (suc z) (λ e. rw e) (λ d. keep z i (λ e. omega arith) ∙ keeps y z i (omega arith) u)

  pub up_less : (x : ℕ) → 1 ≤ x → tree.up x < x
  up_less x l = tree.falls.fall x (λ e. omega arith)

  abbrev T : ℕ → ℕ
  T x = at (starts F genes) x

  -- the turn of gene z + 1 settles where its children start
  pub turn : (z a b p q : ℕ) → gene (suc z) ≡ pair a b → leave F (suc z) (at (starts F z) (suc z)) ≡ splits p q → (at (starts F (suc z)) a ≡ p) × (at (starts F (suc z)) b ≡ q)
  unfolding starts settle
  turn z a b p q k e =
      let l = long z in let ua = ok.left_in (suc z) a b k in let ub = ok.right_in (suc z) a b k in let ab = tree.lower_first (suc z) a b k in
      let l₂ : length (set (starts F z) a p) ≡ 128 = rw length-set l in (
        rw (k, e) (get_or-set_other (set (starts F z) a p) b a q 0 (λ r. omega arith) ∙ get_or-set_same (starts F z) a p 0 (omega arith)),
        rw (k, e) (get_or-set_same (set (starts F z) a p) b q 0 (omega arith)),
      )

  -- so a gene's children start where its last step sends them
  pub sent : (x a b p q : ℕ) → 1 ≤ x → gene x ≡ pair a b → leave F x (at (starts F (x - 1)) x) ≡ splits p q → (at (starts F (a - 1)) a ≡ p) × (at (starts F (b - 1)) b ≡ q)
  sent zero a b p q l k e = absurd (omega arith)
  sent (suc z) a b p q l k e =
      let n : suc z - 1 ≡ z = omega arith in
      let t = turn z a b p q k (rw n at e) in
      let la = ok.left_more (suc z) a b k in let lb = ok.right_more (suc z) a b k in (
        keeps (suc z) (a - 1) a (omega arith) (omega (arith, tree.left_up (suc z) a b k)) ∙ t.0,
        keeps (suc z) (b - 1) b (omega arith) (omega (arith, tree.right_up (suc z) a b k)) ∙ t.1,
      )

  settled : (y : ℕ) → 1 ≤ y → y ≤ genes → Fits F ok tree T y (T y)
  unfolding Fits
  settled zero ly uy = absurd (omega arith)
  settled (suc z) ly uy = λ a b p q k e.
      let s = keeps z genes (suc z) (omega arith) (omega (arith, up_less (suc z) ly)) in
      let t = turn z a b p q k (rw s at e) in
      (keeps (suc z) genes a uy (omega (arith, tree.left_up (suc z) a b k)) ∙ t.0, keeps (suc z) genes b uy (omega (arith, tree.right_up (suc z) a b k)) ∙ t.1)

  -- every gene is below gene 1
  all_below : (x : ℕ) → 1 ≤ x → x ≤ genes → above F ok tree 1 x ≡ true
  all_below = measure (λ x. x) (λ x. 1 ≤ x → x ≤ genes → above F ok tree 1 x ≡ true)
      (λ x ih l u. by_eq x 1 (λ e. rw e (over_self (λ y. y) tree.up tree.falls 1))
      (λ d. over_up (λ y. y) tree.up tree.falls 1 x (ih (tree.up x) (up_less x l) (tree.up_low x (omega arith) u) (omega (arith, up_less x l)))))

  pub first_start : at (starts F 0) 1 ≡ chosen_start F
  unfolding starts
  first_start = get_or-set_same zeros 1 (chosen_start F) 0 (omega (arith, zeros_long))

  start_one : T 1 ≡ chosen_start F
  start_one = keeps 0 genes 1 (omega arith) (omega (arith, up_less 1 (omega arith))) ∙ first_start

  -- the chosen history, gene by gene
  pub rising : (c : ℕ) → overall F ≡ some c → (x : ℕ) → 1 ≤ x → x ≤ genes → chosen_steps F x ≡ walk F x (at (starts F (x - 1)) x)
  unfolding chosen_steps Tells
  rising c whole x lx ux =
      let r = tells F ok tree T settled x ux (suc (genes + F.nodes)) 1 (chosen_start F) c (enough F ok c whole (chosen_start F)) (omega arith) (omega arith) (start_is F ok c whole).1 (rw start_one at (settled 1 (omega arith) (omega arith))) (all_below x lx ux) in
      by_eq x 1 (λ e. r.0 e ∙ first_gene e) (λ d. r.1 d) ∙ ap (walk F x) (keeps (x - 1) genes x (omega arith) (omega (arith, up_less x lx)))
    where
      first_gene : x ≡ 1 → walk F 1 (chosen_start F) ≡ walk F x (T x)
      first_gene e = rw e (ap (walk F 1) (sym start_one))
