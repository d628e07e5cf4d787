-- What the turns of the writing loops need: the choice by the table's words is the choice by least costs; a gene that starts at a node from which it has
-- a history leaves its children at such nodes; so each gene's start in the table is one when its turn comes.
-- Assumes nothing.
use Rattle.std.proofs.Common.{◌≡◌, refl, sym, ap, ◌∙◌, ◌⊎◌, inl, inr, Bool, List, [], ◌∷◌, ℕ, zero, suc, ◌+◌, ◌≤◌, ◌<◌, arith, length, get_or}
use mathlib.Core.Option.{some}
use Rattle.finite.specs.Tables.{at}
use Rattle.finite.proofs.Cases.{by_eq}
use Rattle.histories.specs.Histories.{Family, Gene, tip, pair, Cost, ◌⊕◌, then as added, least, overall}
use Rattle.histories.specs.inner.Grades.{Graded}
use Rattle.reconciliation.specs.Limits.{Limits}
use Rattle.tellings.specs.inner.Lineages.{Levels}
use Rattle.tellings.specs.inner.Lineages.{Lineage}
use Rattle.tellings.specs.Steps.{Step, rests, speciates, duplicates, transfers, loses_going_down, loses_by_transfer, passes_free, code, step_cost, first, second, numbered}
use Rattle.tellings.specs.Chosen.{options, Onward, ends, splits, goes, onward, beyond, total, same_cost, pick, choice}
use Rattle.tellings.specs.inner.Walks.{MayStart, walk, leave, starts}
use Rattle.tellings.specs.Shown.{Way, last, before, LinesFit}
use Rattle.tellings.proofs.StepNumbers.{code_low}
use Rattle.tellings.proofs.Leads.{To, Lower, leads_lower, near_node}
use Rattle.tellings.proofs.Options.{Among, now, then, begun}
use Rattle.tellings.proofs.Chosen.{costs_same, at_cost, chooses, of_move, of_parts}
use Rattle.tellings.proofs.First.{some_start, start_is}
use Rattle.tellings.proofs.Walks.{walk_ends, walk_splits, walk_goes, leave_splits, leave_goes, pair_goes_on}
use Rattle.tellings.proofs.Rising.{keep, turn, up_less, first_start}

pick_same : (f k : Step → Bool) (l : List Step) → ((s : Step) → Among s l → f s ≡ k s) → pick f l ≡ pick k l
unfolding pick
pick_same f k [] e = refl
pick_same f k (s ∷ l) e = rw (e s now, pick_same f k l (λ t m. e t (then m)))

-- codes by what follows
Coded : ℕ → Onward → Type 0
Coded c ends = c ≤ 3
Coded c (splits p q) = c ≤ 3
Coded c (goes w) = 4 ≤ c

coded : (s : Step) → Coded (code s) (onward s)
unfolding Coded onward code
coded rests = omega arith
coded (speciates p q) = omega arith
coded (duplicates v) = omega arith
coded (transfers p q) = omega arith
coded (loses_going_down w) = omega arith
coded (loses_by_transfer w) = omega arith
coded (passes_free w) = omega arith

-- the nodes that a step sends children to, and the node that it moves on to
sends : (s : Step) (p q : ℕ) → onward s ≡ splits p q → onward s ≡ splits (first s) (second s)
unfolding onward first second
sends rests p q e = absurd (let z : ◌≡◌ {A = ℕ} 0 1 = cc in omega arith)
sends (speciates a b) p q e = refl
sends (duplicates v) p q e = refl
sends (transfers a b) p q e = refl
sends (loses_going_down w) p q e = absurd (let z : ◌≡◌ {A = ℕ} 0 1 = cc in omega arith)
sends (loses_by_transfer w) p q e = absurd (let z : ◌≡◌ {A = ℕ} 0 1 = cc in omega arith)
sends (passes_free w) p q e = absurd (let z : ◌≡◌ {A = ℕ} 0 1 = cc in omega arith)

moves_to : (s : Step) (w : ℕ) → onward s ≡ goes w → first s ≡ w
unfolding onward first
moves_to rests w e = absurd (let z : ◌≡◌ {A = ℕ} 0 1 = cc in omega arith)
moves_to (speciates a b) w e = absurd (let z : ◌≡◌ {A = ℕ} 0 1 = cc in omega arith)
moves_to (duplicates v) w e = absurd (let z : ◌≡◌ {A = ℕ} 0 1 = cc in omega arith)
moves_to (transfers a b) w e = absurd (let z : ◌≡◌ {A = ℕ} 0 1 = cc in omega arith)
moves_to (loses_going_down x) w e = cc
moves_to (loses_by_transfer x) w e = cc
moves_to (passes_free x) w e = cc

-- a line of small numbers
abbrev Fits : Family → (g k v : ℕ) → Step → Type 0
Fits F g k v s = (i : ℕ) → get_or (g ∷ suc k ∷ v ∷ code s ∷ step_cost F.costs s ∷ []) i 0 < 1000000

cost_low : (F : Family) → Limits F.nodes F.genes F.costs → (s : Step) → step_cost F.costs s ≤ 198
unfolding step_cost
cost_low F lim rests = omega arith
cost_low F lim (speciates p q) = omega arith
cost_low F lim (duplicates v) = omega (arith, lim.duplication)
cost_low F lim (transfers p q) = omega (arith, lim.transfer)
cost_low F lim (loses_going_down w) = omega (arith, lim.loss)
cost_low F lim (loses_by_transfer w) = omega (arith, lim.transfer, lim.loss)
cost_low F lim (passes_free w) = omega arith

fits : (F : Family) → Limits F.nodes F.genes F.costs → (g k v : ℕ) (s : Step) → g ≤ 127 → k ≤ 254 → v ≤ 127 → Fits F g k v s
fits F lim g k v s ug uk uv zero = omega arith
fits F lim g k v s ug uk uv (suc zero) = omega arith
fits F lim g k v s ug uk uv (suc (suc zero)) = omega arith
fits F lim g k v s ug uk uv (suc (suc (suc zero))) = omega (arith, code_low s)
fits F lim g k v s ug uk uv (suc (suc (suc (suc zero)))) = omega (arith, cost_low F lim s)
fits F lim g k v s ug uk uv (suc (suc (suc (suc (suc i))))) = omega arith

-- one step, and what follows it, in one way
pub some_one : {s t : Step} → some s ≡ some t → s ≡ t
some_one e = cc

pub ends_splits : {p q : ℕ} → ends ≡ splits p q → ⊥
ends_splits e = let z : ◌≡◌ {A = ℕ} 0 1 = cc in omega arith

ends_goes : {w : ℕ} → ends ≡ goes w → ⊥
ends_goes e = let z : ◌≡◌ {A = ℕ} 0 1 = cc in omega arith

pub goes_splits : {w p q : ℕ} → goes w ≡ splits p q → ⊥
goes_splits e = let z : ◌≡◌ {A = ℕ} 0 1 = cc in omega arith

pub splits_one : {x y p q : ℕ} → splits x y ≡ splits p q → (x ≡ p) × (y ≡ q)
splits_one e = (cc, cc)

goes_one : {u w : ℕ} → goes u ≡ goes w → u ≡ w
goes_one e = cc

module _ (F : Family) (ok : Graded F) (plan : Levels F) where
  open F use {gene, genes, nodes}

  -- two tables that agree on genes and nodes choose alike
  module _ (W Y : ℕ → ℕ → Cost) (agree : (g v : ℕ) → 1 ≤ g → g ≤ genes → 1 ≤ v → v ≤ nodes → W g v ≡ Y g v) (g v : ℕ) (lg : 1 ≤ g) (ug : g ≤ genes) (lv : 1 ≤ v) (uv : v ≤ nodes) where
    beyond_same : (K : Gene) → gene g ≡ K → (o : Onward) → To F (Lower F plan v lv uv) v o → beyond W g K o ≡ beyond Y g K o
    unfolding beyond To
    beyond_same K k ends h = refl
    beyond_same (tip s) k (splits p q) h = refl
    beyond_same (pair a b) k (splits p q) h =
        let la = ok.left_more g a b k in let lb = ok.right_more g a b k in
        let x = near_node F plan v lv uv p h.0 in let y = near_node F plan v lv uv q h.1 in
        rw (agree a p (omega arith) (ok.left_in g a b k) x.0 x.1, agree b q (omega arith) (ok.right_in g a b k) y.0 y.1)
    beyond_same K k (goes w) h = agree g w lg ug h.0 h.1

    pub choice_same : choice F W g v ≡ choice F Y g v
    unfolding choice total
    choice_same = pick_same (λ s. same_cost (total F W g s) (W g v)) (λ s. same_cost (total F Y g s) (Y g v)) (options F g v)
        (λ s m. rw (beyond_same (gene g) refl (onward s) (leads_lower F plan v lv uv g m), agree g v lg ug lv uv))

  -- the step that is taken there, and what is good after it
  pub data Taken (g v : ℕ) : Type 0 where
    takes_end : (s : Step) → choice F (least F) g v ≡ some s → Among s (options F g v) → onward s ≡ ends → Taken g v
    takes_parts : (s : Step) {a b p q : ℕ} → choice F (least F) g v ≡ some s → Among s (options F g v) → gene g ≡ pair a b → onward s ≡ splits p q → MayStart F a p → MayStart F b q → Taken g v
    takes_move : (s : Step) {w : ℕ} → choice F (least F) g v ≡ some s → Among s (options F g v) → onward s ≡ goes w → MayStart F g w → plan.level w < plan.level v → Taken g v

  pub taken : (g v : ℕ) → MayStart F g v → Taken g v
  unfolding total beyond To added ◌⊕◌
  taken g v good =
      let h = at_cost F ok g v good.cost good.finite in
      let r = chooses F ok g v h.0 (good.finite ∙ ap some (sym h.1)) (begun F h.0) in
      by r.it r.is r.among (gene g) refl (onward r.it) refl (leads_lower F plan v good.low good.high g r.among) (costs_same _ _ r.passing ∙ good.finite)
    where
      by : (s : Step) → choice F (least F) g v ≡ some s → Among s (options F g v) → (K : Gene) → gene g ≡ K → (o : Onward) → onward s ≡ o → To F (Lower F plan v good.low good.high) v o → added (step_cost F.costs s) (beyond (least F) g K o) ≡ some good.cost → Taken g v
      by s is m K k ends o h t = takes_end s is m o
      by s is m (tip u) k (splits y z) o h t = let z : ◌≡◌ {A = ℕ} 0 1 = cc in absurd (omega arith)
      by s is m (pair a b) k (splits y z) o h t =
          let r = of_parts (step_cost F.costs s) (least F a y) (least F b z) good.cost t in
          let p = near_node F plan v good.low good.high y h.0 in let q = near_node F plan v good.low good.high z h.1 in
          takes_parts s is m k o (record { low = p.0; high = p.1; cost = r.0; finite = r.2 }) (record { low = q.0; high = q.1; cost = r.1; finite = r.3 })
      by s is m K k (goes w) o h t =
          let r = of_move (step_cost F.costs s) (least F g w) good.cost t in
          takes_move s is m o (record { low = h.0; high = h.1; cost = r.0; finite = r.1 }) h.2

  -- a walk has at most as many lines as its node's level
  walk_short : (k g v : ℕ) → plan.level v < k → MayStart F g v → length (walk F g v) ≤ plan.level v
  walk_short zero g v l good = absurd (omega arith)
  walk_short (suc k) g v l good = by (taken g v good) (λ w. walk_short k g w)
    where
      low : 1 ≤ plan.level v
      low = plan.level_low v good.low good.high

      by : Taken g v → ((w : ℕ) → plan.level w < k → MayStart F g w → length (walk F g w) ≤ plan.level w) → length (walk F g v) ≤ plan.level v
      by (takes_end s is m o) all = rw (walk_ends F ok g v s is o) low
      by (takes_parts s is m n o a b) all = rw (walk_splits F ok g v s is o) low
      by (takes_move s {w} is m o a h) all = rw (walk_goes F ok g v s is o) (omega (arith, all w (omega arith) a))

  -- where a gene moves on, it may start
  pub may_go : (g v : ℕ) (s : Step) {w : ℕ} → MayStart F g v → choice F (least F) g v ≡ some s → onward s ≡ goes w → MayStart F g w
  may_go g v s {w} good is o = by (taken g v good)
    where
      same_step : (t : Step) → choice F (least F) g v ≡ some t → onward t ≡ goes w
      same_step t e = let q : some t ≡ some s = sym e ∙ is in rw (some_one q) o

      by : Taken g v → MayStart F g w
      by (takes_end t e m o) = absurd (ends_goes (sym o ∙ same_step t e))
      by (takes_parts t e m k o x y) = absurd (goes_splits (sym (same_step t e) ∙ o))
      by (takes_move t e m o x l) = rw (← goes_one (sym o ∙ same_step t e)) x

  pub walk_length : (g v : ℕ) → MayStart F g v → length (walk F g v) ≤ nodes
  walk_length g v good = omega (arith, walk_short (suc (plan.level v)) g v (omega arith) good, plan.level_high v good.low good.high)

  -- its lines, numbered from k + 1, fit six columns
  fits_in : (r g k v : ℕ) → plan.level v < r → Limits F.nodes F.genes F.costs → g ≤ 127 → k + plan.level v ≤ 254 → MayStart F g v → LinesFit (numbered F g k (walk F g v))
  unfolding numbered LinesFit
  fits_in zero g k v l lim ug uk good = absurd (omega arith)
  fits_in (suc r) g k v l lim ug uk good = by (taken g v good) (λ w. fits_in r g (suc k) w)
    where
      this : (s : Step) → Fits F g k v s
      this s = fits F lim g k v s ug (omega arith) (omega (arith, good.high, lim.few_nodes))

      by : Taken g v → ((w : ℕ) → plan.level w < r → Limits F.nodes F.genes F.costs → g ≤ 127 → suc k + plan.level w ≤ 254 → MayStart F g w → LinesFit (numbered F g (suc k) (walk F g w))) → LinesFit (numbered F g k (walk F g v))
      by (takes_end s is m o) all = rw (walk_ends F ok g v s is o) (this s, tt)
      by (takes_parts s is m n o a b) all = rw (walk_splits F ok g v s is o) (this s, tt)
      by (takes_move s {w} is m o a h) all = rw (walk_goes F ok g v s is o) (this s, all w (omega arith) lim ug (omega arith) a)

  pub fits_columns : (g v : ℕ) → Limits F.nodes F.genes F.costs → g ≤ 127 → MayStart F g v → LinesFit (numbered F g 0 (walk F g v))
  fits_columns g v lim ug good = fits_in (suc (plan.level v)) g 0 v (omega arith) lim ug (omega (arith, plan.level_high v good.low good.high, lim.few_nodes)) good

  -- its lines lead on from node to node, and its last one sends the children where it leaves them
  abbrev Goes : (g v : ℕ) → Type 0
  Goes g v = (p q : ℕ) × Way v (walk F g v) p q × ((a b : ℕ) → gene g ≡ pair a b → leave F g v ≡ splits p q)

  way_in : (k g v : ℕ) → plan.level v < k → MayStart F g v → Goes g v
  unfolding Coded
  way_in zero g v l good = absurd (omega arith)
  way_in (suc k) g v l good = by (taken g v good) (λ w. way_in k g w)
    where
      by : Taken g v → ((w : ℕ) → plan.level w < k → MayStart F g w → Goes g w) → Goes g v
      by (takes_end s is m o) all = (first s, second s, rw (walk_ends F ok g v s is o) (last (rw o at (coded s))), λ a b n. absurd (pair_goes_on F ok g v a b s n m o))
      by (takes_parts s {p} {q} is m n o x y) all = (first s, second s, rw (walk_splits F ok g v s is o) (last (rw o at (coded s))), λ a b n. leave_splits F ok g v s is (sends s p q o))
      by (takes_move s {w} is m o x h) all =
          let r = all w (omega arith) x in
          (r.0, r.1, rw (walk_goes F ok g v s is o) (before {p = r.0} {q = r.1} {l = walk F g w} (rw o at (coded s)) (rw (moves_to s w o) r.2)), λ a b n. leave_goes F ok g v s is o ∙ r.3 a b n)

  pub way : (g v : ℕ) → MayStart F g v → Goes g v
  way g v good = way_in (suc (plan.level v)) g v (omega arith) good

  -- a gene leaves its children where they may start
  abbrev Leaves : (g v a b : ℕ) → Type 0
  Leaves g v a b = (p q : ℕ) × (leave F g v ≡ splits p q) × MayStart F a p × MayStart F b q

  leave_good : (k g v a b : ℕ) → plan.level v < k → gene g ≡ pair a b → MayStart F g v → Leaves g v a b
  leave_good zero g v a b l n good = absurd (omega arith)
  leave_good (suc k) g v a b l n good = by (taken g v good) (λ w. leave_good k g w a b)
    where
      by : Taken g v → ((w : ℕ) → plan.level w < k → gene g ≡ pair a b → MayStart F g w → Leaves g w a b) → Leaves g v a b
      by (takes_end s is m o) all = absurd (pair_goes_on F ok g v a b s n m o)
      by (takes_parts s {a = c} {b = d} {p} {q} is m i o x y) all = let e : pair c d ≡ pair a b = sym i ∙ n in let f : c ≡ a = cc in let g : d ≡ b = cc in (p, q, leave_splits F ok _ v s is o, rw f at x, rw g at y)
      by (takes_move s {w} is m o x h) all = let r = all w (omega arith) n x in (r.0, r.1, leave_goes F ok g v s is o ∙ r.2, r.3, r.4)

  module _ (tree : Lineage F) (few : genes ≤ 127) (c : ℕ) (whole : overall F ≡ some c) where
    its_turn : (z x : ℕ) → 1 ≤ x → x ≤ genes → tree.up x ≡ suc z → MayStart F (suc z) (at (starts F z) (suc z)) → MayStart F x (at (starts F (suc z)) x)
    its_turn z x lx ux e good =
        let l = up_less F ok tree few x lx in
        let r = tree.child x (omega arith) ux in
        let n : gene (suc z) ≡ pair r.0 r.1 = ap gene (sym e) ∙ r.2 in
        let w = leave_good (suc (plan.level (at (starts F z) (suc z)))) (suc z) (at (starts F z) (suc z)) r.0 r.1 (omega arith) n good in
        let t = turn F ok tree few z r.0 r.1 w.0 w.1 n w.2 in
        which r.3 t.0 t.1 w.3 w.4
      where
        which : {a b p q : ℕ} → (x ≡ a) ⊎ (x ≡ b) → at (starts F (suc z)) a ≡ p → at (starts F (suc z)) b ≡ q → MayStart F a p → MayStart F b q → MayStart F x (at (starts F (suc z)) x)
        which (inl i) f h y w = rw (i, f) y
        which (inr i) f h y w = rw (i, h) w

    -- after the turns of the first i genes each of their children has its start
    pub ready : (i x : ℕ) → i ≤ genes → 1 ≤ x → x ≤ genes → tree.up x ≤ i → MayStart F x (at (starts F i) x)
    ready zero x ui lx ux u = by_eq x 1 (λ e. rw e (rw (first_start F ok tree few) (record { low = omega (arith, some_start F ok c whole); high = (start_is F ok c whole).0; cost = c; finite = (start_is F ok c whole).1 })))
        (λ d. absurd (omega (arith, tree.up_low x (omega arith) ux)))
    ready (suc z) x ui lx ux u = by_eq (tree.up x) (suc z) (λ e. its_turn z x lx ux e (ready z (suc z) (omega arith) (omega arith) ui (omega (arith, up_less F ok tree few (suc z) (omega arith))))) (λ d. rw (keep F ok tree few z x d) (ready z x (omega arith) lx ux (omega arith)))
