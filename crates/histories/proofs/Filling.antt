-- Filling the table: a word computed from the rows of the children and from nodes further down is the least cost, so a row is filled node by node in
-- an order in which arcs out come first, and the table gene by gene from the last.
-- Assumes nothing.
use Rattle.std.proofs.Common.{◌≡◌, refl, sym, ◌∙◌, inl, inr, List, ℕ, ◌-◌, ◌*◌, ◌≤◌, ◌<◌, arith, length, set, length-set, drop, length-drop, get_or-set_other}
use mathlib.Core.Option.{none, some}
use Rattle.finite.proofs.Cases.{by_eq, by_less}
use Rattle.histories.specs.Histories.{Cost, parting, moving, ending, stepping, clauses, least, Out, leaf, one, two, mixed, Gene, tip, pair, Family}
use Rattle.histories.specs.inner.Grades.{Leads, Prepared}
use Rattle.histories.specs.Words.{cost_of, cell}
use Rattle.histories.specs.inner.Rows.{row, Small, Cell, Rows, Partly, Kept}
use Rattle.histories.proofs.Least.{equation}
use Rattle.histories.proofs.Bound.{least_bound}
use Rattle.histories.proofs.Cells.{cell_in, row_here, row_there, row_costs}

leads_map : (P Q : ℕ → Type 0) (o : Out) → ((x : ℕ) → P x → Q x) → Leads P o → Leads Q o
unfolding Leads
leads_map P Q (leaf s) f l = tt
leads_map P Q (one x) f l = f x l
leads_map P Q (two x y) f l = (f x l.0, f y l.1)
leads_map P Q (mixed x y) f l = (f x l.0, f y l.1)

-- the clauses depend on the rows at v and at the ends only
parting_same : (t : ℕ) (A B A' B' : ℕ → Cost) (v : ℕ) (o : Out) → A v ≡ A' v → B v ≡ B' v → Leads (λ x. A x ≡ A' x) o → Leads (λ x. B x ≡ B' x) o → parting t A B v o ≡ parting t A' B' v o
unfolding parting Leads
parting_same t A B A' B' v (leaf s) a b p q = refl
parting_same t A B A' B' v (one x) a b p q = refl
parting_same t A B A' B' v (two x y) a b p q = rw (p.0, p.1, q.0, q.1)
parting_same t A B A' B' v (mixed x y) a b p q = rw (a, b, p.0, p.1, q.0, q.1)

moving_same : (t l : ℕ) (G G' : ℕ → Cost) (o : Out) → Leads (λ x. G x ≡ G' x) o → moving t l G o ≡ moving t l G' o
unfolding moving Leads
moving_same t l G G' (leaf s) p = refl
moving_same t l G G' (one x) p = rw p
moving_same t l G G' (two x y) p = rw (p.0, p.1)
moving_same t l G G' (mixed x y) p = rw (p.0, p.1)

ending_same : (d t : ℕ) (W W' : ℕ → ℕ → Cost) (k : Gene) (v : ℕ) (o : Out)
    → ((a b : ℕ) → k ≡ pair a b → (W a v ≡ W' a v) × (W b v ≡ W' b v) × Leads (λ x. W a x ≡ W' a x) o × Leads (λ x. W b x ≡ W' b x) o) → ending d t W k v o ≡ ending d t W' k v o
unfolding ending
ending_same d t W W' (tip s) v o f = refl
ending_same d t W W' (pair a b) v o f = let q = f a b refl in rw (q.0, q.1, parting_same t (W a) (W b) (W' a) (W' b) v o q.0 q.1 q.2 q.3)

small_least : (C : Cost) → ((c : ℕ) → C ≡ some c → c ≤ 3244032) → Small C
unfolding Small
small_least none f = tt
small_least (some c) f = omega (arith, f c refl)

module _ {F : Family} {order : ℕ → ℕ} (P : Prepared F order) where
  open F use {nodes, genes, gene, out}
  open P use {graded, limits, schedule}

  -- a word that stands for a least cost is small; a gene's row begins at the place r
  pub cell_least : (s : List ℕ) (g r v : ℕ) → r ≡ (g - 1) * nodes → genes * nodes ≤ length s → 1 ≤ g → g ≤ genes → 1 ≤ v → v ≤ nodes → row nodes s g v ≡ least F g v → Cell (drop r s) v
  unfolding cell
  cell_least s g r v er l lg ug lv uv e = record {
    node_low = lv;
    inside = omega (arith, cell_in nodes genes g v lg ug lv uv, length-drop r s);
    small = rw (row_costs nodes s g r er, e) (small_least (least F g v) (λ c q. least_bound F graded limits g v c q));
  }

  -- a turn of the loop that fills the row of gene g: node v, at place i, is next
  module _ {s : List ℕ} (long : genes * nodes ≤ length s) {g i v : ℕ} (lg : 1 ≤ g) (ug : g ≤ genes) (part : Partly F order s g i) (li : 1 ≤ i) (ui : i ≤ nodes) (here : v ≡ order i) where
    pub turn_low : 1 ≤ v
    turn_low = rw here (schedule.entry_low i li ui)

    pub turn_high : v ≤ nodes
    turn_high = rw here (schedule.entry_high i li ui)

    -- the nodes that the arcs out lead to are nodes, and are done
    ends_done : Leads (λ x. (1 ≤ x) × (x ≤ nodes) × (row nodes s g x ≡ least F g x)) (out v)
    ends_done = rw here (leads_map _ _ (out (order i)) (λ x p. (p.0, p.1, done x p.0 p.1 p.2)) (schedule.higher i li ui))
      where
        done : (x : ℕ) → 1 ≤ x → x ≤ nodes → i < schedule.place x → row nodes s g x ≡ least F g x
        done x lx ux l = rw (schedule.visits x lx ux) at (part.done (schedule.place x) l (schedule.place_high x lx ux))

    -- the rows of the children are done
    child_done : (a : ℕ) → g < a → a ≤ genes → (x : ℕ) → 1 ≤ x → x ≤ nodes → row nodes s a x ≡ least F a x
    child_done a la ua x lx ux = part.above.holds a x la ua lx ux

    child_ends : (a : ℕ) → g < a → a ≤ genes → Leads (λ x. row nodes s a x ≡ least F a x) (out v)
    child_ends a la ua = leads_map _ _ (out v) (λ x p. child_done a la ua x p.0 p.1) ends_done

    -- so the clauses on the words give the least cost
    pub stepping_least : stepping F.costs.duplication F.costs.transfer F.costs.loss (row nodes s) g (gene g) v (out v) ≡ least F g v
    unfolding stepping clauses
    stepping_least = rw (
      ending_same F.costs.duplication F.costs.transfer (row nodes s) (least F) (gene g) v (out v) (λ a b e.
          let la = graded.left_more g a b e in let ua = graded.left_in g a b e in let lb = graded.right_more g a b e in let ub = graded.right_in g a b e in
          (child_done a la ua v turn_low turn_high, child_done b lb ub v turn_low turn_high, child_ends a la ua, child_ends b lb ub)),
      moving_same F.costs.transfer F.costs.loss (row nodes s g) (least F g) (out v) (leads_map _ _ (out v) (λ x p. p.2) ends_done),
    )
        (sym (equation F graded g v))

    -- and the words that they read are small
    pub own_cells : (r : ℕ) → r ≡ (g - 1) * nodes → Leads (Cell (drop r s)) (out v)
    own_cells r er = leads_map _ _ (out v) (λ x p. cell_least s g r x er long lg ug p.0 p.1 p.2) ends_done

    pub child_cells : (a r : ℕ) → r ≡ (a - 1) * nodes → g < a → a ≤ genes → Cell (drop r s) v × Leads (Cell (drop r s)) (out v)
    child_cells a r er la ua = (
      cell_least s a r v er long (omega arith) ua turn_low turn_high (child_done a la ua v turn_low turn_high),
      leads_map _ _ (out v) (λ x p. cell_least s a r x er long (omega arith) ua p.0 p.1 (child_done a la ua x p.0 p.1)) ends_done,
    )

    -- one word more
    pub partly_more : (w : ℕ) → cost_of w ≡ least F g v → Partly F order (set s (cell nodes g v) w) g (i - 1)
    partly_more w e = record {
      above = record { holds = λ h u l uh lu uu. row_there nodes s g v h u w lg (omega arith) turn_low turn_high lu uu (inl (λ q. omega arith)) ∙ part.above.holds h u l uh lu uu };
      done = λ j lj uj. by_eq (order j) v
          (λ q. rw q (row_here nodes s g v w (omega (arith, cell_in nodes genes g v lg ug turn_low turn_high)) ∙ e))
          (λ d. row_there nodes s g v g (order j) w lg lg turn_low turn_high (schedule.entry_low j (omega arith) uj) (schedule.entry_high j (omega arith) uj) (inr d)
          ∙ part.done j (by_less i j (λ l. l) (λ l. absurd (d (same_place j (omega arith))))) uj);
    }
      where
        same_place : (j : ℕ) → j ≡ i → order j ≡ v
        same_place j q = rw q (sym here)

    pub kept_more : (s₀ : List ℕ) (w : ℕ) → Kept F s₀ s → Kept F s₀ (set s (cell nodes g v) w)
    kept_more s₀ w k = record {
      long = length-set s (cell nodes g v) w ∙ k.long;
      rest = λ j l. get_or-set_other s (cell nodes g v) j w 0 (λ e. omega (arith, cell_in nodes genes g v lg ug turn_low turn_high)) ∙ k.rest j l;
    }

  -- a row begins, and ends
  pub partly_start : (s : List ℕ) (g : ℕ) → Rows F s g → Partly F order s g nodes
  partly_start s g r = record { above = r; done = λ j lj uj. absurd (omega arith) }

  pub partly_end : (s : List ℕ) (g : ℕ) → Partly F order s g 0 → Rows F s (g - 1)
  partly_end s g p = record {
    holds = λ h v lh uh lv uv. by_eq h g
        (λ e. rw e (rw (schedule.visits v lv uv) at (p.done (schedule.place v) (schedule.place_low v lv uv) (schedule.place_high v lv uv))))
        (λ d. p.above.holds h v (omega arith) uh lv uv);
  }

-- before the first row there are none, what is not written is kept, and what is kept twice is kept
pub rows_none : (F : Family) (s : List ℕ) → Rows F s F.genes
rows_none F s = record { holds = λ g v a b lv uv. absurd (omega arith) }

pub kept_none : (F : Family) (s : List ℕ) → Kept F s s
kept_none F s = record { long = refl; rest = λ i l. refl }

pub kept_on : (F : Family) (s u w : List ℕ) → Kept F s u → Kept F u w → Kept F s w
kept_on F s u w a b = record { long = b.long ∙ a.long; rest = λ i l. b.rest i l ∙ a.rest i l }
