-- Sums of words: what is computed on words is what the definitions compute on costs, for the word for no history is the highest, and a sum that it
-- enters is no lower.
-- Assumes nothing.
use Rattle.std.proofs.Common.{◌≡◌, refl, sym, ap, ◌∙◌, ◌≢◌, List, ℕ, ◌+◌, ◌-◌, ◌≤◌, ◌<◌, min, get_or, arith}
use mathlib.Core.Option.{none, some}
use Rattle.std.specs.Prelude.{Result, Ok, Err}
use Rattle.std.specs.Result.{OkIff, result_unwrap_or}
use Rattle.finite.proofs.Tests.{is_under, not_under}
use Rattle.finite.proofs.Cases.{by_eq, by_less}
use Rattle.histories.specs.Histories.{Out, leaf, one, two, mixed, Cost, ◌lesser◌, ◌⊕◌, then, both}
use Rattle.histories.specs.Words.{no_history, cost_of}
use Rattle.histories.specs.inner.Grades.{Leads}
use Rattle.histories.specs.inner.Rows.{cost_at, Small, Cell}
use Rattle.histories.proofs.Words.{cost_none, cost_some}
use Rattle.cell_costs.specs.inner.Costs.{cost_in}

small_word : (w : ℕ) → Small (cost_of w) → w ≢ no_history → w ≤ 1000000000
unfolding Small
small_word w h d = rw (cost_some d) at h

pub or_none : (c : Cost) → c ≡ c lesser none
unfolding ◌lesser◌
or_none none = refl
or_none (some x) = refl

-- a sum of words stands for a cost
pub sum_none : {w : ℕ} → no_history ≤ w → cost_in w ≡ none
unfolding cost_in
sum_none l = rw (not_under l)

pub sum_some : {w : ℕ} → w < no_history → cost_in w ≡ some w
unfolding cost_in
sum_some l = rw (is_under l)

pub sum_word : (w : ℕ) → w ≤ no_history → cost_in w ≡ cost_of w
sum_word w l = by_eq w no_history (λ e. rw (cost_none e) (sum_none (omega arith))) (λ d. rw (cost_some d) (sum_some (omega arith)))

-- an event before one history
sum_then : (x a : ℕ) → x ≤ 198 → Small (cost_of a) → cost_in (x + a) ≡ then x (cost_of a)
unfolding then ◌⊕◌
sum_then x a l h = by_eq a no_history
    (λ e. rw (cost_none e) (sum_none (omega arith)))
    (λ d. let u = small_word a h d in rw (cost_some d) (sum_some (omega arith)))

-- and before two
sum_both : (x a b : ℕ) → x ≤ 198 → Small (cost_of a) → Small (cost_of b) → cost_in (x + a + b) ≡ both x (cost_of a) (cost_of b)
unfolding both ◌⊕◌
sum_both x a b l h i = by_eq a no_history
    (λ e. rw (cost_none e) (sum_none (omega arith)))
    (λ d. by_eq b no_history
    (λ e. rw (cost_some d, cost_none e) (sum_none (omega arith)))
    (λ e. let u = small_word a h d in let w = small_word b i e in rw (cost_some d, cost_some e) (sum_some (omega arith))))

-- an event before two histories, in either order
pub both_swap : (x : ℕ) (A B : Cost) → both x A B ≡ both x B A
unfolding both ◌⊕◌
both_swap x none none = refl
both_swap x none (some b) = refl
both_swap x (some a) none = refl
both_swap x (some a) (some b) = ap some (omega arith)

-- the lesser of two sums
pub lesser_of : (r a b : ℕ) {A B : Cost} → r ≡ min a b → cost_in a ≡ A → cost_in b ≡ B → cost_in r ≡ (A lesser B)
unfolding ◌lesser◌
lesser_of r a b e ea eb = rw (← ea, ← eb) (by_less a no_history
    (λ l. by_less b no_history
    (λ h. rw (sum_some l, sum_some h) (sum_some {w = r} (omega arith) ∙ ap some e))
    (λ h. rw (sum_some l, sum_none h) (sum_some {w = r} (omega arith) ∙ ap some (omega arith))))
    (λ l. rw (sum_none l) (by_less b no_history
    (λ h. let f : r ≡ b = omega arith in rw f)
    (λ h. sum_none {w = r} (omega arith) ∙ sym (sum_none h)))))

-- the word of a sum
pub clip : {E : Type 0} (c w : ℕ) (t : Result ℕ E) → OkIff t (c < 4294967296) c → w ≡ result_unwrap_or t no_history → cost_of w ≡ cost_in c
clip c w (Ok x) f e = let q : w ≡ c = omega arith in rw q (sym (sum_word c (omega arith)))
clip c w (Err _) f e = rw e (cost_none {w = no_history} refl ∙ sym (sum_none (by_less c 4294967296 (λ l. absurd (f l)) (λ l. omega arith))))

-- the same of the words of rows
module _ (x : ℕ) (l : x ≤ 198) (r : List ℕ) (u a : ℕ) (h : Cell r u) (ea : a ≡ get_or r (u - 1) 0) where
  pub then_at : cost_in (x + a) ≡ then x (cost_at r u)
  unfolding cost_at
  then_at = rw ea (sum_then x (get_or r (u - 1) 0) l h.small)

  pub both_at : (q : List ℕ) (v b : ℕ) → Cell q v → b ≡ get_or q (v - 1) 0 → cost_in (x + a + b) ≡ both x (cost_at r u) (cost_at q v)
  unfolding cost_at
  both_at q v b i eb = rw (ea, eb) (sum_both x (get_or r (u - 1) 0) (get_or q (v - 1) 0) l h.small i.small)

-- where the rows of both children may be read at the ends of arcs
pub leads_both : (P Q : ℕ → Type 0) (o : Out) → Leads P o → Leads Q o → Leads (λ x. P x × Q x) o
unfolding Leads
leads_both P Q (leaf s) p q = tt
leads_both P Q (one x) p q = (p, q)
leads_both P Q (two x y) p q = ((p.0, q.0), (p.1, q.1))
leads_both P Q (mixed x y) p q = ((p.0, q.0), (p.1, q.1))
