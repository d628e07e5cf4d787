-- Steps as numbers: the order of steps is the order of their numbers, so the chosen step is found by offering each step's number and keeping the lowest,
-- in any order; and the step is read back from its number.
-- Assumes nothing.
use Rattle.std.proofs.Common.{◌≡◌, refl, ◌∙◌, ◌⊎◌, inl, inr, Bool, true, false, cond, List, [], ◌∷◌, ◌++◌, ℕ, ◌+◌, ◌*◌, ◌/◌, ◌%◌, ◌≤◌, ◌<◌, min, arith}
use mathlib.Core.Option.{Option, none, some}
use Rattle.finite.specs.Tests.{same}
use Rattle.finite.proofs.Cases.{by_bool}
use Rattle.tellings.specs.Steps.{Step, rests, speciates, duplicates, transfers, loses_going_down, loses_by_transfer, passes_free, code, first, second, Sooner, by_code, by_first, by_second}
use Rattle.histories.specs.Histories.{Family, Cost}
use Rattle.reconciliation.specs.Limits.{Limits}
use Rattle.tellings.specs.inner.Lineages.{Levels}
use Rattle.tellings.specs.Chosen.{options, total, same_cost, choice, onward, sooner, soonest, pick}
use Rattle.tellings.specs.inner.Walks.{Low, Each, step_by, step_number, no_step, number_or, offer, offers}
use Rattle.tellings.proofs.Options.{Among, now, then, each_of}
use Rattle.tellings.proofs.Leads.{Near, To, Lower, leads_lower, near_node}
use Rattle.tellings.proofs.Picks.{Upto, decide, sound}

pub code_low : (s : Step) → code s ≤ 6
unfolding code
code_low rests = omega arith
code_low (speciates p q) = omega arith
code_low (duplicates v) = omega arith
code_low (transfers p q) = omega arith
code_low (loses_going_down w) = omega arith
code_low (loses_by_transfer w) = omega arith
code_low (passes_free w) = omega arith

pub number_low : (s : Step) → Low s → step_number s < no_step
unfolding step_number
number_low s l = omega (arith, code_low s, l.first_low, l.second_low)

number_sooner : {s t : Step} → Low s → Low t → Sooner s t → step_number s < step_number t
unfolding step_number
number_sooner l k (by_code a) = omega (arith, l.first_low, l.second_low)
number_sooner l k (by_first e a) = omega (arith, l.second_low)
number_sooner l k (by_second e f a) = omega arith

-- the lesser of two numbers is the sooner step's
number_soonest : (s t : Step) → Low s → Low t → step_number (soonest s (some t)) ≡ min (step_number s) (step_number t)
unfolding soonest
number_soonest s t l k = at (decide t s)
  where
    at : ((sooner t s ≡ true) × Sooner t s) ⊎ ((sooner t s ≡ false) × Upto s t) → step_number (cond (sooner t s) t s) ≡ min (step_number s) (step_number t)
    at (inl e) = rw e.0 (omega (arith, number_sooner k l e.1))
    at (inr e) = rw e.0 (same e.1)
      where
        same : Upto s t → step_number s ≡ min (step_number s) (step_number t)
        same (inl q) = rw q (omega arith)
        same (inr q) = omega (arith, number_sooner l k q)

pub each_from : (P : Step → Type 0) (l : List Step) → ((s : Step) → Among s l → P s) → Each P l
unfolding Each
each_from P [] f = tt
each_from P (s ∷ l) f = (f s now, each_from P l (λ t m. f t (then m)))

soonest_number : (s : Step) → Low s → (o : Option Step) → ((u : Step) → o ≡ some u → Low u) → step_number (soonest s o) ≡ min (step_number s) (number_or o)
unfolding number_or soonest
soonest_number s l none k = omega (arith, number_low s l)
soonest_number s l (some t) k = number_soonest s t l (k t refl)

module _ (f : Step → Bool) where
  picked_low : (l : List Step) → Each Low l → (s : Step) → pick f l ≡ some s → Low s
  picked_low l e s q = each_of Low e (sound f l s q).0

  -- the number of the picked step is the lowest that is offered
  pub offered : (l : List Step) → Each Low l → (best : ℕ) → best ≤ no_step → offers f l best ≡ min best (number_or (pick f l))
  unfolding offers offer pick number_or Each
  offered [] e best b = omega arith
  offered (s ∷ l) e best b = by_bool (f s)
      (λ t. rw t (offered l e.1 (min (step_number s) best) (omega arith) ∙ omega (arith, soonest_number s e.0 (pick f l) (picked_low l e.1))))
      (λ t. rw t (offered l e.1 best b))

-- a step read back from its number
module _ (s : Step) (l : Low s) where
  number_code : step_number s / 16384 ≡ code s
  unfolding step_number
  number_code = omega (arith, l.first_low, l.second_low)

  number_first : step_number s / 128 % 128 ≡ first s
  unfolding step_number
  number_first = let e : ((code s * 128 + first s) * 128 + second s) / 128 ≡ code s * 128 + first s = omega (arith, l.second_low) in rw e (omega (arith, l.first_low))

  number_second : step_number s % 128 ≡ second s
  unfolding step_number
  number_second = omega (arith, l.second_low)

-- so the step is read back from its number
step_is : (s : Step) → step_by (code s) (first s) (second s) ≡ s
unfolding step_by code first second same
step_is rests = refl
step_is (speciates p q) = refl
step_is (duplicates v) = refl
step_is (transfers p q) = refl
step_is (loses_going_down w) = refl
step_is (loses_by_transfer w) = refl
step_is (passes_free w) = refl

pub read_back : (s : Step) → Low s → step_by (step_number s / 16384) (step_number s / 128 % 128) (step_number s % 128) ≡ s
read_back s l = rw (number_code s l, number_first s l, number_second s l) (step_is s)

-- offers one after another, and of the same steps
pub offers_append : (f : Step → Bool) (l k : List Step) (best : ℕ) → offers f (l ++ k) best ≡ offers f k (offers f l best)
unfolding offers
offers_append f [] k best = refl
offers_append f (s ∷ l) k best = offers_append f l k (offer (f s) (step_number s) best)

pub offers_same : (f h : Step → Bool) (l : List Step) → Each (λ s. f s ≡ h s) l → (best : ℕ) → offers f l best ≡ offers h l best
unfolding offers Each
offers_same f h [] e best = refl
offers_same f h (s ∷ l) e best = rw e.0 (offers_same f h l e.1 (offer (h s) (step_number s) best))

-- the steps open at a node lead to nodes
module _ (F : Family) (limits : Limits F.nodes F.genes F.costs) (plan : Levels F) (v : ℕ) (lv : 1 ≤ v) (uv : v ≤ F.nodes) where
  near_low : (p : ℕ) → Near F (Lower F plan v lv uv) v p → p < 128
  near_low p h = omega (arith, near_node F plan v lv uv p h, limits.few_nodes)

  low_of : (s : Step) → To F (Lower F plan v lv uv) v (onward s) → Low s
  unfolding To onward first second
  low_of rests h = record { first_low = omega arith; second_low = omega arith }
  low_of (speciates p q) h = record { first_low = near_low p h.0; second_low = near_low q h.1 }
  low_of (duplicates w) h = record { first_low = near_low w h.0; second_low = near_low w h.1 }
  low_of (transfers p q) h = record { first_low = near_low p h.0; second_low = near_low q h.1 }
  low_of (loses_going_down w) h = record { first_low = near_low w (inr h); second_low = omega arith }
  low_of (loses_by_transfer w) h = record { first_low = near_low w (inr h); second_low = omega arith }
  low_of (passes_free w) h = record { first_low = near_low w (inr h); second_low = omega arith }

  pub low_options : (g : ℕ) → Each Low (options F g v)
  low_options g = each_from Low (options F g v) (λ s m. low_of s (leads_lower F plan v lv uv g m))

  low_number : (o : Option Step) → ((u : Step) → o ≡ some u → Low u) → min no_step (number_or o) ≡ number_or o
  unfolding number_or
  low_number none k = omega arith
  low_number (some s) k = omega (arith, number_low s (k s refl))

  -- the chosen step's number is the lowest offered
  pub choice_number : (W : ℕ → ℕ → Cost) (g : ℕ) → offers (λ s. same_cost (total F W g s) (W g v)) (options F g v) no_step ≡ number_or (choice F W g v)
  unfolding choice
  choice_number W g = offered (λ s. same_cost (total F W g s) (W g v)) (options F g v) (low_options g) no_step (omega arith) ∙ low_number (pick (λ s. same_cost (total F W g s) (W g v)) (options F g v)) (picked_low (λ s. same_cost (total F W g s) (W g v)) (options F g v) (low_options g))
