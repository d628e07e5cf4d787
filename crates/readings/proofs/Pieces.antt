-- The components that compute are those that 01 words: a component goes by its top, the reticulations counted there are those linked with it, and a node that
-- is no top has none counted, so that sums over all nodes are sums over components.
-- Assumes nothing.
use Rattle.std.proofs.Common.{◌≡◌, refl, ap, ◌↔◌, true, false, not, ℕ, ◌≤◌, arith}
use Rattle.finite.specs.Tests.{same}
use Rattle.finite.proofs.Cases.{by_bool, by_eq, clash}
use Rattle.std.proofs.lemmas.Bool.{not_from_false, not-true}
use Rattle.finite.proofs.Tests.{is_same, not_same}
use Rattle.finite.proofs.Sum.{sum_same}
use Rattle.topology.specs.Networks.{Network, Node, Sound}
use Rattle.topology.specs.Components.{Top, is_top, component, member_of, reticulation_count, component_count}
use Rattle.topology.proofs.Components.{component_top}
use Rattle.topology.proofs.CutArcs.{top_iff, linked_iff, one_top, member_iff}
use Rattle.optimum.specs.Optimum.{trials_of, settings, trials}
use Rattle.optimum.proofs.Settings.{reticulations_top}
use Rattle.readings.specs.Pieces.{Holds, Pieces, SumOfTrials, WithAny}

module _ (N : Network) (ok : Sound N) where
  counted : (v : ℕ) → Node N v → Holds N v (reticulation_count N (component N v))
  unfolding reticulation_count
  counted v k = record { test = member_of N (component N v); told = λ r _. member_iff N ok v r k; number = refl }

  pub pieces : Pieces N (component N) (reticulation_count N)
  pieces = record { tops = one_top N ok; linked = linked_iff N ok; holds = counted }

  -- a node that is no top has no reticulation counted
  untopped : (v : ℕ) → is_top N v ≡ false → reticulation_count N v ≡ 0
  untopped v t = by_eq (reticulation_count N v) 0 (λ e. e) (λ d. clash (reticulations_top N ok v (omega arith)) t)

  at_top : (v : ℕ) → is_top N v ≡ true → reticulation_count N (component N v) ≡ reticulation_count N v
  at_top v t = ap (reticulation_count N) (component_top N ok v t)

  told : (v : ℕ) → Node N v → (is_top N v ≡ true) ↔ Top N v
  told v _ = ((top_iff N ok v).1, (top_iff N ok v).0)

  pub trials_summed : SumOfTrials N (trials N)
  unfolding trials settings trials_of
  trials_summed = record {
    is_top = is_top N;
    held = λ v. reticulation_count N (component N v);
    told = told;
    holds = counted;
    number = sum_same N.size _ _ (λ v _ _. by_bool (is_top N v) (λ t. rw (t, at_top v t)) (λ t. rw (t, untopped v t) (rw (is_same {m = 0} refl))));
  }

  pub with_any : WithAny N (component_count N)
  unfolding component_count
  with_any = record {
    held = λ v. reticulation_count N (component N v);
    holds = counted;
    number = record {
      test = λ v. not (same (reticulation_count N v) 0);
      told = λ v k. (
        (λ h. let l : 1 ≤ reticulation_count N v = some_count v h in
            let t = reticulations_top N ok v l in
            ((top_iff N ok v).1 t, omega (arith, at_top v t))),
        λ h. not_from_false _ (not_same (λ e. omega (arith, h.1, at_top v ((top_iff N ok v).0 h.0)))),
      );
      number = refl;
    };
  }
    where
      some_count : (v : ℕ) → not (same (reticulation_count N v) 0) ≡ true → 1 ≤ reticulation_count N v
      some_count v h = by_eq (reticulation_count N v) 0 (λ e. clash (is_same e) (not-true _ h)) (λ d. omega arith)
