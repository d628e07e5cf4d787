-- The search over a network's components: the turns of its two loops on the bests and a count, and its last state, whose bests are each
-- component's first least setting. So what the table holds when no setting is left is the switching of demand 3.
-- Assumes nothing.
use mathlib.Core.Path.{fun_ext}
use Rattle.std.proofs.Common.{◌≡◌, ◌∙◌, ap, ℕ, zero, suc, ◌+◌, ◌≤◌, ◌<◌, add-one, arith}
use Rattle.finite.specs.Range.{sum}
use Rattle.finite.specs.Least.{first_least}
use Rattle.finite.proofs.Cases.{by_eq}
use Rattle.finite.proofs.Tests.{is_same, not_same}
use Rattle.finite.proofs.Sum.{sum_more}
use Rattle.finite.proofs.Least.{least_none, least_in}
use Rattle.topology.specs.Networks.{Network, Sound, Reticulation}
use Rattle.topology.specs.Switchings.{Switching}
use Rattle.topology.specs.Components.{component, reticulation_count, setting_of}
use Rattle.topology.proofs.Above.{reticulation_node}
use Rattle.topology.proofs.Components.{component_node}
use Rattle.reconciliation.specs.GeneTrees.{GeneTree, Rooted, Seated}
use Rattle.reconciliation.specs.Costs.{Costs}
use Rattle.displayed.specs.Model.{lca_cost}
use Rattle.optimum.specs.Optimum.{Least, Local, trial, best_setting, assembled, trials_of, settings, trials, trial_cost, best, chosen, Optimal}
use Rattle.optimum.specs.Machine.{State, put, start, scored, after, scored_of, search_after, AsScored, state_of}
use Rattle.optimum.proofs.Optimum.{assembled_least, least_agree, optimal_agree}
use Rattle.optimum.proofs.Machine.{put_same, lesser_take, lesser_keep, after_count, after_turn, after_bests, last_bests, step_none}

-- one step on the bests and a count: setting x of component c costs a, the best so far costs b
module _ (trial : ℕ → ℕ → ℕ) (f : ℕ → ℕ) (t c x a b : ℕ) where
  pub score_take : a ≡ trial c x → b ≡ trial c (f c) → a < b → state_of (put f c x) (t + 1) ≡ scored trial c x (state_of f t)
  unfolding state_of scored
  score_take e q less = rw (lesser_take (trial c) (f c) x (omega arith), add-one t)

  pub score_keep : a ≡ trial c x → b ≡ trial c (f c) → b ≤ a → state_of f (t + 1) ≡ scored trial c x (state_of f t)
  unfolding state_of scored
  score_keep e q more = rw (lesser_keep (trial c) (f c) x (omega arith), put_same f c, add-one t)

-- the turns of a loop over the components k + 1 and, in it, a loop over their m settings x; s is the state now, r the state after the step
module _ (n : ℕ) (settings : ℕ → ℕ) (trial : ℕ → ℕ → ℕ) where
  pub search_start : (f : ℕ → ℕ) → ((v : ℕ) → f v ≡ 0) → state_of f 0 ≡ after n settings trial (sum 0 settings + 0)
  unfolding state_of after start sum
  search_start f z = rw (fun_ext z)

  pub search_turn : (s r : State) (k m x : ℕ) → s ≡ after n settings trial (sum k settings + x) → m ≡ settings (k + 1) → k < n → x < m
      → r ≡ scored trial (k + 1) x s → r ≡ after n settings trial (sum k settings + (x + 1))
  search_turn s r k m x h q u l e =
      let p : sum k settings + (x + 1) ≡ suc (sum k settings + x) = omega arith in
      let o : x < settings (k + 1) = omega arith in
      rw (p, after_turn n settings trial k x u (rw add-one at o), ← h, ← add-one k) e

  -- all settings of component k + 1 are scored, and those of all components
  pub search_next : (s : State) (k m x : ℕ) → s ≡ after n settings trial (sum k settings + x) → m ≡ settings (k + 1) → x ≤ m → m ≤ x
      → s ≡ after n settings trial (sum (k + 1) settings + 0)
  search_next s k m x h q a b = let e : sum k settings + x ≡ sum (k + 1) settings + 0 = omega (arith, sum_more k settings) in rw e at h

  pub search_done : (s : State) (k : ℕ) → s ≡ after n settings trial (sum k settings + 0) → k ≤ n → n ≤ k → s ≡ after n settings trial (sum n settings)
  search_done s k h a b =
      let q : k ≡ n = omega arith in
      let e : sum k settings + 0 ≡ sum n settings = omega (arith, ap (λ (i : ℕ). sum i settings) q) in
      rw e at h

  -- the count is the number of settings scored
  pub search_counted : (f : ℕ → ℕ) (t p : ℕ) → state_of f t ≡ after n settings trial p → p ≤ sum n settings → t ≡ p
  unfolding state_of
  search_counted f t p h u = ap (λ (s : State). s.count) h ∙ after_count n settings trial p u

-- the search over the components of a network, for any cost
module _ (N : Network) (ok : Sound N) (cost : Switching → ℕ) where
  -- the state when the search stops
  abbrev pub last : State
  last = after N.size (settings N) (trial N cost) (trials N)

  -- "its count the trials reported, the sum of 2^k over components with k at least 1"
  pub search_count : last.count ≡ trials N
  unfolding trials
  search_count = after_count N.size (settings N) (trial N cost) (trials N) (omega arith)

  all_settings : (c : ℕ) → first_least (trial N cost c) (settings N c) ≡ best_setting N cost c
  unfolding settings trials_of best_setting
  all_settings c = by_eq (reticulation_count N c) 0
      (λ e. rw (is_same e, e, least_none (trial N cost c)) (omega (arith, least_in (trial N cost c) 1 (omega arith))))
      (λ d. rw (not_same d))

  pub search_bests : (c : ℕ) → 1 ≤ c → c ≤ N.size → last.bests c ≡ best_setting N cost c
  unfolding trials
  search_bests zero l u = absurd (omega arith)
  search_bests (suc j) l u = last_bests N.size (settings N) (trial N cost) j u ∙ all_settings (suc j)

  -- "the bests of its last state are the setting reported"
  pub search_agree : (r : ℕ) → Reticulation N r → assembled N last.bests r ≡ assembled N (best_setting N cost) r
  unfolding assembled
  search_agree r d =
      let k = component_node N ok r (reticulation_node N ok r d) in
      ap (λ (x : ℕ). setting_of N (component N r) x r) (search_bests (component N r) k.low k.high)

  pub search_least : (charges : Switching → ℕ → ℕ) → Local N cost charges → Least N cost (assembled N last.bests)
  search_least charges L = least_agree N ok cost charges L (assembled N (best_setting N cost)) (assembled N last.bests) (assembled_least N ok cost charges L) search_agree

-- with the last-common-ancestor cost: the state after t steps is as 01 says it, for every t up to the number of trials, and stays so after the last
pub search_state : (N : Network) (G : GeneTree) (C : Costs) (t : ℕ) → t ≤ trials N → AsScored N G C t (search_after N G C t)
unfolding trials
search_state N G C t l = record {
  count = after_count N.size (settings N) (trial_cost N G C) t l;
  bests = each;
}
  where
    each : (c : ℕ) → 1 ≤ c → c ≤ N.size → (search_after N G C t).bests c ≡ first_least (trial_cost N G C c) (scored_of (settings N) c t)
    each zero a b = absurd (omega arith)
    each (suc j) a b = after_bests N.size (settings N) (trial_cost N G C) t j l

pub search_stops : (N : Network) (G : GeneTree) (C : Costs) (k : ℕ) → search_after N G C (trials N + k) ≡ search_after N G C (trials N)
unfolding after trials
search_stops N G C zero = let e : trials N + 0 ≡ trials N = omega arith in rw e
search_stops N G C (suc k) =
    let e : trials N + suc k ≡ suc (trials N + k) = omega arith in
    let h = search_stops N G C k in
    rw (e, h) (step_none N.size (settings N) (trial_cost N G C) (search_after N G C (trials N)) (omega (arith, after_count N.size (settings N) (trial_cost N G C) (trials N) (omega arith))))

-- the loop over the components of a network ends in the last state
pub search_end : (N : Network) (G : GeneTree) (C : Costs) (s : State) (k : ℕ)
    → s ≡ after N.size (settings N) (trial_cost N G C) (sum k (settings N) + 0) → k ≤ N.size → N.size ≤ k → s ≡ search_after N G C (trials N)
unfolding trials
search_end N G C s k = search_done N.size (settings N) (trial_cost N G C) s k

-- what bests and a count that are the last state say
module _ (N : Network) (ok : Sound N) (G : GeneTree) (C : Costs) (l : ℕ → ℕ) (t : ℕ) (h : state_of l t ≡ search_after N G C (trials N)) where
  pub last_count : t ≡ trials N
  unfolding state_of
  last_count = ap (λ (s : State). s.count) h ∙ search_count N ok (lca_cost N G C)

  last_table : l ≡ (search_after N G C (trials N)).bests
  unfolding state_of
  last_table = ap (λ (s : State). s.bests) h

  pub last_best : (c : ℕ) → 1 ≤ c → c ≤ N.size → l c ≡ best N G C c
  last_best c a b = ap (λ (f : ℕ → ℕ). f c) last_table ∙ search_bests N ok (lca_cost N G C) c a b

  pub last_chosen : (r : ℕ) → Reticulation N r → assembled N (l) r ≡ chosen N G C r
  last_chosen r d = ap (λ (f : ℕ → ℕ). assembled N f r) last_table ∙ search_agree N ok (lca_cost N G C) r d

  -- the switching reported is the theorem's
  pub last_optimal : Rooted G → Seated N G → Optimal N G C (assembled N (l))
  last_optimal g s = optimal_agree N ok G g s C (assembled N (l)) last_chosen
