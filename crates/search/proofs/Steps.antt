-- The turns of the search's loops. A step does to the column of bests and the count what the machine's step does; the least cost kept says what the machine
-- would find by evaluating the best again.
-- Assumes nothing.
use Rattle.std.proofs.Common.{◌≡◌, ◌≢◌, ℕ, suc, ◌+◌, ◌≤◌, ◌<◌, true, false, List, Some, None, length, set, refl, sym, ap, ◌∙◌, arith, add-one}
use Rattle.std.proofs.lemmas.List.{length-set, get_or-set_same, get_or-set_other, get_or_past}
use Rattle.finite.specs.Tests.{same, under}
use Rattle.finite.specs.Range.{sum}
use Rattle.finite.specs.Tables.{at}
use Rattle.finite.proofs.Cases.{by_bool, by_eq, by_less}
use Rattle.finite.proofs.Tests.{is_same, not_same, is_under, not_under}
use Rattle.finite.proofs.Sum.{sum_more, sum_range_le}
use Rattle.finite.proofs.Count.{count_le}
use Rattle.finite.proofs.Least.{least_none}
use Rattle.finite.proofs.Tables.{zeros_at}
use Rattle.layout.specs.inner.Choices.{best, blank}
use Rattle.layout.specs.declared.choices.Choices.{Choices}
use Rattle.topology.specs.Networks.{Network, Sound, is_reticulation, reticulations}
use Rattle.topology.specs.Components.{reticulation_count, setting_of}
use Rattle.reconciliation.specs.GeneTrees.{GeneTree}
use Rattle.reconciliation.specs.Costs.{Costs}
use Rattle.displayed.specs.Model.{lca_cost}
use Rattle.displayed.proofs.Model.{lca_cost_same}
use Rattle.optimum.specs.Optimum.{assembled, trials_of, settings, trial, trials, trial_cost}
use Rattle.optimum.specs.Machine.{put, lesser, scored, scored_of, state_of, search_after}
use Rattle.optimum.specs.Machine as M
use Rattle.optimum.proofs.Machine.{put_is, after_bests, scored_iff}
use Rattle.optimum.proofs.Search.{score_take, score_keep, search_start, search_turn, search_next, search_end, search_counted}
use Rattle.optimum.proofs.Bounds.{trials_le}
use Rattle.switching.proofs.Settings.{alone_agree}
use Rattle.search.specs.declared.Stage.{Stage}
use Rattle.search.specs.inner.Steps.{takes, Settling, settled_stage, settled_bests, SettledBy, Finished, Reached, Last}

-- scoring a component's first setting, number 0, leaves it at 0
lesser_itself : (f : ℕ → ℕ) (b : ℕ) → lesser f b b ≡ b
unfolding lesser
lesser_itself f b = by_bool (under (f b) (f b)) (λ t. rw t) (λ t. rw t)

score_first : (trial : ℕ → ℕ → ℕ) (f : ℕ → ℕ) (t c x : ℕ) → x ≡ 0 → f c ≡ 0 → state_of (put f c x) (t + 1) ≡ scored trial c x (state_of f t)
unfolding state_of scored
score_first trial f t c x z e = rw (z, e, lesser_itself (trial c) 0, add-one t)

-- 0 put at a place, past the end too, where there is 0
zero_put : (l : List ℕ) (c : ℕ) → at (set l c 0) c ≡ 0
zero_put l c = by_less c (length l) (λ h. get_or-set_same l c 0 0 h) (λ h. get_or_past (set l c 0) c 0 (omega (arith, length-set l c 0)))

-- how many settings
pub settings_are : (N : Network) (c k r : ℕ) → k ≡ reticulation_count N c → r ≡ trials_of k → r ≡ settings N c
unfolding settings trials_of
settings_are N c k r e q = q ∙ rw e

module _ (N : Network) (ok : Sound N) (G : GeneTree) (C : Costs) (low : N.size ≤ 127) (few : (c : ℕ) → reticulation_count N c ≤ 8) where
  all_trials : trials N ≤ 100000
  unfolding reticulations
  all_trials = omega (arith, trials_le N (λ c _ _. few c), count_le N.size (is_reticulation N))

  pub reached_start : (ch : Choices) (s : Stage) → ch ≡ blank → s.done ≡ 0 → s.setting ≡ 0 → s.least ≡ None → s.count ≡ 0 → Reached N G C ch s
  unfolding same
  reached_start ch s e none first least unscored = rw e (record {
    state = rw (none, first, unscored) (search_start N.size (settings N) (trial_cost N G C) (best blank) zeros_at);
    cached = rw (least, first);
    clear = λ c _. zeros_at c;
  })

  module _ (ch : Choices) (s : Stage) (R : Reached N G C ch s) (inside : s.done < N.size) (most : s.setting ≤ settings N (s.done + 1)) where
    abbrev c : ℕ
    c = s.done + 1

    abbrev x : ℕ
    x = s.setting

    within : sum s.done (settings N) + x ≤ sum N.size (settings N)
    within = omega (arith, sum_more s.done (settings N), sum_range_le N.size (s.done + 1) (settings N) (omega arith))

    pub settling : Settling s
    unfolding trials
    settling = record {
      done = omega arith;
      setting = omega (arith, within, all_trials);
      count = omega (arith, search_counted N.size (settings N) (trial_cost N G C) (best ch) s.count (sum s.done (settings N) + x) R.state within, within, all_trials);
    }

    -- none of the component's settings is scored, so it is all principal still
    unscored : x ≡ 0 → best ch c ≡ 0
    unfolding state_of
    unscored z =
        let none : scored_of (settings N) (suc s.done) (sum s.done (settings N) + x) ≡ 0 = by_eq (scored_of (settings N) (suc s.done) (sum s.done (settings N) + x)) 0 (λ q. q)
        (λ d. absurd (omega (arith, ((scored_iff (settings N) s.done (sum s.done (settings N) + x) 0).0 (omega arith)).1))) in
        ap (λ (r : M.State). r.bests (s.done + 1)) R.state ∙ rw (add-one s.done) (after_bests N.size (settings N) (trial_cost N G C) (sum s.done (settings N) + x) s.done within ∙ rw none (least_none (trial_cost N G C (suc s.done))))

    lc : c < 128
    lc = omega arith

    -- the next setting is put into its column, and costs the trial's
    module _ (long : length ch.setting ≡ 128) where
      abbrev tried : List ℕ
      tried = set ch.setting c x

      here : at tried c ≡ x
      here = get_or-set_same ch.setting c x 0 (omega (arith, lc))

      others : (a : ℕ) → a ≢ c → at tried a ≡ 0
      others a d = get_or-set_other ch.setting c a x 0 d ∙ R.clear a d

      pub trial_is : (cost : ℕ) → cost ≡ lca_cost N G C (assembled N (at tried)) → cost ≡ trial_cost N G C c x
      unfolding trial
      trial_is cost q = q ∙ lca_cost_same N (assembled N (at tried)) (setting_of N c x) (alone_agree N ok (at tried) c x here others) G C

      module _ (cost : ℕ) (q : cost ≡ trial_cost N G C c x) (left : x < settings N c) (bests_long : length ch.best ≡ 128) (bests : List ℕ) (r : Stage) (S : SettledBy s cost ch.best bests r) where
        abbrev after : Choices
        after = record { setting = tried; best = bests }

        no_first : same (x + 1) 0 ≡ false
        no_first = not_same (λ e. omega (arith, e))

        -- what the best so far costs
        abbrev so_far : ℕ
        so_far = trial_cost N G C c (best ch c)

        -- the machine's step, in the column
        turn : (f : ℕ → ℕ) → state_of f (s.count + 1) ≡ scored (trial_cost N G C) c x (state_of (best ch) s.count)
            → state_of f (s.count + 1) ≡ search_after N G C (sum s.done (settings N) + (x + 1))
        turn f = search_turn N.size (settings N) (trial_cost N G C) (state_of (best ch) s.count) (state_of f (s.count + 1)) s.done (settings N c) x R.state refl inside left

        taken : takes s.least cost ≡ true → state_of (put (best ch) c x) (s.count + 1) ≡ scored (trial_cost N G C) c x (state_of (best ch) s.count) → Reached N G C after r
        unfolding settled_stage settled_bests
        taken t p =
            let g = S.stage in
            let w : bests ≡ set ch.best c x = S.bests ∙ rw t in
            let h : at (set ch.best c x) c ≡ x = get_or-set_same ch.best c x 0 (omega (arith, lc)) in
            let b : at bests ≡ put (best ch) c x = rw w (put_is (best ch) (at (set ch.best c x)) c x h (λ d n. get_or-set_other ch.best c d x 0 n)) in
            rw (g, t) (record {
              state = rw b (turn (put (best ch) c x) p);
              cached = rw no_first (ap Some (q ∙ ap (trial_cost N G C c) (sym (rw w h))));
              clear = others;
            })

        kept : takes s.least cost ≡ false → s.least ≡ Some (trial_cost N G C c (best ch c)) → state_of (best ch) (s.count + 1) ≡ scored (trial_cost N G C) c x (state_of (best ch) s.count) → Reached N G C after r
        unfolding settled_stage settled_bests
        kept t l p =
            let g = S.stage in
            let w : bests ≡ ch.best = S.bests ∙ rw t in
            rw (g, t, w) (record {
              state = turn (best ch) p;
              cached = rw no_first l;
              clear = others;
            })

        pub stepped : Reached N G C after r
        unfolding takes
        stepped = by_eq x 0
            (λ z. taken (rw (R.cached, is_same z)) (score_first (trial_cost N G C) (best ch) s.count c x z (unscored z)))
            (λ d. let some : s.least ≡ Some so_far = R.cached ∙ rw (not_same d) in by_less cost so_far
            (λ l. taken (rw (some, is_under l)) (score_take (trial_cost N G C) (best ch) s.count c x cost so_far q refl l))
            (λ l. kept (rw (some, not_under l)) some (score_keep (trial_cost N G C) (best ch) s.count c x cost so_far q refl l)))

        pub stepped_done : (r.done ≡ s.done) × (r.setting ≡ s.setting + 1)
        unfolding settled_stage
        stepped_done = (ap (λ (z : Stage). z.done) S.stage, ap (λ (z : Stage). z.setting) S.stage)

    -- all of the component's settings are scored
    pub finished : (tried : List ℕ) (r : Stage) → Finished s ch.setting tried r → settings N c ≤ x → Reached N G C (record { setting = tried; best = ch.best }) r
    unfolding same
    finished tried r F more =
        let g = F.stage in
        let w = F.settings in
        rw (g, w) (record {
          state = search_next N.size (settings N) (trial_cost N G C) (state_of (best ch) s.count) s.done (settings N c) x R.state refl most more;
          cached = refl;
          clear = λ d n. by_eq d c (λ e. rw e (zero_put ch.setting c)) (λ z. get_or-set_other ch.setting c d 0 0 z ∙ R.clear d z);
        })

  pub reached_end : (ch : Choices) (s : Stage) → Reached N G C ch s → s.setting ≡ 0 → s.done ≤ N.size → N.size ≤ s.done → Last N G C (best ch) s.count
  reached_end ch s R z a b = search_end N G C (state_of (best ch) s.count) s.done (R.state ∙ ap (λ (k : ℕ). search_after N G C (sum s.done (settings N) + k)) z) a b
