-- The refusals 1 and 2, by the figures of a call, and those of the network's curator, before whatever refusals a call has behind them: each test
-- tells its condition, and the verdicts of the parts, one after the other, are the verdict of the whole list. 11 asks for the components, which a sound
-- network has.
-- Assumes nothing.
use Rattle.std.proofs.Common.{ℕ, ◌≤◌, ◌<◌, ◌≡◌, sym, ◌∙◌, ◌↔◌, true, List, ◌++◌, arith}
use Rattle.finite.specs.Tests.{under}
use Rattle.refusals.specs.declared.Refusal.{Refusal as Reason}
use Rattle.refusals.specs.Numbers.{number}
use Rattle.refusals.proofs.Numbers.{some}
use Rattle.finite.specs.Refusals.{Refusal, verdict, AllTell, no_more, one_more}
use Rattle.finite.proofs.Tests.{is_under, under_is, not_under, under_not}
use Rattle.finite.proofs.Refusals.{tell, verdict_here, verdict_later, verdict_none, verdict_first, verdict_second, both_none, all_tell}
use Rattle.topology.specs.Lines.{NodeLines, network}
use Rattle.topology.specs.Networks.{Sound}
use Rattle.network.specs.Refusals.{network_refusals}
use Rattle.network.specs.inner.Accepted.{NoOthers}
use Rattle.network.proofs.Acceptance.{accepted}
use Rattle.network.proofs.Readings.{network_tells}
use Rattle.components.specs.Refusals.{component_refusals}
use Rattle.components.proofs.Readings.{components_tell}
use Rattle.score.specs.Refusals.{buffer_refusals}

under_iff : (m n : ℕ) → (under m n ≡ true) ↔ (m < n)
under_iff m n = (under_is m n, λ l. is_under l)

-- a refusal's number is not 0
pub some_number : (k : ℕ) → 1 ≤ k → k ≡ 0 → ⊥
some_number k l q = omega arith

module _ (least_scratch least_result bytes words : ℕ) where
  pub buffers_tell : AllTell (buffer_refusals least_scratch least_result bytes words)
  unfolding buffer_refusals
  buffers_tell = one_more (tell 1 (omega arith, omega arith) (under_iff words least_scratch)) (λ _. one_more (tell 2 (omega arith, omega arith) (under_iff bytes least_result)) (λ _. no_more))

  pub buffers_fit : verdict (buffer_refusals least_scratch least_result bytes words) ≡ 0 → (least_scratch ≤ words) × (least_result ≤ bytes)
  unfolding buffer_refusals
  buffers_fit e =
      let a = verdict_none _ _ (λ q. some_number 1 (omega arith) q) e in
      let b = verdict_none _ _ (λ q. some_number 2 (omega arith) q) a.1 in
      (under_not _ _ a.0, under_not _ _ b.0)

  module _ (rest : List Refusal) where
    pub short_scratch : words < least_scratch → verdict (buffer_refusals least_scratch least_result bytes words ++ rest) ≡ 1
    unfolding buffer_refusals
    short_scratch l = verdict_here _ _ (is_under l)

    module _ (space : least_scratch ≤ words) where
      pub short_result : bytes < least_result → verdict (buffer_refusals least_scratch least_result bytes words ++ rest) ≡ 2
      unfolding buffer_refusals
      short_result l = verdict_later _ _ (not_under space) ∙ verdict_here _ _ (is_under l)

      pub ample : least_result ≤ bytes → verdict (buffer_refusals least_scratch least_result bytes words ++ rest) ≡ verdict rest
      unfolding buffer_refusals
      ample room = verdict_later _ _ (not_under space) ∙ verdict_later _ _ (not_under room)

module _ (L : NodeLines) (o : NoOthers L) (rest : List Refusal) where
  sound_by : verdict (network_refusals L) ≡ 0 → Sound (network L)
  sound_by e = (accepted L o e).sound

  pub tell_then : AllTell rest → AllTell (network_refusals L ++ (component_refusals L ++ rest))
  tell_then t = all_tell (network_refusals L) _ (network_tells L) (λ e. all_tell (component_refusals L) _ (components_tell L (sound_by e)) (λ _. t))

  pub network_first : (r : Reason) → number r ≡ verdict (network_refusals L) → verdict (network_refusals L ++ (component_refusals L ++ rest)) ≡ number r
  network_first r e = verdict_first (network_refusals L) _ (network_tells L) (number r) (λ z. omega (arith, some r)) (sym e)

  module _ (e : verdict (network_refusals L) ≡ 0) where
    later : verdict (network_refusals L ++ (component_refusals L ++ rest)) ≡ verdict (component_refusals L ++ rest)
    later = verdict_second (network_refusals L) _ (network_tells L) e

    pub component_first : (r : Reason) → number r ≡ verdict (component_refusals L) → verdict (network_refusals L ++ (component_refusals L ++ rest)) ≡ number r
    component_first r q = later ∙ verdict_first (component_refusals L) _ (components_tell L (sound_by e)) (number r) (λ z. omega (arith, some r)) (sym q)

    pub rest_last : verdict (component_refusals L) ≡ 0 → verdict (network_refusals L ++ (component_refusals L ++ rest)) ≡ verdict rest
    rest_last f = later ∙ verdict_second (component_refusals L) _ (components_tell L (sound_by e)) f

  pub none_before : verdict (network_refusals L ++ (component_refusals L ++ rest)) ≡ 0
      → (verdict (network_refusals L) ≡ 0) × (verdict (component_refusals L) ≡ 0) × (verdict rest ≡ 0)
  none_before e =
      let a = both_none (network_refusals L) _ (network_tells L) e in
      let b = both_none (component_refusals L) _ (components_tell L (sound_by a.0)) a.1 in
      (a.0, b.0, b.1)
