-- Refusal 11's test says what 01 says: the components of 01 are the classes of `Linked`, and a class goes by its top. So where the test fails no
-- component has more than 8 reticulations.
-- Assumes nothing.
use Rattle.std.proofs.Common.{◌≡◌, sym, ◌∙◌, ◌↔◌, Bool, true, false, ℕ, ◌≤◌, ◌<◌, arith}
use Rattle.finite.specs.Range.{count}
use Rattle.finite.specs.Refusals.{verdict, AllTell, no_more, one_more}
use Rattle.finite.proofs.Cases.{by_less, by_bool, clash}
use Rattle.finite.proofs.Tests.{is_under, under_is, test_iff}
use Rattle.finite.proofs.Every.{some_at, is_some}
use Rattle.finite.proofs.Count.{count_find, count_same}
use Rattle.topology.specs.Networks.{Network, Node, Sound, Reticulation}
use Rattle.topology.specs.Components.{Linked, component, member_of, reticulation_count}
use Rattle.topology.specs.Lines.{NodeLines, network}
use Rattle.topology.proofs.Above.{reticulation_node}
use Rattle.topology.proofs.Components.{member_is, component_node}
use Rattle.topology.proofs.CutArcs.{member_iff}
use Rattle.components.specs.Refusals.{crowded_at, refusal11, Refusal11, component_refusals}

module _ (N : Network) (ok : Sound N) where
  -- a test that tells the reticulations linked with v counts the reticulations of v's component
  pub reticulations_counted : (v : ℕ) → Node N v → (inside : ℕ → Bool) → ((r : ℕ) → (inside r ≡ true) ↔ (Reticulation N r × Linked N v r)) → count N.size inside ≡ reticulation_count N (component N v)
  unfolding reticulation_count
  reticulations_counted v k inside h = count_same N.size inside (member_of N (component N v)) (λ r _ _. test_iff (inside r) (member_of N (component N v) r) (λ t. (member_iff N ok v r k).1 ((h r).0 t)) (λ t. (h r).1 ((member_iff N ok v r k).0 t)))

  -- a component of more than 8 reticulations is the class of one of them
  pub crowded_is : (c : ℕ) → 8 < reticulation_count N c → Refusal11 N
  unfolding reticulation_count
  crowded_is c l = let f = count_find N.size (member_of N c) (omega arith) in
      let m = member_is N c f.0 f.3 in
      let k = reticulation_node N ok f.0 m.0 in
      record { node = f.0; is_node = k; inside = member_of N (component N f.0); inside_iff = λ r. member_iff N ok f.0 r k; more = rw m.1 l }

  from_11 : refusal11 N ≡ true → Refusal11 N
  unfolding refusal11 crowded_at
  from_11 h = let c = some_at N.size (crowded_at N) h in crowded_is c.0 (under_is 8 (reticulation_count N c.0) c.3)

  to_11 : Refusal11 N → refusal11 N ≡ true
  unfolding refusal11 crowded_at
  to_11 r = let k = component_node N ok r.node r.is_node in
      is_some N.size (component N r.node) (crowded_at N) k.low k.high (is_under (omega (arith, r.more, reticulations_counted r.node r.is_node r.inside r.inside_iff)))

  pub reading_11 : (refusal11 N ≡ true) ↔ Refusal11 N
  reading_11 = (from_11, to_11)

  pub few_reticulations : refusal11 N ≡ false → (c : ℕ) → reticulation_count N c ≤ 8
  few_reticulations h c = by_less 8 (reticulation_count N c) (λ l. clash (to_11 (crowded_is c l)) h) (λ u. u)

module _ (L : NodeLines) where
  pub components_tell : Sound (network L) → AllTell (component_refusals L)
  unfolding component_refusals
  components_tell ok = one_more (record { some = λ e. let z : ◌≡◌ {A = ℕ} 11 0 = e in omega arith; small = omega arith; yes = (reading_11 (network L) ok).0; refused = (reading_11 (network L) ok).1 }) (λ _. no_more)

  -- the verdict by the test
  pub verdict_crowded : refusal11 (network L) ≡ true → verdict (component_refusals L) ≡ 11
  unfolding component_refusals verdict
  verdict_crowded t = rw t

  pub verdict_uncrowded : refusal11 (network L) ≡ false → verdict (component_refusals L) ≡ 0
  unfolding component_refusals verdict
  verdict_uncrowded t = rw t

  pub components_accepted : verdict (component_refusals L) ≡ 0 → refusal11 (network L) ≡ false
  components_accepted z = by_bool (refusal11 (network L)) (λ t. let e : ◌≡◌ {A = ℕ} 11 0 = sym (verdict_crowded t) ∙ z in absurd (omega (arith, e))) (λ f. f)
