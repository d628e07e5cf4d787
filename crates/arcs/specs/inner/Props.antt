-- The arcs of a network are laid out in one way at most, as a ghost field asks: a node's place is where the order has it, and what is no node has place 0.
-- Assumes nothing.
use Rattle.std.specs.Prelude.{◌≡◌, ◌≢◌, ℕ, ◌≤◌, ◌<◌}
use Rattle.std.proofs.Common.{arith}
use Rattle.std.proofs.Math.Logic.{by_cases}
use Rattle.layout.specs.inner.Props.{one}
use Rattle.topology.specs.Networks.{Network, Node}
use Rattle.topology.specs.Lines.{NodeLines}
use Rattle.arcs.specs.declared.Arcs.{Arcs}
use Rattle.arcs.specs.inner.Arcs.{Ordered, Laid}
use denote.Struct.Props.{props}
use mathlib.Core.HLevel.{is_prop→PathP}
use mathlib.Core.Path.{sym, ◌∙◌, ap, fun_ext}
use native.Mathlib.Decide.{ℕ_discrete, dec_lt}

module _ {N : Network} {f : ℕ → ℕ} (x y : Ordered N f) where
  at_node : (v : ℕ) → Node N v → x.places.place v ≡ y.places.place v
  at_node v k = sym (y.places.placed (x.places.place v) (x.places.place_low v k) (x.places.place_high v k)) ∙ ap y.places.place (x.places.visits v k)

  at_none : (v : ℕ) → (Node N v → ⊥) → x.places.place v ≡ y.places.place v
  at_none v d = x.elsewhere v d ∙ sym (y.elsewhere v d)

  at_each : (v : ℕ) → x.places.place v ≡ y.places.place v
  at_each v = by_cases (ℕ_discrete v 0)
      (λ e. at_none v (λ k. omega (arith, k.low)))
      (λ d. by_cases (dec_lt N.size v) (λ l. at_none v (λ k. omega (arith, k.high))) (λ l. at_node v (record { low = omega arith; high = omega arith })))

pub ordered_prop : (N : Network) (f : ℕ → ℕ) → IsProp (Ordered N f)
ordered_prop N f x y =
    let place : x.places.place ≡ y.places.place = fun_ext (at_each x y) in
    λ i. record {
      places = record {
        place = place i;
        place_low = is_prop→PathP (λ j. (v : ℕ) → Node N v → 1 ≤ place j v) (λ j. hlevel props) x.places.place_low y.places.place_low i;
        place_high = is_prop→PathP (λ j. (v : ℕ) → Node N v → place j v ≤ N.size) (λ j. hlevel props) x.places.place_high y.places.place_high i;
        visits = is_prop→PathP (λ j. (v : ℕ) → Node N v → f (place j v) ≡ v) (λ j. hlevel props) x.places.visits y.places.visits i;
        node = one x.places.node y.places.node (hlevel props) i;
        placed = is_prop→PathP (λ j. (k : ℕ) → 1 ≤ k → k ≤ N.size → place j (f k) ≡ k) (λ j. hlevel props) x.places.placed y.places.placed i;
        principal = is_prop→PathP (λ j. (v : ℕ) → Node N v → N.principal v ≢ 0 → place j (N.principal v) < place j v) (λ j. hlevel props) x.places.principal y.places.principal i;
        secondary = is_prop→PathP (λ j. (v : ℕ) → Node N v → N.secondary v ≢ 0 → place j (N.secondary v) < place j v) (λ j. hlevel props) x.places.secondary y.places.secondary i;
      };
      elsewhere = is_prop→PathP (λ j. (v : ℕ) → (Node N v → ⊥) → place j v ≡ 0) (λ j. hlevel props) x.elsewhere y.elsewhere i;
    }

pub laid_prop : (L : NodeLines) (a : Arcs) → IsProp (Laid L a)
laid_prop L a = hlevel (ordered_prop, props)
