-- A reticulation's bit of the setting of its component says what the assembled switching says. The index of a reticulation and the reticulations after it make
-- up its component, so the bit that shift and mask pick by the index is the one that the definition picks by the reticulations after it.
-- Assumes nothing.
use Rattle.std.proofs.Common.{◌≡◌, ◌≢◌, ℕ, ◌-◌, ◌≤◌, ◌<◌, Bool, refl, sym, ◌∙◌, arith}
use Rattle.finite.specs.Tests.{same}
use Rattle.finite.specs.Tables.{at}
use Rattle.finite.proofs.Cases.{by_eq}
use Rattle.topology.specs.Networks.{Network, Node, Sound, Reticulation}
use Rattle.topology.specs.Switchings.{Switching}
use Rattle.topology.specs.Components.{component, reticulation_count, index_of, reticulations_after, setting_of}
use Rattle.topology.specs.Lines.{network}
use Rattle.topology.proofs.Above.{reticulation_node}
use Rattle.topology.proofs.Components.{component_node, is_member}
use Rattle.layout.specs.declared.networks.PartedNetwork.{PartedNetwork}
use Rattle.layout.specs.declared.parts.Parts.{Parts}
use Rattle.layout.specs.declared.tree.Tree.{Tree}
use Rattle.layout.specs.Lines.{nodes_in, network_of}
use Rattle.layout.specs.inner.Parts.{top, index}
use Rattle.layout.specs.inner.Parts as P
use Rattle.layout.specs.inner.Tree.{Held}
use Rattle.layout.proofs.Numbered.{secondary_in}
use Rattle.optimum.specs.Optimum.{assembled}
use Rattle.optimum.proofs.Settings.{setting_outside, setting_principal, index_bit}
use Rattle.switching.specs.inner.Settings.{bit_of}
use Rattle.switching.specs.inner.Turning.{turned, Turns, SomeHeld, TurnedTo}
use Rattle.switching.proofs.Turning.{held_agree, turned_here, turned_other}

pub bit_low : (x k j : ℕ) {b : ℕ} → b ≡ bit_of x k j → b ≤ 1
unfolding bit_of
bit_low x k j e = omega arith

-- what the assembled switching says at a reticulation
assembled_bit : (N : Network) → Sound N → (r : ℕ) → Reticulation N r → (settings : ℕ → ℕ)
    → same (bit_of (settings (component N r)) (reticulation_count N (component N r)) (index_of N r)) 1 ≡ assembled N settings r
unfolding assembled setting_of bit_of
assembled_bit N ok r d settings =
    let e : reticulation_count N (component N r) - 1 - index_of N r ≡ reticulations_after N (component N r) r = omega (arith, index_bit N ok r d) in
    rw (is_member N (component N r) r d refl, e)

-- the reticulations one after another
module _ {N : Network} {τ : Switching} (ok : Sound N) where
  pub turned_start : {t : Tree} → SomeHeld N t → TurnedTo N τ 0 t
  turned_start H = record {
    switching = H.switching;
    held = H.held;
    done = λ r d u. absurd (omega (arith, reticulation_node N ok r d));
  }

  pub turned_end : {t : Tree} (v : ℕ) → N.size ≤ v → TurnedTo N τ v t → Held N τ t
  turned_end v u T = held_agree (λ r d. T.done r d (omega (arith, reticulation_node N ok r d))) T.held

  -- the turn at r of a loop over 1..=n
  module _ {t : Tree} (r : ℕ) (low : 1 ≤ r) (T : TurnedTo N τ (r - 1) t) where
    pub turned_skip : N.secondary r ≡ 0 → TurnedTo N τ r t
    turned_skip e = record {
      switching = T.switching;
      held = T.held;
      done = λ q d u. by_eq q r (λ i. absurd (d (rw i e))) (λ i. T.done q d (omega arith));
    }

    pub turned_next : {s : Tree} {b : Bool} → Turns N r b t s → b ≡ τ r → TurnedTo N τ r s
    turned_next {b = b} S e = record {
      switching = turned T.switching r b;
      held = S.holds T.switching T.held;
      done = λ q d u. by_eq q r (λ i. rw i (turned_here T.switching r b ∙ e)) (λ i. turned_other T.switching r b q i ∙ T.done q d (omega arith));
    }

-- as the code reads node r: in the lines its secondary parent, and in the parts the top of a reticulation's component, how many reticulations that has, and the
-- reticulation's index there
module _ (w : PartedNetwork) {r : ℕ} (limits : (1 ≤ r) × (r ≤ w.lines.now.header.nodes)) where
  abbrev N : Network
  N = network_of w.lines.now

  abbrev p : Parts
  p = w.parts.now

  read : N.secondary r ≡ at w.lines.now.nodes.secondary r
  unfolding network
  read = secondary_in _ w.lines.now.nodes r limits.0 limits.1

  pub read_plain : at w.lines.now.nodes.secondary r ≡ 0 → N.secondary r ≡ 0
  read_plain z = read ∙ z

  module _ (some : at w.lines.now.nodes.secondary r ≢ 0) where
    pub read_reticulation : Reticulation N r
    read_reticulation z = some (sym read ∙ z)

    is_node : Node N r
    is_node = reticulation_node N w.sound r read_reticulation

    top_is : top p r ≡ component N r
    top_is = w.parted.tops r is_node

    count_is : P.reticulation_count p (top p r) ≡ reticulation_count N (component N r)
    count_is = rw top_is (w.parted.counts _ (component_node N w.sound r is_node))

    index_is : index p r ≡ index_of N r
    index_is = w.parted.indices r read_reticulation

    pub bit_fits : ((c : ℕ) → reticulation_count N c ≤ 8) → (index p r < P.reticulation_count p (top p r)) × (P.reticulation_count p (top p r) ≤ 8)
    bit_fits small = (omega (arith, count_is, index_is, index_bit N w.sound r read_reticulation), omega (arith, count_is, small (component N r)))

    pub bit_told : (settings : ℕ → ℕ) {b : ℕ} → b ≡ bit_of (settings (top p r)) (P.reticulation_count p (top p r)) (index p r) → same b 1 ≡ assembled N settings r
    bit_told settings e = rw (e, count_is, index_is, top_is) (assembled_bit N w.sound r read_reticulation settings)

    -- a setting is read inside its column
    pub top_low : top p r < 128
    unfolding network nodes_in
    top_low = omega (arith, top_is, component_node N w.sound r is_node, w.lines.now.within.few_nodes)

-- a trial of the search: all components but c on principal
module _ (N : Network) (ok : Sound N) (settings : ℕ → ℕ) (c x : ℕ) (here : settings c ≡ x) (others : (a : ℕ) → a ≢ c → settings a ≡ 0) where
  pub alone_agree : (r : ℕ) → Reticulation N r → assembled N settings r ≡ setting_of N c x r
  unfolding assembled
  alone_agree r d = by_eq (component N r) c
      (λ e. rw (e, here))
      (λ q. rw (others (component N r) q) (setting_principal N ok (component N r) r ∙ sym (setting_outside N ok c x r d q)))
