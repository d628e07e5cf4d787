-- The tree under one switching after another. A turned reticulation moves one on arc from its old parent to its new one, so only its own entries and two
-- counts change; what a switching says of other numbers than reticulations is not read.
-- Assumes nothing.
use Rattle.std.proofs.Common.{◌≡◌, ◌≢◌, ℕ, ◌+◌, ◌-◌, ◌≤◌, ◌<◌, Bool, false, List, length, set, refl, sym, ap, ◌∙◌, arith}
use Rattle.std.proofs.lemmas.List.{length-set, get_or-set_same, get_or-set_other}
use Rattle.finite.specs.Tests.{same, tally}
use Rattle.finite.specs.Range.{children}
use Rattle.finite.specs.Tables.{at}
use Rattle.finite.proofs.Cases.{by_eq}
use Rattle.finite.proofs.Tests.{is_same, not_same}
use Rattle.finite.proofs.Count.{count_some, count_le, children_change}
use Rattle.topology.specs.Networks.{Network, Node, Sound, Reticulation}
use Rattle.topology.specs.Switchings.{Switching, on_secondary, parent, on_arcs}
use Rattle.topology.proofs.Above.{parent_agree, parent_cases, reticulation_node, node_principal, node_secondary, on_reticulation}
use Rattle.reconciliation.proofs.Agreement.{parent_same, secondary_same}
use Rattle.topology.specs.Lines.{network}
use Rattle.layout.specs.declared.lines.Lines.{Lines}
use Rattle.layout.specs.declared.networks.PartedNetwork.{PartedNetwork}
use Rattle.layout.specs.declared.tree.Tree.{Tree}
use Rattle.layout.specs.Lines.{nodes_in, network_of}
use Rattle.layout.proofs.Numbered.{principal_in, secondary_in}
use Rattle.layout.specs.inner.Tree.{up, lateral, arcs, Held}
use Rattle.switching.specs.inner.Turning.{turned, parent_taken, arc_moved, Turns, SomeHeld}

-- switchings that agree at the reticulations are held alike
pub held_agree : {N : Network} {σ τ : Switching} {t : Tree} → ((r : ℕ) → Reticulation N r → σ r ≡ τ r) → Held N σ t → Held N τ t
unfolding on_arcs
held_agree {N} {σ} {τ} a h = record {
  ups = λ v. h.ups v ∙ ap (λ (f : ℕ → ℕ). f v) (parent_same N σ τ a);
  laterals = λ v. h.laterals v ∙ ap (λ (f : ℕ → Bool). f v) (secondary_same N σ τ a);
  ranks = h.ranks;
  counts = λ v k. h.counts v k ∙ ap (λ (f : ℕ → ℕ). children N.size f v) (parent_same N σ τ a);
  past = h.past;
}

pub some_held : {N : Network} {σ : Switching} {t : Tree} → Held N σ t → SomeHeld N t
some_held {N} {σ} h = record { switching = σ; held = h }

-- the switching with a reticulation turned
module _ (σ : Switching) (r : ℕ) (b : Bool) where
  pub turned_here : turned σ r b r ≡ b
  unfolding turned
  turned_here = rw (is_same {m = r} refl)

  pub turned_other : (v : ℕ) → v ≢ r → turned σ r b v ≡ σ v
  unfolding turned
  turned_other v d = rw (not_same d)

parent_turned : (N : Network) (σ : Switching) (r : ℕ) (b : Bool) → Reticulation N r → parent N (turned σ r b) r ≡ parent_taken b (N.secondary r) (N.principal r)
unfolding parent parent_taken
parent_turned N σ r b d = rw (on_reticulation N (turned σ r b) r d, turned_here σ r b)

-- an on arc that left p leaves q
module _ (l : List ℕ) (p q : ℕ) (long : length l ≡ 128) (lp : p < 128) (lq : q < 128) where
  abbrev taken_off : List ℕ
  taken_off = set l p (at l p - 1)

  one_less : 1 ≤ at l p → (v : ℕ) → at taken_off v + tally (same p v) ≡ at l v
  one_less m v = by_eq v p
      (λ e. rw (e, is_same {m = p} refl) (omega (arith, get_or-set_same l p (at l p - 1) 0 (omega arith))))
      (λ d. rw (not_same {m = p} {n = v} (λ e. d (sym e))) (omega (arith, get_or-set_other l p v (at l p - 1) 0 d)))

  one_more : (v : ℕ) → at (arc_moved l p q) v ≡ at taken_off v + tally (same q v)
  unfolding arc_moved
  one_more v = by_eq v q
      (λ e. rw (e, is_same {m = q} refl) (get_or-set_same taken_off q (at taken_off q + 1) 0 (omega (arith, length-set l p (at l p - 1)))))
      (λ d. rw (not_same {m = q} {n = v} (λ e. d (sym e))) (omega (arith, get_or-set_other taken_off q v (at taken_off q + 1) 0 d)))

  moved_arcs : 1 ≤ at l p → (v : ℕ) → at (arc_moved l p q) v + tally (same p v) ≡ at l v + tally (same q v)
  moved_arcs m v = omega (arith, one_less m v, one_more v)

module _ (N : Network) (ok : Sound N) (few : N.size ≤ 127) (r : ℕ) (d : Reticulation N r) where
  -- each parent of a reticulation is a node
  parent_node : (σ : Switching) → Node N (parent N σ r)
  parent_node σ =
      let k = reticulation_node N ok r d in
      parent_cases N σ r (λ e. rw e (node_principal N ok r k (ok.both r k d))) (λ _ e. rw e (node_secondary N ok r d))

  module _ (σ : Switching) (t : Tree) (h : Held N σ t) where
    arcs_some : 1 ≤ arcs t (parent N σ r)
    unfolding on_arcs children
    arcs_some =
        let k = reticulation_node N ok r d in
        omega (
          arith,
          h.counts (parent N σ r) (parent_node σ),
          count_some N.size r (λ x. same (parent N σ x) (parent N σ r)) k.low k.high (is_same {m = parent N σ r} refl),
        )

    arcs_few : (v : ℕ) → Node N v → arcs t v ≤ 127
    unfolding on_arcs children
    arcs_few v k = omega (arith, h.counts v k, count_le N.size (λ x. same (parent N σ x) v))

    module _ (b : Bool) where
      abbrev τ : Switching
      τ = turned σ r b

      -- r is on the parent already
      turn_none : lateral t r ≡ b → Held N τ t
      turn_none e = held_agree (λ v _. by_eq v r
          (λ q. rw q (sym (on_reticulation N σ r d) ∙ sym (h.laterals r) ∙ e ∙ sym (turned_here σ r b)))
          (λ q. sym (turned_other σ r b v q))) h

      -- r leaves the parent p for q
      module _ (p q : ℕ) (ep : p ≡ parent N σ r) (eq : q ≡ parent N τ r) (ups_long : length t.up ≡ 128) (laterals_long : length t.lateral ≡ 128) (arcs_long : length t.arcs ≡ 128) where
        lr : r < 128
        lr = omega (arith, reticulation_node N ok r d)

        lp : p < 128
        lp = omega (arith, parent_node σ)

        lq : q < 128
        lq = omega (arith, parent_node τ)

        abbrev moved : Tree
        moved = record { up = set t.up r q; lateral = set t.lateral r b; rank = t.rank; arcs = arc_moved t.arcs p q }

        parent_kept : (v : ℕ) → v ≢ r → parent N τ v ≡ parent N σ v
        parent_kept v a = parent_agree N τ σ v (λ _. turned_other σ r b v a)

        on_kept : (v : ℕ) → v ≢ r → on_secondary N σ v ≡ on_secondary N τ v
        unfolding on_secondary
        on_kept v a = rw (turned_other σ r b v a)

        moved_counts : (v : ℕ) → Node N v → arcs moved v ≡ on_arcs N τ v
        unfolding on_arcs
        moved_counts v k =
            let n = reticulation_node N ok r d in
            let m : 1 ≤ arcs t p = rw ep arcs_some in
            let a : arcs t v ≡ children N.size (parent N σ) v = h.counts v k in
            let c : children N.size (parent N τ) v + tally (same p v) ≡ children N.size (parent N σ) v + tally (same q v)
            = rw (ep, eq) (children_change N.size r (parent N σ) (parent N τ) n.low n.high parent_kept v) in
            omega (arith, moved_arcs t.arcs p q arcs_long lp lq m v)

        turn_moved : Held N τ moved
        turn_moved = record {
          ups = λ v. by_eq v r
              (λ e. rw e (get_or-set_same t.up r q 0 (omega (arith, lr)) ∙ eq))
              (λ a. get_or-set_other t.up r v q 0 a ∙ h.ups v ∙ sym (parent_kept v a));
          laterals = λ v. by_eq v r
              (λ e. rw e (get_or-set_same t.lateral r b false (omega (arith, lr)) ∙ sym (on_reticulation N τ r d ∙ turned_here σ r b)))
              (λ a. get_or-set_other t.lateral r v b false a ∙ h.laterals v ∙ on_kept v a);
          ranks = h.ranks;
          counts = moved_counts;
          past = h.past;
        }

-- a turn as the code makes it
module _ (w : PartedNetwork) {r : ℕ} (b : Bool) (lr : 1 ≤ r) (ur : r ≤ w.lines.now.header.nodes) (d : Reticulation (network_of w.lines.now) r) where
  abbrev l : Lines
  l = w.lines.now

  abbrev N : Network
  N = network_of l

  low : N.size ≤ 127
  unfolding network nodes_in
  low = l.within.few_nodes

  abbrev taken : ℕ
  taken = parent_taken b (at l.nodes.secondary r) (at l.nodes.principal r)

  taken_is : (σ : Switching) → taken ≡ parent N (turned σ r b) r
  unfolding network
  taken_is σ = rw (← principal_in _ l.nodes r lr ur, ← secondary_in _ l.nodes r lr ur) (sym (parent_turned N σ r b d))

  pub arc_moves : {t : Tree} → SomeHeld N t → (up t r ≤ 127) × (taken ≤ 127) × (1 ≤ arcs t (up t r)) × (arcs t taken ≤ 127)
  arc_moves {t} H =
      let σ = H.switching in
      let h = H.held in
      let k : Node N (parent N (turned σ r b) r) = parent_node N w.sound low r d (turned σ r b) in
      (omega (arith, low, h.ups r, parent_node N w.sound low r d σ), omega (arith, low, taken_is σ, k), rw (h.ups r) (arcs_some N w.sound low r d σ t h), rw (taken_is σ) (arcs_few N w.sound low r d σ t h _ k))

  pub turns_none : (t : Tree) → lateral t r ≡ b → Turns N r b t t
  turns_none t e = record { holds = λ σ h. turn_none N w.sound low r d σ t h b e }

  pub turns_moved : (t : Tree) → length t.up ≡ 128 → length t.lateral ≡ 128 → length t.arcs ≡ 128 → {q : ℕ} {a : List ℕ} → q ≡ taken → a ≡ arc_moved t.arcs (up t r) q
      → Turns N r b t (record { up = set t.up r q; lateral = set t.lateral r b; rank = t.rank; arcs = a })
  turns_moved t x y z eq ea = rw (ea, eq) (record { holds = λ σ h. turn_moved N w.sound low r d σ t h b (up t r) taken (h.ups r) (taken_is σ) x y z })
