-- The tree of the switching that has every reticulation on principal: its parents are those of the principal arcs, and so are the on arcs.
-- Assumes nothing.
use Rattle.std.proofs.Common.{◌≡◌, ℕ, ◌≤◌, Bool, false, List, replicate, sym, ◌∙◌, ap, arith}
use Rattle.std.proofs.lemmas.List.{length-replicate, get_or-replicate, get_or_past}
use Rattle.finite.specs.Range.{children}
use Rattle.finite.specs.Tables.{at, holds, zeros, filled, within}
use Rattle.finite.proofs.Cases.{by_less}
use Rattle.finite.proofs.Tables.{filled_in, filled_within, within_in, zeros_at, zeros_long}
use Rattle.finite.proofs.Count.{children_same}
use Rattle.topology.specs.Networks.{Network}
use Rattle.topology.specs.Switchings.{all_principal, on_secondary, parent, on_arcs}
use Rattle.topology.specs.Lines.{network}
use Rattle.topology.proofs.Above.{parent_principal}
use Rattle.layout.specs.declared.lines.Lines.{Lines}
use Rattle.layout.specs.declared.networks.PartedNetwork.{PartedNetwork}
use Rattle.layout.specs.Lines.{nodes_in, network_of}
use Rattle.layout.specs.inner.Tree.{blank, Held}
use Rattle.layout.specs.declared.tree.Tree.{Tree}

-- a column filled at the nodes
column_is : (n : ℕ) (f : ℕ → ℕ) → n ≤ 127 → at (filled n zeros f) ≡ within n f
column_is n f few = filled_within n zeros f (omega (arith, zeros_long)) zeros_at

-- no flag is set
flags_clear : (v : ℕ) → holds (replicate 128 false) v ≡ false
flags_clear v = by_less v 128 (λ l. get_or-replicate 128 v false false l) (λ l. get_or_past (replicate 128 false) v false (omega (arith, length-replicate {A = Bool} 128 false)))

module _ (w : PartedNetwork) where
  abbrev l : Lines
  l = w.lines.now

  abbrev N : Network
  N = network_of l

  abbrev n : ℕ
  n = l.header.nodes

  parent_is : (v : ℕ) → parent N all_principal v ≡ within n (at l.nodes.principal) v
  unfolding network nodes_in
  parent_is v = parent_principal N v

  pub started : {t : Tree} {u r a : List ℕ} → t ≡ blank → u ≡ filled n t.up (at l.nodes.principal) → r ≡ w.parts.now.rank → a ≡ filled n zeros (children n (at l.nodes.principal))
      → Held N all_principal (record { up = u; lateral = t.lateral; rank = r; arcs = a })
  unfolding network nodes_in on_arcs on_secondary
  started et eu er ea = rw (ea, er, eu, et) (record {
    ups = λ v. ap (λ (f : ℕ → ℕ). f v) (column_is n (at l.nodes.principal) l.within.few_nodes) ∙ sym (parent_is v);
    laterals = flags_clear;
    ranks = w.parted.ranks;
    counts = λ v k. filled_in n zeros (children n (at l.nodes.principal)) v k.low k.high (omega (arith, zeros_long, l.within.few_nodes))
        ∙ children_same n (at l.nodes.principal) (parent N all_principal) v (λ x a b. sym (parent_is x ∙ within_in n (at l.nodes.principal) x a b));
    past = w.parted.bare_ranks.past;
  })
