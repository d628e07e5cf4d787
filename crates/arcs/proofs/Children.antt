-- The columns of children hold the children by the lines: what is passed over numbers that are nodes reads the lines alone.
-- Assumes nothing.
use Rattle.std.proofs.Common.{◌≡◌, sym, ◌∙◌, List, ℕ, ◌≤◌, arith}
use Rattle.finite.specs.Tables.{at, zeros, filled, within}
use Rattle.finite.proofs.Tables.{within_in, filled_in, zeros_long, zeros_at}
use Rattle.tables.specs.Children.{next}
use Rattle.tables.proofs.Nexts.{next_same}
use Rattle.topology.specs.Lines.{network}
use Rattle.layout.specs.declared.lines.NodeColumns.{NodeColumns}
use Rattle.layout.specs.Lines.{nodes_in}
use Rattle.histories.specs.Families.{first_child, second_child, other_child}
use Rattle.arcs.specs.declared.Arcs.{Arcs}
use Rattle.arcs.specs.inner.Arcs.{order, first, second, other, Ordered, Laid}

-- where a pass has filled a column: the next child is looked for among the nodes
next_in : (n : ℕ) → n ≤ 127 → (parent : ℕ → ℕ) (above : ℕ → ℕ) {column : List ℕ} → column ≡ filled n zeros (λ v. next n parent (above v) v)
    → (v : ℕ) → 1 ≤ v → v ≤ n → at column v ≡ next n (within n parent) (above v) v
next_in n few parent above e v l u = rw e (filled_in n zeros _ v l u (omega (arith, zeros_long)) ∙ next_same n parent (within n parent) (above v) v (λ w lw uw. sym (within_in n parent w lw uw)))

-- the three passes: the children of each node that are above what a column has for it
module _ (n : ℕ) (l : NodeColumns) (few : n ≤ 127) (arcs : Arcs)
    (firsts : arcs.first ≡ filled n zeros (λ v. next n (at l.principal) (at zeros v) v))
    (seconds : arcs.second ≡ filled n zeros (λ v. next n (at l.principal) (first arcs v) v))
    (others : arcs.other ≡ filled n zeros (λ v. next n (at l.secondary) (at zeros v) v)) where
  first_in : (v : ℕ) → 1 ≤ v → v ≤ n → first arcs v ≡ first_child (nodes_in n l) v
  unfolding first_child nodes_in
  first_in v a b = rw (zeros_at v) at (next_in n few (at l.principal) (at zeros) firsts v a b)

  second_in : (v : ℕ) → 1 ≤ v → v ≤ n → second arcs v ≡ second_child (nodes_in n l) v
  unfolding second_child nodes_in
  second_in v a b = rw (first_in v a b) at (next_in n few (at l.principal) (first arcs) seconds v a b)

  other_in : (v : ℕ) → 1 ≤ v → v ≤ n → other arcs v ≡ other_child (nodes_in n l) v
  unfolding other_child nodes_in
  other_in v a b = rw (zeros_at v) at (next_in n few (at l.secondary) (at zeros) others v a b)

  pub laid : Ordered (network (nodes_in n l)) (order arcs) → Laid (nodes_in n l) arcs
  unfolding nodes_in
  laid o = record { firsts = first_in; seconds = second_in; others = other_in; ordered = o }
