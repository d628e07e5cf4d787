-- An accepted network has fewer reticulations than half its nodes: by its shape each node has as many principal arcs out as secondary ones, and one
-- more if it is a reticulation; and each node but the root has one principal parent.
-- Assumes nothing.
use Rattle.std.proofs.Common.{ℕ, ◌+◌, ◌*◌, ◌≤◌, ◌<◌, arith}
use Rattle.finite.specs.Tests.{tally}
use Rattle.finite.specs.Range.{count, children}
use Rattle.finite.proofs.Tests.{is_same, not_same}
use Rattle.finite.proofs.Sum.{sum_le, sum_add}
use Rattle.finite.proofs.Count.{children_few, children_all}
use Rattle.topology.specs.Networks.{Network, Node, Sound, is_reticulation, reticulations}
use Rattle.topology.specs.Lines.{NodeLines, network}
use Rattle.shapes.specs.Refusals.{Shape, reticulation, inner, leaf}
use Rattle.network.specs.inner.Accepted.{AcceptedNetwork}

module _ (N : Network) (ok : Sound N) (shape : (v : ℕ) → Node N v → Shape N v) where
  open N use {size, principal, secondary}

  balance : (v : ℕ) → Shape N v → tally (is_reticulation N v) + children size secondary v ≤ children size principal v
  unfolding is_reticulation
  balance v (reticulation r) = rw (not_same r.second_parent) (omega (arith, r.one_principal, r.no_secondary))
  balance v (inner r) = rw (is_same r.one_parent) (omega (arith, r.two_arcs_lem, r.some_principal))
  balance v (leaf r) = rw (is_same r.one_parent) (omega (arith, r.no_principal, r.no_secondary))

  pub few_reticulations : 2 * reticulations N < size
  unfolding reticulations is_reticulation count
  few_reticulations = omega (
    arith,
    sum_add size (λ v. tally (is_reticulation N v)) (children size secondary),
    sum_le size (λ v. tally (is_reticulation N v) + children size secondary v) (children size principal) (λ v l u. balance v (shape v (record { low = l; high = u }))),
    children_all size secondary (λ x l u. ok.in_secondary x (record { low = l; high = u })),
    children_few size ok.root principal ok.root_in.low ok.root_in.high ok.root_principal,
  )

-- the same of a network that was accepted
pub accepted_reticulations : (L : NodeLines) → AcceptedNetwork L → 2 * reticulations (network L) < L.size
unfolding network
accepted_reticulations L a = few_reticulations (network L) a.sound a.shape
