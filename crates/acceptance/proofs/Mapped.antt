-- An admitted sheet under the LCA mapping: its network is sound and its gene tree rooted and seated, so the theorem of the optimum applies to it, and
-- every number that the report writes is within the limits of the header. A species is borne by a leaf alone, so leaf genes sit at leaves.
-- Assumes nothing.
use Rattle.std.proofs.Common.{◌≡◌, refl, sym, ◌∙◌, ◌≢◌, ℕ, ◌+◌, ◌*◌, ◌≤◌, ◌<◌, arith}
use Rattle.finite.specs.Range.{count, children}
use Rattle.topology.specs.Networks.{Network, Node, Sound, is_reticulation, reticulations}
use Rattle.topology.specs.Switchings.{Switching, parent}
use Rattle.topology.specs.Components.{component, reticulation_count}
use Rattle.topology.specs.Lines.{Gene, NodeLines, GeneLines, network}
use Rattle.topology.proofs.Above.{parent_cases, by_node}
use Rattle.shapes.specs.Refusals.{Shape, IsLeaf, reticulation, inner, leaf}
use Rattle.network.specs.inner.Accepted.{AcceptedNetwork}
use Rattle.network.proofs.Acceptance.{accepted}
use Rattle.network.proofs.Bounds.{accepted_reticulations}
use Rattle.components.proofs.Readings.{few_reticulations, components_accepted}
use Rattle.reconciliation.specs.GeneTrees.{GeneTree, Rooted, Seated}
use Rattle.reconciliation.specs.Costs.{Costs}
use Rattle.reconciliation.specs.Limits.{Limits}
use Rattle.displayed.specs.Model.{place, event, transfers, losses, duplication_count, transfer_count, loss_count, lca_cost}
use Rattle.displayed.proofs.Model.{place_node, event_small, transfers_le, losses_le}
use Rattle.gene_tree.specs.Genes.{gene_tree_of, SeatAt}
use Rattle.gene_tree.proofs.Refusals.{accept_12, accept_13}
use Rattle.gene_tree.proofs.Genes.{count_at}
use Rattle.gene_tree.proofs.Genes as T
use Rattle.optimum.specs.Optimum.{trials, chosen, Optimal}
use Rattle.optimum.proofs.Optimum.{chosen_optimal}
use Rattle.optimum.proofs.Bounds.{chosen_small, duplications_small as few-duplications, transfers_small as few-transfers, losses_small as few-losses, trials_small as few-trials}
use Rattle.acceptance.specs.inner.Admitted.{Admitted}

-- no more than two arcs leave a node of any shape
few_arcs : (N : Network) (v : ℕ) → Shape N v → children N.size N.principal v + children N.size N.secondary v ≤ 2
few_arcs N v (reticulation r) = omega (arith, r.one_principal, r.no_secondary)
few_arcs N v (inner r) = omega (arith, r.two_arcs_lem)
few_arcs N v (leaf r) = omega (arith, r.no_principal, r.no_secondary)

module _ (L : NodeLines) (K : GeneLines) (C : Costs) (ok : Admitted L K C) where
  abbrev N : Network
  N = network L

  abbrev G : GeneTree
  G = gene_tree_of L K

  size_is : N.size ≡ L.size
  unfolding network
  size_is = refl

  pub network_accepted : AcceptedNetwork L
  network_accepted = accepted L ok.others ok.network

  -- what the theory asks of the network, the gene tree and the costs
  pub sound : Sound N
  sound = network_accepted.sound

  pub rooted : Rooted G
  rooted = T.rooted L K ok.limits.some_gene (accept_12 L K ok.genes)

  gene : (g : ℕ) → 1 ≤ g → g ≤ G.count → Gene K g
  gene g l u = record { low = l; high = omega (arith, count_at L K) }

  pub seat_at : (g : ℕ) → 1 ≤ g → g ≤ G.count → G.left g ≡ 0 → SeatAt L K g (G.leaf g)
  seat_at g l u e = T.seated L (accept_13 L K ok.genes) g (gene g l u) e

  pub seat_node : (g : ℕ) → 1 ≤ g → g ≤ G.count → G.left g ≡ 0 → Node N (G.leaf g)
  seat_node g l u e = let s = seat_at g l u e in record { low = s.low; high = omega (arith, size_is, s.high) }

  -- a node with a species is a leaf
  bears_leaf : (v : ℕ) → Node N v → L.species v ≢ 0 → IsLeaf N v
  bears_leaf v k d = go (network_accepted.shape v k)
    where
      go : Shape N v → IsLeaf N v
      go (leaf r) = r
      go (reticulation r) = absurd (d (network_accepted.other_species v k (λ q. omega (arith, q.no_principal, r.one_principal))))
      go (inner r) = absurd (d (network_accepted.other_species v k (λ q. omega (arith, q.no_principal, q.no_secondary, r.two_arcs_lem))))

  pub leaf_at_lem : (g : ℕ) → 1 ≤ g → g ≤ G.count → G.left g ≡ 0 → IsLeaf N (G.leaf g)
  leaf_at_lem g l u e = let s = seat_at g l u e in bears_leaf (G.leaf g) (seat_node g l u e) (λ z. s.some (sym s.bears ∙ z))

  pub seated : Seated N G
  seated = record {
    seat = seat_node;
    no_principal = λ g l u e. (leaf_at_lem g l u e).no_principal;
    no_secondary = λ g l u e. (leaf_at_lem g l u e).no_secondary;
    few = λ v k. few_arcs N v (network_accepted.shape v k);
  }

  pub limits : Limits N.size G.count C
  limits = rw (size_is, count_at L K) ok.limits

  -- no switching of the whole network is cheaper than the one chosen, and none that is as cheap comes before it
  pub optimal : Optimal N G C (chosen N G C)
  optimal = chosen_optimal N sound G rooted seated C

  -- the report's first line fits six columns
  pub cost_small : lca_cost N G C (chosen N G C) < 1000000
  cost_small = chosen_small N sound G rooted seated C limits

  pub duplications_small : duplication_count N G (chosen N G C) < 1000000
  duplications_small = few-duplications N sound G rooted seated C limits (chosen N G C)

  pub transfers_small : transfer_count N G (chosen N G C) < 1000000
  transfers_small = few-transfers N sound G rooted seated C limits (chosen N G C)

  pub losses_small : loss_count N G (chosen N G C) < 1000000
  losses_small = few-losses N sound G rooted seated C limits (chosen N G C)

  -- no component has more than 8 reticulations, fewer than half of the nodes are reticulations, and the trials are no more than 2,016
  pub component_few : (c : ℕ) → reticulation_count N c ≤ 8
  component_few = few_reticulations N sound (components_accepted L ok.component)

  pub reticulations_few : 2 * reticulations N < L.size
  reticulations_few = accepted_reticulations L network_accepted

  pub reticulations_small : count L.size (is_reticulation N) ≤ 63
  unfolding network reticulations
  reticulations_small = omega (arith, ok.limits.few_nodes, reticulations_few)

  pub trials_few : trials N ≤ 2016
  trials_few = few-trials N limits.few_nodes (λ c _ _. component_few c) (omega (arith, size_is, reticulations_few))

  pub trials_small : trials N < 1000000
  trials_small = omega (arith, trials_few)

  -- the parent of any number under a switching is a node, or 0
  pub parent_small : (σ : Switching) (v : ℕ) → parent N σ v ≤ 127
  parent_small σ v = parent_cases N σ v
      (λ e. by_node N sound v (λ k. omega (arith, e, limits.few_nodes, sound.in_principal v k)) (λ z _. omega (arith, e)))
      (λ _ e. by_node N sound v (λ k. omega (arith, e, limits.few_nodes, sound.in_secondary v k)) (λ _ z. omega (arith, e)))

  -- a gene's line in the report, under any switching
  module _ (σ : Switching) (g : ℕ) (lg : 1 ≤ g) (ug : g ≤ K.count) where
    in_count : g ≤ G.count
    in_count = omega (arith, count_at L K)

    place_in : Node N (place N G σ g)
    place_in = place_node N sound σ G rooted seated g lg in_count

    pub place_small : place N G σ g ≤ 127
    place_small = omega (arith, limits.few_nodes, place_in.high)

    pub event_few : event N G σ g ≤ 3
    event_few = event_small N sound σ G rooted seated g

    pub gene_transfers_small : transfers N G σ g < 1000000
    gene_transfers_small = omega (arith, limits.few_nodes, transfers_le N sound σ G rooted seated g)

    pub gene_losses_small : losses N G σ g < 1000000
    gene_losses_small = omega (arith, limits.few_nodes, losses_le N sound σ G rooted seated g)
