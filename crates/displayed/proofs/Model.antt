-- The mapping into a network under a switching: its tree is a tree into which the gene tree is seated, columns that hold the tree give the network's mapping,
-- and only what a switching says at reticulations counts.
-- Assumes nothing.
use Rattle.std.proofs.Common.{◌≡◌, ap, ℕ, ◌≤◌}
use Rattle.topology.specs.Networks.{Network, Node, Sound, Reticulation}
use Rattle.topology.specs.Switchings.{Switching}
use Rattle.reconciliation.specs.GeneTrees.{GeneTree, Rooted, Seated}
use Rattle.reconciliation.specs.Costs.{Costs}
use Rattle.displayed.specs.Displayed.{Displayed, Tree}
use Rattle.displayed.specs.Mapping.{SeatedIn}
use Rattle.displayed.specs.Mapping as T
use Rattle.displayed.specs.Displays.{switched, display, base}
use Rattle.displayed.specs.inner.Tabled.{tree_in, Holds}
use Rattle.displayed.specs.Model.{tree_of, place, event, transfers, losses, duplication_count, transfer_count, loss_count, lca_cost}
use Rattle.displayed.proofs.Displays.{display_tree, seated, switched_agree}
use Rattle.displayed.proofs.Places as P
use Rattle.displayed.proofs.Events as E
use Rattle.displayed.proofs.Bounds as B
use Rattle.displayed.proofs.Same.{SameTree, same_seated, same_place, same_event, same_transfers, same_losses, same_duplication_count, same_transfer_count, same_loss_count, same_cost_lem}
use Rattle.displayed.proofs.Tabled.{held_same, held_tree}

module _ (N : Network) (ok : Sound N) (σ : Switching) where
  pub tree_is : Tree (tree_of N σ)
  tree_is = display_tree N ok base σ

  module _ (G : GeneTree) (t : Rooted G) (s : Seated N G) where
    pub tree_seated : SeatedIn (tree_of N σ) G
    tree_seated = seated N ok σ G s

    -- the numbers of a gene's line are bounded by the network
    pub place_node : (g : ℕ) → 1 ≤ g → g ≤ G.count → Node N (place N G σ g)
    unfolding place display switched
    place_node g l u = let k = P.place_node (tree_of N σ) tree_is G t tree_seated g l u in record { low = k.low; high = k.high }

    pub event_small : (g : ℕ) → event N G σ g ≤ 3
    unfolding event
    event_small g = E.event_small (tree_of N σ) G g

    pub transfers_le : (g : ℕ) → transfers N G σ g ≤ N.size
    unfolding transfers display switched
    transfers_le g = B.transfers_le (tree_of N σ) tree_is G t tree_seated g

    pub losses_le : (g : ℕ) → losses N G σ g ≤ N.size
    unfolding losses display switched
    losses_le g = B.losses_le (tree_of N σ) tree_is G t tree_seated g

    -- columns that hold the tree
    module _ (n : ℕ) (up rank lateral forks : ℕ → ℕ) (H : Holds (tree_of N σ) n up rank lateral forks) where
      abbrev X : Displayed
      X = tree_in n up rank lateral forks

      pub table_tree : Tree X
      table_tree = held_tree (tree_of N σ) tree_is n up rank lateral forks H

      held : SameTree X (tree_of N σ)
      held = held_same (tree_of N σ) tree_is n up rank lateral forks H

      pub table_seated : SeatedIn X G
      table_seated = same_seated X (tree_of N σ) table_tree tree_is held G tree_seated

      pub table_place : (g : ℕ) → T.place X G g ≡ place N G σ g
      unfolding place
      table_place = same_place X (tree_of N σ) table_tree tree_is held G tree_seated t

      pub table_event : (g : ℕ) → T.event X G g ≡ event N G σ g
      unfolding event
      table_event = same_event X (tree_of N σ) table_tree tree_is held G tree_seated t

      pub table_transfers : (g : ℕ) → T.transfers X G g ≡ transfers N G σ g
      unfolding transfers
      table_transfers = same_transfers X (tree_of N σ) table_tree tree_is held G tree_seated t

      pub table_losses : (g : ℕ) → T.losses X G g ≡ losses N G σ g
      unfolding losses
      table_losses = same_losses X (tree_of N σ) table_tree tree_is held G tree_seated t

      pub table_duplication_count : T.duplication_count X G ≡ duplication_count N G σ
      unfolding duplication_count
      table_duplication_count = same_duplication_count X (tree_of N σ) table_tree tree_is held G tree_seated t

      pub table_transfer_count : T.transfer_count X G ≡ transfer_count N G σ
      unfolding transfer_count
      table_transfer_count = same_transfer_count X (tree_of N σ) table_tree tree_is held G tree_seated t

      pub table_loss_count : T.loss_count X G ≡ loss_count N G σ
      unfolding loss_count
      table_loss_count = same_loss_count X (tree_of N σ) table_tree tree_is held G tree_seated t

      pub table_cost : (C : Costs) → T.lca_cost X G C ≡ lca_cost N G C σ
      unfolding lca_cost
      table_cost = same_cost_lem X (tree_of N σ) table_tree tree_is held G tree_seated t

-- only what a switching says at reticulations counts: the trees are equal, and so is all that is computed from them
module _ (N : Network) (σ τ : Switching) (a : (r : ℕ) → Reticulation N r → σ r ≡ τ r) where
  pub tree_same : tree_of N σ ≡ tree_of N τ
  tree_same = ap (display base) (switched_agree N σ τ a)

  module _ (G : GeneTree) where
    pub place_same : place N G σ ≡ place N G τ
    unfolding place
    place_same = ap (λ (X : Displayed). T.place X G) tree_same

    pub event_same : event N G σ ≡ event N G τ
    unfolding event
    event_same = ap (λ (X : Displayed). T.event X G) tree_same

    pub transfers_same : transfers N G σ ≡ transfers N G τ
    unfolding transfers
    transfers_same = ap (λ (X : Displayed). T.transfers X G) tree_same

    pub losses_same : losses N G σ ≡ losses N G τ
    unfolding losses
    losses_same = ap (λ (X : Displayed). T.losses X G) tree_same

    pub duplication_count_same : duplication_count N G σ ≡ duplication_count N G τ
    unfolding duplication_count
    duplication_count_same = ap (λ (X : Displayed). T.duplication_count X G) tree_same

    pub transfer_count_same : transfer_count N G σ ≡ transfer_count N G τ
    unfolding transfer_count
    transfer_count_same = ap (λ (X : Displayed). T.transfer_count X G) tree_same

    pub loss_count_same : loss_count N G σ ≡ loss_count N G τ
    unfolding loss_count
    loss_count_same = ap (λ (X : Displayed). T.loss_count X G) tree_same

    pub lca_cost_same : (C : Costs) → lca_cost N G C σ ≡ lca_cost N G C τ
    unfolding lca_cost
    lca_cost_same C = ap (λ (X : Displayed). T.lca_cost X G C) tree_same
