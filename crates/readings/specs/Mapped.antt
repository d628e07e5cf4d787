-- The mapping under a setting of the whole network, as 01 words it ("Settings and placement"), of any functions that give each gene's place, event,
-- transfers and losses. They leave no choice: place after place, from the leaf genes up, the numbers of every gene are settled. proofs/Mapped shows them of
-- the functions that compute (crate displayed).
-- Assumes nothing.
use Rattle.std.specs.Prelude.{◌≡◌, ◌≢◌, ◌⊎◌, true, false, ℕ, ◌+◌, ◌*◌, ◌≤◌}
use Rattle.finite.specs.Tests.{same}
use Rattle.finite.specs.Range.{count, sum}
use Rattle.topology.specs.Networks.{Network, Node}
use Rattle.topology.specs.Switchings.{Switching, on_secondary, parent, on_arcs, Above}
use Rattle.reconciliation.specs.GeneTrees.{GeneTree}
use Rattle.reconciliation.specs.Costs.{Costs}
use Rattle.readings.specs.Many.{Many}

module _ (N : Network) (σ : Switching) where
  -- an on arc leads from v into c
  pub record OnArc (v c : ℕ) : Type 0 where
    pub is_node : Node N c
    pub from : parent N σ c ≡ v

  -- "the lowest node from which both .. are reached along on arcs, a node reaching itself": v reaches x and y, and whatever reaches both reaches v
  pub record Lowest (x y v : ℕ) : Type 0 where
    pub is_node : Node N v
    pub one : Above N σ v x
    pub other : Above N σ v y
    pub lowest : (w : ℕ) → Node N w → Above N σ w x → Above N σ w y → Above N σ w v

  -- on the way from b down to a, b left out: the lower ends of the way's arcs
  pub record OnWay (b a c : ℕ) : Type 0 where
    pub below : Above N σ b c
    pub apart : c ≢ b
    pub reaches : Above N σ c a

  module _ (G : GeneTree) (place : ℕ → ℕ) where
    -- "a child sits at the same node"
    abbrev pub ChildHere : ℕ → Type 0
    ChildHere g = (place (G.left g) ≡ place g) ⊎ (place (G.right g) ≡ place g)

    -- "Its event is 0, 1, 2 or 3: 0 leaf gene; 2 duplication, when a child sits at the same node; otherwise 3 transfer, if one of the node's two on arcs is
    -- secondary, else 1 speciation"
    pub data EventOf (g : ℕ) : ℕ → Type 0 where
      leaf_gene : G.left g ≡ 0 → EventOf g 0
      speciation : G.left g ≢ 0 → (¬ (ChildHere g)) → on_arcs N σ (place g) ≡ 2 → ((c : ℕ) → OnArc (place g) c → on_secondary N σ c ≡ false) → EventOf g 1
      duplication : G.left g ≢ 0 → ChildHere g → EventOf g 2
      transfer : G.left g ≢ 0 → (¬ (ChildHere g)) → on_arcs N σ (place g) ≡ 2 → (c : ℕ) → OnArc (place g) c → on_secondary N σ c ≡ true → EventOf g 3

    -- a gene's losses are k: "the nodes strictly between that have two on arcs, and one more if the parent gene is a duplication and the gene sits elsewhere"
    pub record Lost (event : ℕ → ℕ) (g k : ℕ) : Type 0 where
      pub between : ℕ
      pub counted : Many N (λ v. OnWay (place (G.parent g)) (place g) v × (v ≢ place g) × (on_arcs N σ v ≡ 2)) between
      pub one_more : event (G.parent g) ≡ 2 → place g ≢ place (G.parent g) → k ≡ between + 1
      pub no_more : (event (G.parent g) ≢ 2) ⊎ (place g ≡ place (G.parent g)) → k ≡ between

    pub record Mapped (event transfers losses : ℕ → ℕ) : Type 0 where
      -- "a leaf gene sits at its species' leaf, an inner gene at the lowest node from which both children's places are reached along on arcs"
      pub leaf_place : (g : ℕ) → 1 ≤ g → g ≤ G.count → G.left g ≡ 0 → place g ≡ G.leaf g
      pub inner_place : (g : ℕ) → 1 ≤ g → g ≤ G.count → G.left g ≢ 0 → Lowest (place (G.left g)) (place (G.right g)) (place g)
      pub events : (g : ℕ) → 1 ≤ g → g ≤ G.count → EventOf g (event g)
      -- gene 1 has no way; "On the way from a parent gene's place to a gene's place, transfers are the on secondary arcs"
      pub no_transfers : (g : ℕ) → G.parent g ≡ 0 → transfers g ≡ 0
      pub no_losses : (g : ℕ) → G.parent g ≡ 0 → losses g ≡ 0
      pub moved : (g : ℕ) → G.parent g ≢ 0 → Many N (λ c. OnWay (place (G.parent g)) (place g) c × (on_secondary N σ c ≡ true)) (transfers g)
      pub lost : (g : ℕ) → G.parent g ≢ 0 → Lost event g (losses g)

-- "D × duplications + T × transfers + L × losses over all genes": the duplications are the genes with event 2, the transfers and losses the lines' sums
pub record Added (G : GeneTree) (C : Costs) (event transfers losses : ℕ → ℕ) (duplication_count transfer_count loss_count cost : ℕ) : Type 0 where
  pub duplications : duplication_count ≡ count G.count (λ g. same (event g) 2)
  pub transferred : transfer_count ≡ sum G.count transfers
  pub given_up : loss_count ≡ sum G.count losses
  pub total : cost ≡ C.duplication * duplication_count + C.transfer * transfer_count + C.loss * loss_count
