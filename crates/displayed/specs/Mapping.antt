-- The LCA mapping of a gene tree into a displayed tree (01, "Settings and placement"; 001, section 4.1): where each gene sits, its event, the transfers
-- and losses on its way, and the last-common-ancestor cost.
-- Assumes nothing.
use Rattle.std.specs.Prelude.{◌≡◌, ◌≢◌, Bool, true, cond, ◌&&◌, ◌||◌, not, ℕ, zero, suc, ◌+◌, ◌*◌, ◌≤◌}
use Rattle.finite.specs.Tests.{same, tally}
use Rattle.finite.specs.Range.{sum, count, any}
use Rattle.reconciliation.specs.GeneTrees.{GeneTree}
use Rattle.reconciliation.specs.Costs.{Costs}
use Rattle.displayed.specs.Displayed.{Displayed, NodeOf, common, way}

-- leaf genes sit at nodes that no on arc leaves, and a node that two on arcs leave forks (refusals 8, 9 and 13)
pub record SeatedIn (T : Displayed) (G : GeneTree) : Type 0 where
  pub seat : (g : ℕ) → 1 ≤ g → g ≤ G.count → G.left g ≡ 0 → NodeOf T (G.leaf g)
  pub ends : (g c : ℕ) → 1 ≤ g → g ≤ G.count → G.left g ≡ 0 → NodeOf T c → T.up c ≢ G.leaf g
  pub two : (c d : ℕ) → NodeOf T c → NodeOf T d → c ≢ d → T.up c ≡ T.up d → T.forks (T.up c) ≡ true

-- "a leaf gene sits at its species' leaf, an inner gene at the lowest node from which both children's places are reached along on arcs";
-- k bounds the depth of the subtree below g
unfoldable pub place_in : ℕ → Displayed → GeneTree → ℕ → ℕ
place_in zero T G g = G.leaf g
place_in (suc k) T G g =
    let r = common T (place_in k T G (G.left g)) (place_in k T G (G.right g)) in
    cond (same (G.left g) 0) (G.leaf g) r

unfoldable pub place : Displayed → GeneTree → ℕ → ℕ
place T G g = place_in G.count T G g

-- "one of the node's two on arcs is secondary"
unfoldable pub sends : Displayed → ℕ → Bool
sends T v = any T.size (λ c. T.lateral c && same (T.up c) v)

module _ (T : Displayed) (G : GeneTree) where
  -- gene g sits at v
  unfoldable pub sits : ℕ → ℕ → Bool
  sits v g = same (place T G g) v

  -- "duplication, when a child sits at the same node", the node being v
  unfoldable pub duplicates_at : ℕ → ℕ → Bool
  duplicates_at v g = not (same (G.left g) 0) && (sits v (G.left g) || sits v (G.right g))

  unfoldable pub is_duplication : ℕ → Bool
  is_duplication g = duplicates_at (place T G g) g

  -- "Its event is 0, 1, 2 or 3: 0 leaf gene; 2 duplication ..; otherwise 3 transfer, if one of the node's two on arcs is secondary, else 1 speciation"
  unfoldable pub event : ℕ → ℕ
  event g = cond (same (G.left g) 0) 0 (cond (is_duplication g) 2 (cond (sends T (place T G g)) 3 1))

  -- the sum of f over the arcs of "the way from a parent gene's place to a gene's place", each by its lower end; gene 1 has no way
  unfoldable pub on_the_way : (ℕ → ℕ) → ℕ → ℕ
  on_the_way f g = cond (same (G.parent g) 0) 0 (way T f (place T G (G.parent g)) (place T G g))

  -- "transfers are the on secondary arcs"
  unfoldable pub transfers : ℕ → ℕ
  transfers g = on_the_way (λ c. tally (T.lateral c)) g

  -- coming down the arc into c of its way gene g loses the other side: "the nodes strictly between that have two on arcs, and one more if the parent
  -- gene is a duplication and the gene sits elsewhere", at the duplication's own node
  unfoldable pub lost : ℕ → ℕ → Bool
  lost g c = cond (sits (T.up c) (G.parent g)) (duplicates_at (T.up c) (G.parent g)) (T.forks (T.up c))

  unfoldable pub losses : ℕ → ℕ
  losses g = on_the_way (λ c. tally (lost g c)) g

  -- over all genes
  unfoldable pub duplication_count : ℕ
  duplication_count = count G.count (λ g. same (event g) 2)

  unfoldable pub transfer_count : ℕ
  transfer_count = sum G.count transfers

  unfoldable pub loss_count : ℕ
  loss_count = sum G.count losses

-- "The last-common-ancestor cost .. is D × duplications + T × transfers + L × losses over all genes"
unfoldable pub lca_cost : Displayed → GeneTree → Costs → ℕ
lca_cost T G C = C.duplication * duplication_count T G + C.transfer * transfer_count T G + C.loss * loss_count T G
