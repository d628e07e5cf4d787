-- The last-common-ancestor cost as a sum over nodes: a duplication is charged where the gene sits, all that happens on an on arc at the arc's upper
-- end. Two displayed trees that are alike at a node charge it the same (proofs/Locality).
-- Assumes nothing.
use Rattle.std.specs.Prelude.{◌≡◌, ◌≢◌, Bool, cond, ◌&&◌, not, ℕ, ◌+◌, ◌*◌}
use Rattle.finite.specs.Tests.{same, tally}
use Rattle.finite.specs.Range.{sum}
use Rattle.reconciliation.specs.GeneTrees.{GeneTree}
use Rattle.reconciliation.specs.Costs.{Costs}
use Rattle.displayed.specs.Displayed.{Displayed, reaches}
use Rattle.displayed.specs.Mapping.{place, sits, duplicates_at, lost}

-- the on arc into c is on the way from gene g's parent's place to g's
unfoldable pub on_way : Displayed → GeneTree → ℕ → ℕ → Bool
on_way T G g c = not (same (G.parent g) 0) && (reaches T c (place T G g) && not (reaches T c (place T G (G.parent g))))

module _ (T : Displayed) (G : GeneTree) (C : Costs) where
  -- what gene g pays on the on arc into c
  unfoldable pub toll : ℕ → ℕ → ℕ
  toll g c = cond (on_way T G g c) (C.transfer * tally (T.lateral c) + C.loss * tally (lost T G g c)) 0

  -- what node v is charged
  unfoldable pub charge : ℕ → ℕ
  charge v = sum G.count (λ g. C.duplication * tally (sits T G v g && duplicates_at T G v g) + sum T.size (λ c. cond (same (T.up c) v) (toll g c) 0))

-- T and U are alike at v: the same on arcs leave it, each reaches the same nodes and is lateral in both or in neither, and v forks in both or in neither
pub record Alike (T U : Displayed) (v : ℕ) : Type 0 where
  pub size : T.size ≡ U.size
  pub arcs : (c : ℕ) → same (T.up c) v ≡ same (U.up c) v
  pub beyond : (c : ℕ) → c ≢ 0 → U.up c ≡ v → (x : ℕ) → reaches T c x ≡ reaches U c x
  pub lateral : (c : ℕ) → c ≢ 0 → U.up c ≡ v → T.lateral c ≡ U.lateral c
  pub forks : T.forks v ≡ U.forks v
