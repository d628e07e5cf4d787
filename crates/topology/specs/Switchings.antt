-- Switchings (01, "Settings and placement": a setting turns on one parent arc of each reticulation; all other arcs into nodes are on).
-- A switching is 01's "setting" of the whole network.
-- Assumes nothing.
use Rattle.std.specs.Prelude.{◌≡◌, ◌≢◌, Bool, true, false, cond, ◌&&◌, ℕ, ◌<◌}
use Rattle.finite.specs.Range.{children}
use Rattle.topology.specs.Climbing.{over, meet}
use Rattle.topology.specs.Networks.{Network, is_reticulation}

-- of each reticulation, whether its secondary parent arc is on; at other numbers it is not read
abbrev pub Switching : Type 0
Switching = ℕ → Bool

-- every reticulation takes its principal parent
abbrev pub all_principal : Switching
all_principal r = false

-- the secondary arc into v is on
unfoldable pub on_secondary : Network → Switching → ℕ → Bool
on_secondary N σ v = σ v && is_reticulation N v

-- the parent whose arc into v is on. All of a switching is in this function: the on arcs are the arcs from `parent N σ v` to v
unfoldable pub parent : Network → Switching → ℕ → ℕ
parent N σ v = cond (on_secondary N σ v) (N.secondary v) (N.principal v)

-- how many on arcs leave v
unfoldable pub on_arcs : Network → Switching → ℕ → ℕ
on_arcs N σ v = children N.size (parent N σ) v

-- x is reached from v along on arcs, a node reaching itself
unfoldable pub above : Network → Switching → ℕ → ℕ → Bool
above N σ v x = over N.rank (parent N σ) v x

-- the same, as a chain of on arcs
pub data Above (N : Network) (σ : Switching) (v : ℕ) : ℕ → Type 0 where
  here : {x : ℕ} → v ≡ x → Above N σ v x
  step : {x : ℕ} → x ≢ 0 → Above N σ v (parent N σ x) → Above N σ v x

-- the lowest node from which both x and y are reached along on arcs
unfoldable pub lca : Network → Switching → ℕ → ℕ → ℕ
lca N σ x y = meet N.rank (parent N σ) x y

-- Whole-network settings are ordered by their reticulations in rising node number, principal before secondary, the first difference deciding (01):
-- σ and τ agree at D, or σ is principal and τ secondary at the lowest number of D where they differ. D is the reticulations in question
pub data NotAfter (D : ℕ → Type 0) (σ τ : Switching) : Type 0 where
  equal : ((r : ℕ) → D r → σ r ≡ τ r) → NotAfter D σ τ
  before : (r : ℕ) → D r → ((q : ℕ) → q < r → D q → σ q ≡ τ q) → σ r ≡ false → τ r ≡ true → NotAfter D σ τ
