-- Species networks (001, section 2: LGT networks) as two parent functions. A number that is no node has no parents.
-- Assumes nothing.
use Rattle.std.specs.Prelude.{◌≡◌, ◌≢◌, Bool, not, ℕ, ◌≤◌, ◌<◌}
use Rattle.finite.specs.Tests.{same}
use Rattle.finite.specs.Range.{count}

-- the nodes are 1..size; a node's principal and secondary parent, 0 for none; a rank that rises along every arc, 0 for no node
pub record Network : Type 0 where
  pub size : ℕ
  pub principal : ℕ → ℕ
  pub secondary : ℕ → ℕ
  pub rank : ℕ → ℕ

-- v is a node
pub record Node (N : Network) (v : ℕ) : Type 0 where
  pub low : 1 ≤ v
  pub high : v ≤ N.size

-- no arc leaves v
pub record NoArcs (N : Network) (v : ℕ) : Type 0 where
  pub principal : (x : ℕ) → Node N x → N.principal x ≢ v
  pub secondary : (x : ℕ) → Node N x → N.secondary x ≢ v

-- a reticulation is a node with a secondary parent
abbrev pub Reticulation : Network → ℕ → Type 0
Reticulation N r = N.secondary r ≢ 0

unfoldable pub is_reticulation : Network → ℕ → Bool
is_reticulation N r = not (same (N.secondary r) 0)

-- how many reticulations
unfoldable pub reticulations : Network → ℕ
reticulations N = count N.size (is_reticulation N)

-- what the theory asks of a network, and refusals 6, 7 and 8 of 01 leave: parents are nodes, the rank rises along every arc, one node has no principal
-- parent
pub record Sound (N : Network) : Type 0 where
  pub zero_principal : N.principal 0 ≡ 0
  pub zero_secondary : N.secondary 0 ≡ 0
  pub out_principal : (v : ℕ) → N.size < v → N.principal v ≡ 0
  pub out_secondary : (v : ℕ) → N.size < v → N.secondary v ≡ 0
  pub in_principal : (v : ℕ) → Node N v → N.principal v ≤ N.size
  pub in_secondary : (v : ℕ) → Node N v → N.secondary v ≤ N.size
  pub rank_none : N.rank 0 ≡ 0
  pub rank_some : (v : ℕ) → v ≢ 0 → 1 ≤ N.rank v
  pub rank_principal : (v : ℕ) → Node N v → N.principal v ≢ 0 → N.rank (N.principal v) < N.rank v
  pub rank_secondary : (v : ℕ) → Node N v → N.secondary v ≢ 0 → N.rank (N.secondary v) < N.rank v
  pub both : (v : ℕ) → Node N v → N.secondary v ≢ 0 → N.principal v ≢ 0
  pub root : ℕ
  pub root_in : Node N root
  pub root_principal : N.principal root ≡ 0
  pub root_one : (v : ℕ) → Node N v → N.principal v ≡ 0 → v ≡ root
