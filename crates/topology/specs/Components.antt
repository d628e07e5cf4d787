-- Cut arcs and components (01, "Settings and placement", first paragraph), as 01 says them, and beside that in a form that computes.
-- proofs/CutArcs joins the two.
-- Assumes nothing.
use Rattle.std.specs.Prelude.{◌≡◌, ◌≢◌, Bool, ◌||◌, ◌&&◌, not, ℕ, ◌/◌, ◌%◌, ◌^◌}
use Rattle.std.specs.Bool.{beq}
use Rattle.finite.specs.Tests.{same, under}
use Rattle.finite.specs.Range.{every, count}
use Rattle.topology.specs.Climbing.{seek}
use Rattle.topology.specs.Networks.{Network, Node, Reticulation, is_reticulation}
use Rattle.topology.specs.Switchings.{Switching, all_principal, above}

pub data Kind : Type 0 where
  principal_arc secondary_arc : Kind
  deriving Discrete as kinds

-- where the arc of this kind into v starts, 0 for no arc
abbrev pub tail : Network → Kind → ℕ → ℕ
tail N principal_arc v = N.principal v
tail N secondary_arc v = N.secondary v

-- joined by a walk that ignores directions, along arcs of the set A
pub data Joined (N : Network) (A : Kind → ℕ → Type 0) : ℕ → ℕ → Type 0 where
  stay : {v : ℕ} → Joined N A v v
  arc : (k : Kind) (v : ℕ) → tail N k v ≢ 0 → A k v → Joined N A (tail N k v) v
  back : {v w : ℕ} → Joined N A v w → Joined N A w v
  via : {u v w : ℕ} → Joined N A u v → Joined N A v w → Joined N A u w

-- all arcs; all arcs but one
abbrev pub Every : Kind → ℕ → Type 0
Every k v = Unit {0}

abbrev pub But : Kind → ℕ → Kind → ℕ → Type 0
But k v j w = w ≡ v → j ≢ k

-- "A cut arc is one whose removal parts the network": without it some two nodes are not joined
pub record CutArc (N : Network) (k : Kind) (v : ℕ) : Type 0 where
  pub is_arc : tail N k v ≢ 0
  pub one : ℕ
  pub other : ℕ
  pub one_in : Node N one
  pub other_in : Node N other
  pub parted : ¬ (Joined N (But k v) one other)

-- "The pieces left when all cut arcs are taken away are the components": joined by a walk without cut arcs
abbrev pub Linked : Network → ℕ → ℕ → Type 0
Linked N = Joined N (λ k v. ¬ (CutArc N k v))

-- a top node of its component: no arc of the component leads into it
abbrev pub Top : Network → ℕ → Type 0
Top N v = (k : Kind) → tail N k v ≢ 0 → CutArc N k v

-- t is the top of v's component: no other top is linked with v
pub record TopOf (N : Network) (v t : ℕ) : Type 0 where
  pub is_node : Node N t
  pub is_top_lem : Top N t
  pub linked : Linked N t v
  pub alone : (u : ℕ) → Node N u → Top N u → Linked N u v → u ≡ t

-- the form that computes: w is a top when it has no parent, or when no secondary arc leads into or out of what is below w in the principal tree
unfoldable pub is_top : Network → ℕ → Bool
is_top N w = same (N.principal w) 0
    || every N.size (λ r. same (N.secondary r) 0 || beq (above N all_principal w r) (above N all_principal w (N.secondary r)))

-- a component goes by its top: the first top met when climbing the principal tree from v
unfoldable pub component : Network → ℕ → ℕ
component N v = seek N.rank (is_top N) N.principal v

-- r is a reticulation of the component with top c
unfoldable pub member_of : Network → ℕ → ℕ → Bool
member_of N c r = is_reticulation N r && same (component N r) c

-- how many reticulations a component has
unfoldable pub reticulation_count : Network → ℕ → ℕ
reticulation_count N c = count N.size (member_of N c)

-- "components that have any" (01, "The report"): a component goes by its top
unfoldable pub component_count : Network → ℕ
component_count N = count N.size (λ c. not (same (reticulation_count N c) 0))

-- how many reticulations of its component have a lower number than r, and how many of component c a higher one
unfoldable pub index_of : Network → ℕ → ℕ
index_of N r = count N.size (λ q. member_of N (component N r) q && under q r)

unfoldable pub reticulations_after : Network → ℕ → ℕ → ℕ
reticulations_after N c r = count N.size (λ q. member_of N c q && under r q)

-- "A setting of a component with k reticulations is a number below 2^k whose highest bit belongs to the lowest-numbered reticulation, 1 meaning
-- the secondary parent": the switching that setting x of component c stands for, all other components on principal
unfoldable pub setting_of : Network → ℕ → ℕ → Switching
setting_of N c x r = member_of N c r && same (x / 2 ^ reticulations_after N c r % 2) 1

-- two switchings are alike at the reticulations of component c
abbrev pub Agree : Network → Switching → Switching → ℕ → Type 0
Agree N σ τ c = (r : ℕ) → Reticulation N r → component N r ≡ c → σ r ≡ τ r
