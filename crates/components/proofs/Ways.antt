-- The way between two nodes of the principal tree, climbed from the node of larger rank, is what is above just one of them (`between_left`); the nodes
-- on the ways between the two ends of the secondary arcs are those that are no tops (`ways_are`).
-- Assumes nothing.
use Rattle.std.proofs.Common.{◌≡◌, ◌≢◌, Bool, true, false, not, ◌||◌, List, length, set, ℕ, zero, suc, ◌+◌, ◌-◌, ◌≤◌, ◌<◌, refl, sym, ap, ◌∙◌, arith, add-one}
use Rattle.std.specs.Bool.{beq}
use mathlib.Core.Bool.{or-false, or_assoc, or_comm}
use Rattle.std.proofs.Math.ListN.{replicate, length-set, length-replicate}
use Rattle.std.proofs.Math.Seq.{get_or-set_same, get_or-set_other}
use Rattle.finite.specs.Tests.{same}
use Rattle.finite.specs.Range.{any}
use Rattle.finite.specs.Tables.{at, holds}
use Rattle.finite.proofs.Cases.{by_bool, by_eq, clash}
use Rattle.std.proofs.lemmas.Bool.{or_right, not-true, not-false, not_from_false, not_from_true}
use Rattle.finite.proofs.Tests.{is_same, not_same, is_beq, test_iff}
use Rattle.finite.proofs.Every.{some_at, is_every, not_some}
use Rattle.topology.specs.Networks.{Network, Node, Sound, Reticulation, is_reticulation}
use Rattle.topology.specs.Switchings.{all_principal, above}
use Rattle.topology.specs.Components.{is_top, component}
use Rattle.topology.specs.Lines.{network as of_lines}
use Rattle.topology.proofs.Climbing.{low_some}
use Rattle.topology.proofs.Above.{node_principal, fall_principal, falls_principal, above_self, above_low, tree_not, reticulation_is, is_reticulation_lem}
use Rattle.topology.proofs.Components.{component_top, component_up, top_root, top_reticulation}
use Rattle.layout.specs.declared.lines.Lines.{Lines}
use Rattle.layout.specs.declared.networks.SoundNetwork.{SoundNetwork}
use Rattle.layout.specs.Lines.{nodes_in, network_of}
use Rattle.layout.proofs.Numbered.{principal_in, secondary_in}
use Rattle.components.specs.declared.climbs.Climbs.{Climbs}
use Rattle.components.specs.inner.Ways.{between, bridged, MarkedWay, MarkedWays, NonTops}

-- marking a node
pub marked_set : (m : List Bool) (a : ℕ) → a < length m → (w : ℕ) → holds (set m a true) w ≡ (same w a || holds m w)
marked_set m a l w = by_eq w a
    (λ e. rw (e, get_or-set_same m a true false l, is_same {m = a} refl))
    (λ d. rw (get_or-set_other m a w true false d, not_same d))

-- a reticulation whose two ends are both below w or both not
plain_way : (N : Network) (w r : ℕ) → (Reticulation N r → above N all_principal w r ≡ above N all_principal w (N.secondary r)) → bridged N w r ≡ false
unfolding bridged between
plain_way N w r h = by_bool (is_reticulation N r) (λ t. rw (t, is_beq (h (reticulation_is N r t)))) (λ t. rw t)

way_plain : (N : Network) (w r : ℕ) → Reticulation N r → bridged N w r ≡ false → beq (above N all_principal w r) (above N all_principal w (N.secondary r)) ≡ true
unfolding bridged between
way_plain N w r d t = not-false _ (rw (is_reticulation_lem N r d) at t)

top_by : (N : Network) (w : ℕ) → ((r : ℕ) → 1 ≤ r → r ≤ N.size → Reticulation N r → beq (above N all_principal w r) (above N all_principal w (N.secondary r)) ≡ true) → is_top N w ≡ true
unfolding is_top
top_by N w h = or_right (same (N.principal w) 0) _ (is_every N.size _ (λ r l u. by_eq (N.secondary r) 0 (λ e. rw (is_same e)) (λ d. rw (not_same d) (h r l u d))))

module _ (N : Network) (ok : Sound N) where
  open N use {size}

  pub between_same : (a w : ℕ) → between N a a w ≡ false
  unfolding between
  between_same a w = rw (is_beq {a = above N all_principal w a} refl)

  pub between_sym : (a b w : ℕ) → between N a b w ≡ between N b a w
  unfolding between
  between_sym a b w = by_bool (above N all_principal w a) (λ p. by_bool (above N all_principal w b) (λ q. rw (p, q)) (λ q. rw (p, q))) (λ p. by_bool (above N all_principal w b) (λ q. rw (p, q)) (λ q. rw (p, q)))

  -- one step from the node of larger rank
  pub between_left : (a b w : ℕ) → N.rank b ≤ N.rank a → a ≢ b → between N a b w ≡ (same w a || between N (N.principal a) b w)
  unfolding between
  between_left a b w l d = by_eq w a
      (λ e. rw (e, above_self N ok all_principal a, apart, is_same {m = a} refl))
      (λ q. rw (tree_not N ok w a q, not_same q))
    where
      apart : above N all_principal a b ≡ false
      apart = by_bool (above N all_principal a b) (λ t. absurd (omega (arith, above_low N ok all_principal a b t d))) (λ t. t)

  -- a node is a top exactly when it is on none of the ways
  pub ways_are : (w : ℕ) → Node N w → is_top N w ≡ not (any size (bridged N w))
  ways_are w k = test_iff (is_top N w) (not (any size (bridged N w)))
      (λ t. not_from_false _ (by_bool (any size (bridged N w)) (λ q. let r = some_at size (bridged N w) q in clash r.3 (kept t r.0)) (λ q. q)))
      (λ q. crossed_none (not-true _ q))
    where
      kept : is_top N w ≡ true → (r : ℕ) → bridged N w r ≡ false
      kept t r = plain_way N w r (λ d. top_reticulation N ok w r k t d)

      crossed_none : any size (bridged N w) ≡ false → is_top N w ≡ true
      crossed_none q = top_by N w (λ r l u d. way_plain N w r d (not_some size (bridged N w) q r l u))

-- climbing from a and b, with what is marked: what was to be marked is marked or still to come
pub record OnWay (N : Network) (before : List Bool) (x y : ℕ) (marks : List Bool) (a b : ℕ) : Type 0 where
  pub long : length marks ≡ 128
  pub at_each : (w : ℕ) → (holds marks w || between N a b w) ≡ (holds before w || between N x y w)

module _ (climbs : Climbs) where
  abbrev lines : Lines
  lines = climbs.network.lines.now

  abbrev N : Network
  N = network_of lines

  -- a step from the node of larger rank
  module _ (a b : ℕ) (ia : a ≤ lines.header.nodes) (ib : b ≤ lines.header.nodes) (u : at climbs.ranks.now b ≤ at climbs.ranks.now a) (d : a ≢ b) where
    abbrev p : ℕ
    p = at lines.nodes.principal a

    low : N.rank b ≤ N.rank a
    unfolding of_lines nodes_in
    low = omega (arith, climbs.ranked.ranks a ia, climbs.ranked.ranks b ib)

    some_node : a ≢ 0
    some_node = low_some N.rank N.principal (falls_principal N climbs.network.sound) a b low d

    step_is : p ≡ N.principal a
    unfolding of_lines
    step_is = let z = some_node in sym (principal_in lines.header.nodes lines.nodes a (omega arith) ia)

    step_in : p ≤ lines.header.nodes
    unfolding of_lines nodes_in
    step_in = let z = some_node in rw step_is (climbs.network.sound.in_principal a (record { low = omega arith; high = ia }))

    step_falls : N.rank p < N.rank a
    step_falls = rw step_is (fall_principal N climbs.network.sound a some_node)

    step_marks : (m : List Bool) → a < length m → (w : ℕ) → (holds (set m a true) w || between N p b w) ≡ (holds m w || between N a b w)
    step_marks m s w = rw (marked_set m a s w, between_left N climbs.network.sound a b w low d, step_is, or_comm (same w a) (holds m w)) (or_assoc (holds m w) (same w a) (between N (N.principal a) b w))

  module _ (before : List Bool) (x y : ℕ) where
    pub way_end : (m : List Bool) (a b : ℕ) → OnWay N before x y m a b → a ≡ b → MarkedWay N before m x y
    way_end m a b o e = record { long = o.long; at_each = λ w. rw (apart w, or-false (holds m w)) at (o.at_each w) }
      where
        apart : (w : ℕ) → between N a b w ≡ false
        apart w = rw e (between_same N climbs.network.sound b w)

    -- the climber of larger rank goes on, to its principal parent
    module _ (m : List Bool) (a b : ℕ) (i : (a ≤ lines.header.nodes) × (b ≤ lines.header.nodes) × OnWay N before x y m a b) (d : a ≡ b → ⊥) where
      module _ (u : at climbs.ranks.now b ≤ at climbs.ranks.now a) where
        pub kept_left : a ≤ 127 → (at lines.nodes.principal a ≤ lines.header.nodes) × (b ≤ lines.header.nodes) × OnWay N before x y (set m a true) (at lines.nodes.principal a) b
        kept_left s = (
          step_in a b i.0 i.1 u d,
          i.1,
          record { long = length-set m a true ∙ i.2.long; at_each = λ w. step_marks a b i.0 i.1 u d m (omega (arith, i.2.long)) w ∙ i.2.at_each w },
        )

        pub less_left : N.rank (at lines.nodes.principal a) + N.rank b < N.rank a + N.rank b
        less_left = omega (arith, step_falls a b i.0 i.1 u d)

      module _ (u : at climbs.ranks.now a < at climbs.ranks.now b) where
        pub kept_right : b ≤ 127 → (a ≤ lines.header.nodes) × (at lines.nodes.principal b ≤ lines.header.nodes) × OnWay N before x y (set m b true) a (at lines.nodes.principal b)
        kept_right s = (
          i.0,
          step_in b a i.1 i.0 (omega arith) (λ q. d (sym q)),
          record {
            long = length-set m b true ∙ i.2.long;
            at_each = λ w. ap (λ (q : Bool). holds (set m b true) w || q) (between_sym N climbs.network.sound a (at lines.nodes.principal b) w)
                ∙ step_marks b a i.1 i.0 (omega arith) (λ q. d (sym q)) m (omega (arith, i.2.long)) w
                ∙ ap (λ (q : Bool). holds m w || q) (between_sym N climbs.network.sound b a w)
                ∙ i.2.at_each w;
          },
        )

        pub less_right : N.rank a + N.rank (at lines.nodes.principal b) < N.rank a + N.rank b
        less_right = omega (arith, step_falls b a i.1 i.0 (omega arith) (λ q. d (sym q)))

-- one reticulation more, and all
some_next : (k : ℕ) (f : ℕ → Bool) → any (k + 1) f ≡ (any k f || f (k + 1))
unfolding any
some_next k f = rw add-one (by_bool (any k f) (λ t. rw t (by_bool (f (suc k)) (λ q. rw q) (λ q. rw q))) (λ t. rw t (by_bool (f (suc k)) (λ q. rw q) (λ q. rw q))))

some_last : (k : ℕ) (f : ℕ → Bool) → 1 ≤ k → any k f ≡ (any (k - 1) f || f k)
some_last k f l = let e : k - 1 + 1 ≡ k = omega arith in rw e at (some_next (k - 1) f)

bridged_none : (N : Network) (w r : ℕ) → N.secondary r ≡ 0 → bridged N w r ≡ false
bridged_none N w r e = plain_way N w r (λ d. absurd (d e))

bridged_is : (N : Network) (w r : ℕ) → N.secondary r ≢ 0 → bridged N w r ≡ between N r (N.secondary r) w
unfolding bridged
bridged_is N w r d = rw (is_reticulation_lem N r d)

none_marked : (k v : ℕ) → holds (replicate k false) v ≡ false
none_marked zero v = refl
none_marked (suc k) zero = refl
none_marked (suc k) (suc v) = none_marked k v

pub ways_none : (N : Network) → MarkedWays N (replicate 128 false) 0
unfolding any
ways_none N = record { long = length-replicate 128 false; at_each = none_marked 128 }

module _ (network : SoundNetwork) where
  abbrev held : Lines
  held = network.lines.now

  abbrev M : Network
  M = network_of held

  -- node k with its secondary parent
  module _ (k : ℕ) (limits : (1 ≤ k) × (k ≤ held.header.nodes)) where
    second_is : M.secondary k ≡ at held.nodes.secondary k
    unfolding of_lines
    second_is = secondary_in held.header.nodes held.nodes k limits.0 limits.1

    pub second_in : at held.nodes.secondary k ≤ held.header.nodes
    unfolding of_lines nodes_in
    second_in = rw (← second_is) (network.sound.in_secondary k (record { low = limits.0; high = limits.1 }))

    -- where the ways of the reticulations before it are marked
    module _ (before : List Bool) (h : MarkedWays M before (k - 1)) where
      pub ways_plain : at held.nodes.secondary k ≡ 0 → MarkedWays M before k
      ways_plain z = record {
        long = h.long;
        at_each = λ w. h.at_each w ∙ sym (some_last k (bridged M w) limits.0 ∙ rw (bridged_none M w k (second_is ∙ z), or-false (any (k - 1) (bridged M w))));
      }

      pub ways_more : (after : List Bool) → (at held.nodes.secondary k ≡ 0 → ⊥) → MarkedWay M before after k (at held.nodes.secondary k) → MarkedWays M after k
      ways_more after d m = record {
        long = m.long;
        at_each = λ w. m.at_each w ∙ rw (h.at_each w, ← second_is, ← bridged_is M w k (λ z. d (sym second_is ∙ z))) (sym (some_last k (bridged M w) limits.0));
      }

  -- the loop is left before its turn at v
  pub ways_end : (marks : List Bool) (v : ℕ) → v ≤ held.header.nodes + 1 → held.header.nodes < v → MarkedWays M marks (v - 1) → NonTops M marks
  unfolding of_lines nodes_in
  ways_end marks v a b h = let e : v - 1 ≡ held.header.nodes = omega arith in
      record { at_each = λ w k. ways_are M network.sound w k ∙ ap not (sym ((rw e at h).at_each w)) }

-- going up from a node that is no top
module _ (network : SoundNetwork) (marks : List Bool) (tops : NonTops (network_of network.lines.now) marks) where
  abbrev sheet : Lines
  sheet = network.lines.now

  abbrev K : Network
  K = network_of sheet

  module _ (v a : ℕ) (i : (1 ≤ a) × (a ≤ sheet.header.nodes) × (component K a ≡ component K v)) where
    node : Node K a
    unfolding of_lines nodes_in
    node = record { low = i.0; high = i.1 }

    pub top_end : holds marks a ≡ false → a ≡ component K v
    top_end z = sym (component_top K network.sound a (tops.at_each a node ∙ not_from_false _ z)) ∙ i.2

    -- to its principal parent
    up : at sheet.nodes.principal a ≡ K.principal a
    unfolding of_lines
    up = sym (principal_in sheet.header.nodes sheet.nodes a i.0 i.1)

    pub up_less : K.rank (at sheet.nodes.principal a) < K.rank a
    up_less = rw up (fall_principal K network.sound a (omega (arith, i.0)))

    module _ (d : holds marks a ≡ true) where
      no_top : is_top K a ≡ false
      no_top = tops.at_each a node ∙ not_from_true _ d

      node_up : Node K (K.principal a)
      node_up = node_principal K network.sound a node (λ q. clash (top_root K network.sound a q) no_top)

      pub up_kept : (1 ≤ at sheet.nodes.principal a) × (at sheet.nodes.principal a ≤ sheet.header.nodes) × (component K (at sheet.nodes.principal a) ≡ component K v)
      unfolding of_lines nodes_in
      up_kept = (rw up node_up.low, rw up node_up.high, rw up (sym (component_up K network.sound a no_top) ∙ i.2))
