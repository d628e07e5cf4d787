-- The turns of the loop in which two climbers meet, over the table. What the climbers have added up and what lies ahead of them make up their whole ways,
-- so that nothing added up is more than a whole way, which has no more arcs than there are nodes.
-- Assumes nothing.
use Rattle.std.proofs.Common.{◌≡◌, refl, sym, ◌∙◌, ap, ◌≢◌, true, ℕ, ◌+◌, ◌≤◌, ◌<◌, arith}
use Rattle.finite.specs.Tests.{same, tally}
use Rattle.finite.proofs.Tests.{tally_le}
use Rattle.topology.proofs.Climbing.{meet_over_left, meet_over_right}
use Rattle.layout.specs.inner.Tree.{up, lateral, rank, arcs}
use Rattle.layout.specs.inner.Tree.{rank as rank_at}
use Rattle.layout.specs.declared.tree.Tree.{Tree as Table}
use Rattle.displayed.specs.Displayed.{Displayed, NodeOf, Tree, reaches, common, way}
use Rattle.displayed.specs.inner.Arcs.{move, mark}
use Rattle.displayed.specs.inner.Tabled.{tree_in}
use Rattle.displayed.proofs.Trees.{common_node}
use Rattle.displayed.proofs.Ways.{way_le}
use Rattle.displayed.proofs.Tabled.{read_up, read_rank, read_lateral, read_forks}
use Rattle.displayed.proofs.Meeting as M
use Rattle.mapping.specs.inner.Climbs.{fork_in, tree_of, Climbable, Light, starting, climbed_by, Meeting}
use Rattle.mapping.specs.declared.Climber.{Climber}

pub fork_le : (t : Table) (v : ℕ) → fork_in t v ≤ 1
unfolding fork_in
fork_le t v = tally_le (same (arcs t v) 2)

-- 1 for a node that a secondary arc is on into
abbrev moves : Table → ℕ → ℕ
moves t v = tally (lateral t v)

-- a climber from x, where b is above x: its rank is that of the table, and what it has counted and what lies ahead of it make up the whole way
pub record Side (T : Displayed) (t : Table) (b x : ℕ) (c : Climber) : Type 0 where
  pub rank : c.rank ≡ rank_at t c.at
  pub transfers : c.way.transfers + way T (move T) b c.at ≡ way T (move T) b x
  pub losses : c.way.losses + way T (mark T) b c.at ≡ way T (mark T) b x

-- the climbers of x and y
pub record Climbing (T : Displayed) (t : Table) (x y : ℕ) (l r : Climber) : Type 0 where
  pub climbs : M.Climb T x y l.at r.at l.way.last r.way.last
  pub left : Side T t (common T x y) x l
  pub right : Side T t (common T x y) y r

-- what the table tells at a node
module _ (n : ℕ) (t : Table) (K : Climbable n t) (a : ℕ) (k : NodeOf (tree_of n t) a) where
  pub node_low : 1 ≤ a
  node_low = k.low

  pub node_high : a ≤ n
  unfolding tree_of tree_in
  node_high = k.high

  pub up_is : (tree_of n t).up a ≡ up t a
  unfolding tree_of
  up_is = read_up n (up t) (rank t) (moves t) (fork_in t) a node_low node_high

  pub rank_is : (tree_of n t).rank a ≡ rank t a
  unfolding tree_of
  rank_is = read_rank n (up t) (rank t) (moves t) (fork_in t) a node_low (K.ranks a node_low node_high)

  pub move_is : tally (lateral t a) ≡ move (tree_of n t) a
  unfolding tree_of
  move_is = sym (read_lateral n (up t) (rank t) (moves t) (fork_in t) a (tally_le (lateral t a)))

  pub mark_is : fork_in t (up t a) ≡ mark (tree_of n t) a
  unfolding tree_of
  mark_is = sym (ap (λ (v : ℕ). tally ((tree_of n t).forks v)) up_is ∙ read_forks n (up t) (rank t) (moves t) (fork_in t) (up t a) (fork_le t (up t a)))

  pub node_few : a ≤ 127
  node_few = omega (arith, node_high, K.few)

  pub up_few : up t a ≤ 127
  up_few = omega (arith, K.ups a, K.few)

module _ {n : ℕ} {t : Table} {x y : ℕ} (K : Climbable n t) (nodes : NodeOf (tree_of n t) x × NodeOf (tree_of n t) y) where
  abbrev T : Displayed
  T = tree_of n t

  kx : NodeOf T x
  kx = nodes.0

  ky : NodeOf T y
  ky = nodes.1

  ok : Tree T
  ok = K.tree

  pub climbing_start : {l r : Climber} → l ≡ starting t x → r ≡ starting t y → Climbing T t x y l r
  unfolding starting
  climbing_start el er = rw (el, er) (record {
    climbs = M.meet_start T ok x y kx ky;
    left = record { rank = refl; transfers = omega arith; losses = omega arith };
    right = record { rank = refl; transfers = omega arith; losses = omega arith };
  })

  -- a whole way has at most n transfers and n losses
  meeting : NodeOf T (common T x y)
  meeting = common_node T ok x y kx ky

  size_few : T.size ≤ 127
  unfolding tree_of tree_in
  size_few = K.few

  way_few : (f : ℕ → ℕ) (z : ℕ) → NodeOf T z → reaches T (common T x y) z ≡ true → ((c : ℕ) → f c ≤ 1) → way T f (common T x y) z ≤ 127
  way_few f z k o l = omega (arith, way_le T ok f 1 (common T x y) z meeting k o (λ c _. l c), size_few)

  left_few : (f : ℕ → ℕ) → ((c : ℕ) → f c ≤ 1) → way T f (common T x y) x ≤ 127
  left_few f l = way_few f x kx (meet_over_left T.rank T.up ok.falls x y) l

  right_few : (f : ℕ → ℕ) → ((c : ℕ) → f c ≤ 1) → way T f (common T x y) y ≤ 127
  right_few f l = way_few f y ky (meet_over_right T.rank T.up ok.falls x y) l

  move_le : (c : ℕ) → move T c ≤ 1
  move_le c = tally_le (T.lateral c)

  mark_le : (c : ℕ) → mark T c ≤ 1
  mark_le c = tally_le (T.forks (T.up c))

  -- what a climber has counted is no more than its whole way
  light : {z : ℕ} {c : Climber} → ((f : ℕ → ℕ) → ((v : ℕ) → f v ≤ 1) → way T f (common T x y) z ≤ 127) → Side T t (common T x y) z c → Light c.way
  light few s = record { transfers = omega (arith, s.transfers, few (move T) move_le); losses = omega (arith, s.losses, few (mark T) mark_le) }

  module _ {l r : Climber} (c : Climbing T t x y l r) where
    ka : NodeOf T l.at
    ka = c.climbs.left.node

    kb : NodeOf T r.at
    kb = c.climbs.right.node

    -- either may climb
    pub climbs_left : (l.at ≤ 127) × (up t l.at ≤ 127) × Light l.way
    climbs_left = (node_few n t K l.at ka, up_few n t K l.at ka, light left_few c.left)

    pub climbs_right : (r.at ≤ 127) × (up t r.at ≤ 127) × Light r.way
    climbs_right = (node_few n t K r.at kb, up_few n t K r.at kb, light right_few c.right)

    -- the ranks of the table are the tree's
    ranks : (T.rank l.at ≡ l.rank) × (T.rank r.at ≡ r.rank)
    ranks = (rank_is n t K l.at ka ∙ sym c.left.rank, rank_is n t K r.at kb ∙ sym c.right.rank)

    -- the climber of x stands no higher, and climbs
    module _ (h : r.rank ≤ l.rank) (d : l.at ≢ r.at) where
      lower : T.rank r.at ≤ T.rank l.at
      lower = omega (arith, ranks.0, ranks.1)

      up_a : up t l.at ≡ T.up l.at
      up_a = sym (up_is n t K l.at ka)

      pub climbing_left : {w : Climber} → w ≡ climbed_by t l → Climbing T t x y w r
      unfolding climbed_by
      climbing_left e = rw e (record {
        climbs = M.turn_left T ok x y l.at r.at l.way.last r.way.last kx ky c.climbs (up t l.at) lower d up_a;
        left = record {
          rank = refl;
          transfers = M.sum_left T ok x y l.at r.at l.way.last r.way.last kx ky c.climbs (move T) l.way.transfers _ _ (up t l.at) c.left.transfers lower d (move_is n t K l.at ka) up_a;
          losses = M.sum_left T ok x y l.at r.at l.way.last r.way.last kx ky c.climbs (mark T) l.way.losses _ _ (up t l.at) c.left.losses lower d (mark_is n t K l.at ka) up_a;
        };
        right = c.right;
      })

      pub falls_left : {w : Climber} → w ≡ climbed_by t l → T.rank w.at + T.rank r.at < T.rank l.at + T.rank r.at
      unfolding climbed_by
      falls_left e = rw e (M.less_left T ok x y l.at r.at l.way.last r.way.last kx ky c.climbs (up t l.at) lower d up_a)

    -- the climber of y stands lower, and climbs
    module _ (h : l.rank < r.rank) where
      higher : T.rank l.at < T.rank r.at
      higher = omega (arith, ranks.0, ranks.1)

      up_b : up t r.at ≡ T.up r.at
      up_b = sym (up_is n t K r.at kb)

      pub climbing_right : {w : Climber} → w ≡ climbed_by t r → Climbing T t x y l w
      unfolding climbed_by
      climbing_right e = rw e (record {
        climbs = M.turn_right T ok x y l.at r.at l.way.last r.way.last kx ky c.climbs (up t r.at) higher up_b;
        left = c.left;
        right = record {
          rank = refl;
          transfers = M.sum_right T ok x y l.at r.at l.way.last r.way.last kx ky c.climbs (move T) r.way.transfers _ _ (up t r.at) c.right.transfers higher (move_is n t K r.at kb) up_b;
          losses = M.sum_right T ok x y l.at r.at l.way.last r.way.last kx ky c.climbs (mark T) r.way.losses _ _ (up t r.at) c.right.losses higher (mark_is n t K r.at kb) up_b;
        };
      })

      pub falls_right : {w : Climber} → w ≡ climbed_by t r → T.rank l.at + T.rank w.at < T.rank l.at + T.rank r.at
      unfolding climbed_by
      falls_right e = rw e (M.less_right T ok x y l.at r.at l.way.last r.way.last kx ky c.climbs (up t r.at) higher up_b)

    pub climbing_done : l.at ≡ r.at → Meeting T x y (record { node = l.at; left = l.way; right = r.way })
    climbing_done e = record {
      node = M.done_node T ok x y l.at r.at l.way.last r.way.last kx ky c.climbs e;
      left = record {
        transfers = M.sum_left_done T ok x y l.at r.at l.way.last r.way.last kx ky c.climbs (move T) l.way.transfers _ e c.left.transfers;
        losses = M.sum_left_done T ok x y l.at r.at l.way.last r.way.last kx ky c.climbs (mark T) l.way.losses _ e c.left.losses;
        last = M.done_left T ok x y l.at r.at l.way.last r.way.last kx ky c.climbs e;
      };
      right = record {
        transfers = M.sum_right_done T ok x y l.at r.at l.way.last r.way.last kx ky c.climbs (move T) r.way.transfers _ e c.right.transfers;
        losses = M.sum_right_done T ok x y l.at r.at l.way.last r.way.last kx ky c.climbs (mark T) r.way.losses _ e c.right.losses;
        last = M.done_right T ok x y l.at r.at l.way.last r.way.last kx ky c.climbs e;
      };
    }
