-- The turns of a loop in which two climbers meet: the one of higher rank climbs, and each side keeps the arc that it climbed last and may add up a weight
-- f. The climber that moves is not at the meeting node yet, for the other one is below that node and would have the higher rank.
-- Assumes nothing.
use Rattle.std.proofs.Common.{◌≡◌, refl, sym, ◌∙◌, ap, ◌≢◌, true, ℕ, ◌+◌, ◌≤◌, ◌<◌, arith}
use Rattle.finite.proofs.Cases.{by_eq}
use Rattle.topology.proofs.Climbing.{over_self, over_up, over_trans, over_low, meet_same, meet_left, meet_right, meet_over_left, meet_over_right, along_stop, along_go, along_over, along_some}
use Rattle.displayed.specs.Displayed.{Displayed, NodeOf, Tree, reaches, common, way, departure}
use Rattle.displayed.proofs.Trees.{reaches_node, common_node}
use Rattle.displayed.proofs.Departures.{depart_self, departs}

-- a climb from x on its way to m stands at a; p is the arc climbed last, 0 where none was
pub record Side (T : Displayed) (m x a p : ℕ) : Type 0 where
  pub node : NodeOf T a
  pub ahead : reaches T m a ≡ true
  pub behind : reaches T a x ≡ true
  pub last : p ≡ departure T a x

-- the climbers of x and y stand at a and b
pub record Climb (T : Displayed) (x y a b p q : ℕ) : Type 0 where
  pub meets : common T a b ≡ common T x y
  pub left : Side T (common T x y) x a p
  pub right : Side T (common T x y) y b q

module _ (T : Displayed) (ok : Tree T) where
  -- one side: it starts, and climbs on where it is not at m yet
  pub side_start : (m x : ℕ) → NodeOf T x → reaches T m x ≡ true → Side T m x x 0
  side_start m x k r = record { node = k; ahead = r; behind = over_self T.rank T.up ok.falls x; last = sym (depart_self T ok x) }

  pub side_turn : (m x a p v : ℕ) → m ≢ 0 → Side T m x a p → a ≢ m → v ≡ T.up a → Side T m x v a
  side_turn m x a p v z c d e = rw e (record { node = above; ahead = on; behind = over_trans T.rank T.up ok.falls (T.up a) a x next c.behind; last = sym (departs T ok (T.up a) a x some refl c.behind) })
    where
      some : a ≢ 0
      some q = omega (arith, c.node.low)

      on : reaches T m (T.up a) ≡ true
      on = along_over T.rank T.up ok.falls (λ _. 0) m a c.ahead d

      next : reaches T (T.up a) a ≡ true
      next = over_up T.rank T.up ok.falls (T.up a) a (over_self T.rank T.up ok.falls (T.up a))

      above : NodeOf T (T.up a)
      above = by_eq (T.up a) m (λ q. rw q (reaches_node T ok m a z c.node c.ahead))
          (λ q. reaches_node T ok (T.up a) a (along_some T.rank T.up ok.falls (λ _. 0) m (T.up a) on q) c.node next)

  -- two climbers
  pub meet_start : (x y : ℕ) → NodeOf T x → NodeOf T y → Climb T x y x y 0 0
  meet_start x y kx ky = record {
    meets = refl;
    left = side_start (common T x y) x kx (meet_over_left T.rank T.up ok.falls x y);
    right = side_start (common T x y) y ky (meet_over_right T.rank T.up ok.falls x y);
  }

  module _ (x y a b p q : ℕ) (kx : NodeOf T x) (ky : NodeOf T y) (c : Climb T x y a b p q) where
    m_some : common T x y ≢ 0
    m_some e = omega (arith, (common_node T ok x y kx ky).low)

    -- a climber of no lower rank than the other is not where they meet
    pub left_apart : T.rank b ≤ T.rank a → a ≢ b → a ≢ common T x y
    left_apart l d e = omega (arith, over_low T.rank T.up ok.falls (common T x y) b c.right.ahead (λ z. d (e ∙ z)), ap T.rank e)

    pub right_apart : T.rank a < T.rank b → b ≢ common T x y
    right_apart l e = by_eq (common T x y) a
        (λ z. omega (arith, ap T.rank (e ∙ z)))
        (λ z. omega (arith, over_low T.rank T.up ok.falls (common T x y) a c.left.ahead z, ap T.rank e))

    pub turn_left : (v : ℕ) → T.rank b ≤ T.rank a → a ≢ b → v ≡ T.up a → Climb T x y v b a q
    turn_left v l d e = record {
      meets = rw e (sym (meet_left T.rank T.up ok.falls a b l d) ∙ c.meets);
      left = side_turn (common T x y) x a p v m_some c.left (left_apart l d) e;
      right = c.right;
    }

    pub turn_right : (v : ℕ) → T.rank a < T.rank b → v ≡ T.up b → Climb T x y a v p b
    turn_right v l e = record {
      meets = rw e (sym (meet_right T.rank T.up ok.falls a b l) ∙ c.meets);
      left = c.left;
      right = side_turn (common T x y) y b q v m_some c.right (right_apart l) e;
    }

    -- the ranks fall
    pub less_left : (v : ℕ) → T.rank b ≤ T.rank a → a ≢ b → v ≡ T.up a → T.rank v + T.rank b < T.rank a + T.rank b
    less_left v l d e = rw e (omega (arith, ok.falls.fall a (λ z. omega (arith, c.left.node.low))))

    pub less_right : (v : ℕ) → T.rank a < T.rank b → v ≡ T.up b → T.rank a + T.rank v < T.rank a + T.rank b
    less_right v l e = rw e (omega (arith, ok.falls.fall b (λ z. omega (arith, c.right.node.low))))

    -- they have met
    pub done_node : a ≡ b → a ≡ common T x y
    done_node e = sym (meet_same T.rank T.up ok.falls a b e) ∙ c.meets

    pub done_left : a ≡ b → p ≡ departure T (common T x y) x
    done_left e = rw (done_node e) at c.left.last

    pub done_right : a ≡ b → q ≡ departure T (common T x y) y
    done_right e = rw (sym e ∙ done_node e) at c.right.last

    -- the sum r of a weight f over the arcs that one side has climbed: k is the whole, what is ahead is left to add
    module _ (f : ℕ → ℕ) (r k w v : ℕ) where
      pub sum_left : r + way T f (common T x y) a ≡ k → T.rank b ≤ T.rank a → a ≢ b → w ≡ f a → v ≡ T.up a → r + w + way T f (common T x y) v ≡ k
      sum_left s l d ew ev = rw (ew, ev) (omega (arith, along_go T.rank T.up ok.falls f (common T x y) a c.left.ahead (left_apart l d)))

      pub sum_right : r + way T f (common T x y) b ≡ k → T.rank a < T.rank b → w ≡ f b → v ≡ T.up b → r + w + way T f (common T x y) v ≡ k
      sum_right s l ew ev = rw (ew, ev) (omega (arith, along_go T.rank T.up ok.falls f (common T x y) b c.right.ahead (right_apart l)))

    module _ (f : ℕ → ℕ) (r k : ℕ) (e : a ≡ b) where
      pub sum_left_done : r + way T f (common T x y) a ≡ k → r ≡ k
      sum_left_done s = omega (arith, along_stop T.rank T.up ok.falls f (common T x y) a (done_node e))

      pub sum_right_done : r + way T f (common T x y) b ≡ k → r ≡ k
      sum_right_done s = omega (arith, along_stop T.rank T.up ok.falls f (common T x y) b (sym e ∙ done_node e))
