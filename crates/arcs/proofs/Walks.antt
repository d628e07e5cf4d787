-- The walk keeps its order: a node whose parents stand is put at the place after the last, so it comes after them, and no other node changes its place.
-- A node that has no place is not counted, so there is one left for it.
-- Assumes nothing.
use Rattle.std.proofs.Common.{◌≡◌, ◌≢◌, refl, sym, ap, ◌∙◌, Bool, true, not, ℕ, zero, suc, ◌+◌, ◌≤◌, ◌<◌, arith}
use Rattle.std.proofs.Math.ListN.{set, length-set}
use Rattle.std.proofs.Math.Seq.{get_or-set_same, get_or-set_other}
use Rattle.finite.specs.Tests.{same, tally}
use Rattle.finite.specs.Range.{sum, count}
use Rattle.finite.specs.Tables.{at, zeros}
use Rattle.finite.proofs.Cases.{by_eq}
use Rattle.std.proofs.lemmas.Bool.{not_from_true, not_from_false}
use Rattle.finite.proofs.Tests.{is_same, not_same, tally_le, tally_no, tally_yes}
use Rattle.finite.proofs.Sum.{sum_short, sum_point}
use Rattle.finite.proofs.Count.{count_zero}
use Rattle.finite.proofs.Tables.{zeros_long, zeros_at}
use Rattle.topology.specs.Networks.{Network, Node}
use Rattle.topology.specs.Lines.{network as of_lines}
use Rattle.topology.proofs.Above.{fall_principal, fall_secondary}
use Rattle.layout.specs.declared.lines.Lines.{Lines}
use Rattle.layout.specs.declared.networks.SoundNetwork.{SoundNetwork}
use Rattle.layout.specs.Lines.{nodes_in, network_of}
use Rattle.layout.proofs.Numbered.{principal_in, secondary_in}
use Rattle.arcs.specs.declared.Walk.{Walk}
use Rattle.arcs.specs.inner.Arcs.{Ordered}
use Rattle.arcs.specs.inner.Walks.{order, place, Walked, Due, Visited}

-- whether v stands
abbrev stands : Walk → ℕ → Bool
stands w v = not (same (place w v) 0)

is_standing : (w : Walk) (v : ℕ) → place w v ≢ 0 → tally (stands w v) ≡ 1
is_standing w v d = tally_yes (stands w v) (not_from_false (same (place w v) 0) (not_same d))

not_standing : (w : Walk) (v : ℕ) → place w v ≡ 0 → tally (stands w v) ≡ 0
not_standing w v e = tally_no (stands w v) (not_from_true (same (place w v) 0) (is_same e))

-- a node that has no place gets the next
module _ {N : Network} {v : ℕ} {w : Walk} (W : Walked N w) (D : Due N v w) (new : place w v ≡ 0) where
  pub room : w.standing < N.size
  unfolding count
  room = omega (arith, W.standing, sum_short N.size v (λ u. tally (stands w u)) D.node.low D.node.high (λ u. tally_le (stands w u)) (not_standing w v new))

  module _ (lk : w.standing ≤ 126) (lv : v ≤ 127) where
    abbrev k : ℕ
    k = w.standing + 1

    abbrev w₁ : Walk
    w₁ = record { order = set w.order (w.standing + 1) v; standing = w.standing + 1; place = set w.place v (w.standing + 1) }

    order_here : order w₁ k ≡ v
    order_here = get_or-set_same w.order k v 0 (omega (arith, W.order_long))

    order_there : (i : ℕ) → i ≢ k → order w₁ i ≡ order w i
    order_there i d = get_or-set_other w.order k i v 0 d

    place_here : place w₁ v ≡ k
    place_here = get_or-set_same w.place v k 0 (omega (arith, W.place_long))

    place_there : (u : ℕ) → u ≢ v → place w₁ u ≡ place w u
    place_there u d = get_or-set_other w.place v u k 0 d

    -- what stood stands where it stood
    place_old : (u : ℕ) → place w u ≢ 0 → place w₁ u ≡ place w u
    place_old u d = place_there u (λ e. d (ap (place w) e ∙ new))

    -- of a node that stands now and a parent of it that stands now or did
    parent_stands : (p u : ℕ) → place w u ≢ 0 → (place w p ≢ 0) × (place w p < place w u) → (place w₁ p ≢ 0) × (place w₁ p < place w₁ u)
    parent_stands p u d q = rw (place_old p q.0, place_old u d) q

    parent_new : (p : ℕ) → place w p ≢ 0 → (place w₁ p ≢ 0) × (place w₁ p < place w₁ v)
    parent_new p d = rw (place_old p d, place_here) (d, omega (arith, W.high p))

    stood : (u : ℕ) → u ≢ v → place w₁ u ≢ 0 → place w u ≢ 0
    stood u n d e = d (place_there u n ∙ e)

    walked_more : Walked N w₁
    unfolding count
    walked_more = record {
      order_long = length-set w.order k v ∙ W.order_long;
      place_long = length-set w.place v k ∙ W.place_long;
      standing = omega (
        arith,
        W.standing,
        sum_point N.size (λ u. tally (stands w u)) (λ u. tally (stands w₁ u)) v 1 D.node.low D.node.high (λ u d. rw (place_there u d))
            (is_standing w₁ v (λ e. omega (arith, place_here)) ∙ sym (ap (λ x. x + 1) (not_standing w v new))),
      );
      visits = λ u n d. by_eq u v
          (λ e. rw (e, place_here, order_here))
          (λ q. let s = stood u q d in rw (place_there u q) (order_there (place w u) (λ e. omega (arith, W.high u)) ∙ W.visits u n s));
      elsewhere = λ u d. place_there u (λ e. d (rw e D.node)) ∙ W.elsewhere u d;
      high = λ u. by_eq u v (λ e. rw e (omega (arith, place_here))) (λ q. omega (arith, place_there u q, W.high u));
      node = λ i l h. by_eq i k (λ e. rw (e, order_here) D.node) (λ q. rw (order_there i q) (W.node i l (omega arith)));
      placed = λ i l h. by_eq i k
          (λ e. rw (e, order_here, place_here))
          (λ q. let b : i ≤ w.standing = omega arith in
          rw (order_there i q) (place_old (order w i) (λ e. omega (arith, W.placed i l b)) ∙ W.placed i l b));
      principal = λ u n d p. by_eq u v (λ e. rw e (parent_new (N.principal v) (D.principal (rw e at p)))) (λ q. let s = stood u q d in parent_stands (N.principal u) u s (W.principal u n s p));
      secondary = λ u n d p. by_eq u v (λ e. rw e (parent_new (N.secondary v) (D.secondary (rw e at p)))) (λ q. let s = stood u q d in parent_stands (N.secondary u) u s (W.secondary u n s p));
    }

    pub appended : Visited N v w (record { order = set w.order (w.standing + 1) v; standing = w.standing + 1; place = set w.place v (w.standing + 1) })
    appended = record {
      walked = walked_more;
      stands = λ _ e. omega (arith, place_here);
      stay = λ u d. rw (place_old u d) d;
    }

-- nothing is done for a number that is no node, and for a node that stands
pub stands_already : {N : Network} {v : ℕ} {w : Walk} → Walked N w → (v ≢ 0 → place w v ≢ 0) → Visited N v w w
stands_already W s = record { walked = W; stands = s; stay = λ u d. d }

-- a visit after others: what they placed stays
pub visited_then : {N : Network} {p v : ℕ} {w w₁ w₂ : Walk} → Visited N p w w₁ → Visited N v w₁ w₂ → Visited N v w w₂
visited_then A B = record { walked = B.walked; stands = B.stands; stay = λ u d. B.stay u (A.stay u d) }

-- the parents of node v in the lines: they are nodes or 0, their rank is less, and once both are visited v is due
module _ (network : SoundNetwork) (v : ℕ) (high : v ≤ network.lines.now.header.nodes) (some : v ≢ 0) where
  abbrev lines : Lines
  lines = network.lines.now

  abbrev M : Network
  M = network_of lines

  node_v : Node M v
  unfolding of_lines nodes_in
  node_v = record { low = omega arith; high = high }

  principal_is : M.principal v ≡ at lines.nodes.principal v
  unfolding of_lines
  principal_is = principal_in lines.header.nodes lines.nodes v (omega arith) high

  secondary_is : M.secondary v ≡ at lines.nodes.secondary v
  unfolding of_lines
  secondary_is = secondary_in lines.header.nodes lines.nodes v (omega arith) high

  pub principal_high : at lines.nodes.principal v ≤ lines.header.nodes
  unfolding of_lines nodes_in
  principal_high = rw principal_is at (network.sound.in_principal v node_v)

  pub secondary_high : at lines.nodes.secondary v ≤ lines.header.nodes
  unfolding of_lines nodes_in
  secondary_high = rw secondary_is at (network.sound.in_secondary v node_v)

  pub principal_falls : (t : ℕ) → M.rank v ≡ t → M.rank (at lines.nodes.principal v) < t
  principal_falls t q = rw (principal_is, q) at (fall_principal M network.sound v some)

  pub secondary_falls : (t : ℕ) → M.rank v ≡ t → M.rank (at lines.nodes.secondary v) < t
  secondary_falls t q = by_eq (at lines.nodes.secondary v) 0
      (λ z. rw (← q, z, network.sound.rank_none) (network.sound.rank_some v some))
      (λ d. rw (secondary_is, q) at (fall_secondary M network.sound v (λ z. d (sym secondary_is ∙ z))))

  pub due : {w w₁ w₂ : Walk} → Visited M (at lines.nodes.principal v) w w₁ → Visited M (at lines.nodes.secondary v) w₁ w₂ → Due M v w₂
  due A B = record {
    node = node_v;
    principal = λ d. rw principal_is (B.stay (at lines.nodes.principal v) (A.stands (λ z. d (principal_is ∙ z))));
    secondary = λ d. rw secondary_is (B.stands (λ z. d (secondary_is ∙ z)));
  }

-- before the walk nobody stands
walked_none : {N : Network} {w : Walk} → w.order ≡ zeros → w.standing ≡ 0 → w.place ≡ zeros → Walked N w
walked_none {N} {w} a b c = record {
  order_long = rw a zeros_long;
  place_long = rw c zeros_long;
  standing = b ∙ sym (count_zero N.size _ (λ v l u. not_from_true (same (place w v) 0) (is_same (none v))));
  visits = λ v n d. absurd (d (none v));
  high = λ v. omega (arith, none v);
  elsewhere = λ v d. none v;
  node = λ i l h. absurd (omega arith);
  placed = λ i l h. absurd (omega arith);
  principal = λ v n d. absurd (d (none v));
  secondary = λ v n d. absurd (d (none v));
}
  where
    none : (v : ℕ) → place w v ≡ 0
    none v = rw c (zeros_at v)

-- the walk has come to the nodes below v
pub record Come (N : Network) (v : ℕ) (w : Walk) : Type 0 where
  pub walked : Walked N w
  pub stand : (u : ℕ) → 1 ≤ u → u < v → place w u ≢ 0

pub come_none : {N : Network} {w : Walk} → w.order ≡ zeros → w.standing ≡ 0 → w.place ≡ zeros → Come N 1 w
come_none a b c = record { walked = walked_none a b c; stand = λ u l h. absurd (omega arith) }

pub come_next : {N : Network} {v : ℕ} {w w₁ : Walk} → Come N v w → Visited N v w w₁ → Come N (v + 1) w₁
come_next {v} C B = record {
  walked = B.walked;
  stand = λ u l h. by_eq u v (λ q. rw q (B.stands (λ z. omega arith))) (λ d. B.stay u (C.stand u l (omega arith)));
}

count_all : (n : ℕ) (f : ℕ → Bool) → ((v : ℕ) → 1 ≤ v → v ≤ n → f v ≡ true) → count n f ≡ n
unfolding count sum
count_all zero f h = refl
count_all (suc k) f h = omega (arith, tally_yes (f (suc k)) (h (suc k) (omega arith) (omega arith)), count_all k f (λ v l u. h v l (omega arith)))

-- where all have come, every place is taken
pub come_all : {N : Network} {v : ℕ} {w : Walk} → N.size < v → Come N v w → Ordered N (order w)
come_all {N} {v} {w} l C = record {
  places = record {
    place = place w;
    place_low = λ u n. omega (arith, some u n);
    place_high = λ u n. omega (arith, full, W.high u);
    visits = λ u n. W.visits u n (some u n);
    node = λ i a b. W.node i a (omega (arith, full));
    placed = λ i a b. W.placed i a (omega (arith, full));
    principal = λ u n d. (W.principal u n (some u n) d).1;
    secondary = λ u n d. (W.secondary u n (some u n) d).1;
  };
  elsewhere = W.elsewhere;
}
  where
    W : Walked N w
    W = C.walked

    some : (u : ℕ) → Node N u → place w u ≢ 0
    some u n = C.stand u n.low (omega (arith, n.high))

    full : w.standing ≡ N.size
    full = W.standing ∙ count_all N.size _ (λ u a b. not_from_false (same (place w u) 0) (not_same (some u (record { low = a; high = b }))))
