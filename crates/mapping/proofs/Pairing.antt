-- An inner gene from where its children's climbs meet. The last arc of each climb leaves the gene's node, so where both children sit elsewhere these two
-- are all its on arcs: they tell whether it sends a secondary arc, and what the node would charge that is not passed.
-- Assumes nothing.
use Rattle.std.proofs.Common.{◌≡◌, refl, sym, ◌∙◌, ap, ◌≢◌, ◌⊎◌, inl, inr, Bool, true, false, cond, ◌||◌, ℕ, ◌≤◌, arith}
use Rattle.finite.specs.Tests.{same}
use Rattle.finite.proofs.Cases.{by_eq, by_bool, clash}
use Rattle.std.proofs.lemmas.Bool.{and_from}
use Rattle.finite.proofs.Tests.{is_same, not_same}
use Rattle.topology.proofs.Climbing.{meet_spec, meet_over_left, meet_over_right}
use Rattle.layout.specs.Events.{number}
use Rattle.layout.specs.inner.Tree.{up, lateral}
use Rattle.layout.specs.declared.tree.Tree.{Tree as Table}
use Rattle.layout.specs.declared.events.Event.{Event}
use Rattle.displayed.specs.Displayed.{Displayed, NodeOf, Tree, reaches, common, departure}
use Rattle.displayed.specs.Mapping.{sends}
use Rattle.displayed.specs.inner.Arcs.{mark}
use Rattle.displayed.specs.inner.Tabled.{tree_in}
use Rattle.displayed.proofs.Trees.{common_node, not_below}
use Rattle.displayed.proofs.Departures.{depart_self, departing, departure_node, depart_le}
use Rattle.displayed.proofs.Events.{Sends, sends_is, is_sends}
use Rattle.mapping.specs.inner.Climbs.{fork_in, tree_of, Climbable, IsWay, Meeting}
use Rattle.mapping.specs.inner.Pairs.{sent_by, event_by, Passable, passed_by, IsSteps, Paired}
use Rattle.mapping.specs.declared.Way.{Way}
use Rattle.mapping.specs.declared.Met.{Met}
use Rattle.mapping.specs.declared.Pair.{Pair}
use Rattle.mapping.specs.declared.Steps.{Steps}
use Rattle.mapping.proofs.Meeting.{node_high, up_is, mark_is}

-- the event is a duplication just where a child stays
pub stays_or_not : (sent : Bool) (b x y : ℕ) → same (event_by sent b x y) 2 ≡ (same x b || same y b)
unfolding event_by
stays_or_not sent b x y = by_bool (same x b || same y b) (λ h. rw h (is_same {m = 2} refl)) (λ h. rw h (other sent))
  where
    other : (s : Bool) → same (cond s 3 1) 2 ≡ false
    other true = not_same (λ e. omega arith)
    other false = not_same (λ e. omega arith)

module _ {n : ℕ} {t : Table} {x y : ℕ} (K : Climbable n t) (nodes : NodeOf (tree_of n t) x × NodeOf (tree_of n t) y) where
  abbrev T : Displayed
  T = tree_of n t

  kx : NodeOf T x
  kx = nodes.0

  ky : NodeOf T y
  ky = nodes.1

  abbrev b : ℕ
  b = common T x y

  ok : Tree T
  ok = K.tree

  over_x : reaches T b x ≡ true
  over_x = meet_over_left T.rank T.up ok.falls x y

  over_y : reaches T b y ≡ true
  over_y = meet_over_right T.rank T.up ok.falls x y

  -- one side: z is a child's place
  module _ (z : ℕ) (kz : NodeOf T z) (over : reaches T b z ≡ true) where
    last_few : departure T b z ≤ 127
    last_few = by_eq z b
        (λ e. omega (arith, ap (departure T b) e ∙ depart_self T ok b))
        (λ d. omega (arith, node_high n t K _ (departure_node T ok b z kz over d), K.few))

    last_mark : z ≢ b → fork_in t (up t (departure T b z)) ≡ mark T (departure T b z)
    last_mark d = mark_is n t K _ (departure_node T ok b z kz over d)

    passable : (w : Way) (event : Event) → IsWay T b z w → (number event ≢ 2 → z ≢ b) → Passable t event w
    passable w event i h = record {
      inside = rw i.last last_few;
      upper = omega (arith, K.ups w.last, K.few);
      added = λ d. rw (i.last, last_mark (h d), i.losses) (depart_le T ok b (mark T) z over (h d));
    }

    passes : (w : Way) (event : Event) (here : Bool) (s : Steps) → IsWay T b z w → same (number event) 2 ≡ here → (here ≡ false → z ≢ b) → s ≡ passed_by t event w → IsSteps T here b z s
    unfolding passed_by
    passes w event here s i e h q = rw (q, e) (record {
      transfers = i.transfers;
      losses = by_bool here
          (λ y. rw (y, i.losses))
          (λ f. rw (f, i.last, last_mark (h f), i.losses));
    })

  -- both sit elsewhere: the two last arcs are two, and all that leave b
  module _ (dx : x ≢ b) (dy : y ≢ b) where
    abbrev c : ℕ
    c = departure T b x

    abbrev d : ℕ
    d = departure T b y

    kc : NodeOf T c
    kc = departure_node T ok b x kx over_x dx

    kd : NodeOf T d
    kd = departure_node T ok b y ky over_y dy

    from_c : T.up c ≡ b
    from_c = (departing T ok b x over_x dx).from

    from_d : T.up d ≡ b
    from_d = (departing T ok b y over_y dy).from

    two : c ≢ d
    two q =
        let s : c ≢ 0 = (departing T ok b x over_x dx).some in
        let both : reaches T c b ≡ true =
        sym (meet_spec T.rank T.up ok.falls c x y s) ∙ and_from _ _ (departing T ok b x over_x dx).over (ap (λ (k : ℕ). reaches T k y) q ∙ (departing T ok b y over_y dy).over) in
        clash (ap (reaches T c) from_c ∙ both) (not_below T ok c s)

    one_of : (e : ℕ) → NodeOf T e → T.up e ≡ b → (e ≡ c) ⊎ (e ≡ d)
    one_of e ke f = K.narrow c d e kc kd ke two
        (sym (up_is n t K c kc) ∙ from_c ∙ sym from_d ∙ up_is n t K d kd)
        (sym (up_is n t K e ke) ∙ f ∙ sym from_c ∙ up_is n t K c kc)

    lateral_is : (e : ℕ) → lateral t e ≡ T.lateral e
    unfolding tree_of tree_in
    lateral_is e = by_bool (lateral t e) (λ y. rw y (sym (is_same {m = 1} refl))) (λ f. rw f (sym (not_same {m = 0} {n = 1} (λ q. omega arith))))

    pub sends_last : sent_by t c d ≡ sends T b
    unfolding sent_by
    sends_last = rw (lateral_is c, lateral_is d) (by_bool (sends T b)
        (λ s. rw s (found (sends_is T b s)))
        (λ s. rw s (none (T.lateral c) (T.lateral d) (λ q. clash (is_sends T b (record { end = c; end_node = kc; on = q; from = from_c })) s)
        (λ q. clash (is_sends T b (record { end = d; end_node = kd; on = q; from = from_d })) s))))
      where
        none : (p q : Bool) → (p ≡ true → ⊥) → (q ≡ true → ⊥) → (p || q) ≡ false
        none true q np nq = absurd (np refl)
        none false true np nq = absurd (nq refl)
        none false false np nq = refl

        left_yes : (p q : Bool) → p ≡ true → (p || q) ≡ true
        left_yes p q e = rw e

        right_yes : (p q : Bool) → q ≡ true → (p || q) ≡ true
        right_yes true q e = refl
        right_yes false q e = e

        found : Sends T b → (T.lateral c || T.lateral d) ≡ true
        found r = pick (one_of r.end r.end_node r.from)
          where
            pick : (r.end ≡ c) ⊎ (r.end ≡ d) → (T.lateral c || T.lateral d) ≡ true
            pick (inl e) = left_yes (T.lateral c) (T.lateral d) (ap T.lateral (sym e) ∙ r.on)
            pick (inr e) = right_yes (T.lateral c) (T.lateral d) (ap T.lateral (sym e) ∙ r.on)

  -- the event by the last arcs
  pub event_last : event_by (sent_by t (departure T b x) (departure T b y)) b x y ≡ event_by (sends T b) b x y
  unfolding event_by
  event_last = by_eq x b (λ e. rw (is_same e)) (λ dx. by_eq y b (λ e. rw (is_same e) (both (same x b))) (λ dy. rw (sends_last dx dy)))
    where
      both : (p : Bool) → ◌≡◌ {A = ℕ} (cond (p || true) 2 (cond (sent_by t (departure T b x) (departure T b y)) 3 1)) (cond (p || true) 2 (cond (sends T b) 3 1))
      both true = refl
      both false = refl

  pub paired_few : {p : Pair} → Paired T x y p → p.node ≤ 127
  paired_few i = omega (arith, i.node, node_high n t K _ (common_node T ok x y kx ky), K.few)

  module _ {met : Met} (i : Meeting T x y met) where
    pub lasts_few : (met.left.last ≤ 127) × (met.right.last ≤ 127)
    lasts_few = (rw i.left.last (last_few x kx over_x), rw i.right.last (last_few y ky over_y))

    module _ (sent : Bool) (event : Event) (ee : number event ≡ event_by sent met.node x y) where
      here : same (number event) 2 ≡ (same x b || same y b)
      here = rw (ee, i.node) (stays_or_not sent b x y)

      not_left : (same x b || same y b) ≡ false → x ≢ b
      not_left f e = clash (rw (is_same e)) f

      not_right : (same x b || same y b) ≡ false → y ≢ b
      not_right f e = clash (ap (λ (p : Bool). same x b || p) (is_same e) ∙ any (same x b)) f
        where
          any : (p : Bool) → (p || true) ≡ true
          any true = refl
          any false = refl

      apart : number event ≢ 2 → (same x b || same y b) ≡ false
      apart d = sym here ∙ not_same d

      pub passable_left : Passable t event met.left
      passable_left = passable x kx over_x met.left event i.left (λ d. not_left (apart d))

      pub passable_right : Passable t event met.right
      passable_right = passable y ky over_y met.right event i.right (λ d. not_right (apart d))

      pub paired : sent ≡ sent_by t met.left.last met.right.last → {l r : Steps} → l ≡ passed_by t event met.left → r ≡ passed_by t event met.right
          → Paired T x y (record { node = met.node; event = event; left = l; right = r })
      paired es {l} {r} el er = record {
        node = i.node;
        event = ee ∙ rw (es, i.left.last, i.right.last, i.node) event_last;
        left = passes x kx over_x met.left event _ l i.left here not_left el;
        right = passes y ky over_y met.right event _ r i.right here not_right er;
      }
