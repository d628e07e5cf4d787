-- The last arc of a climb from a up to b is the one by which the way from b down to a leaves b; there is no other. So a sum over the way is one over the
-- arcs climbed before and the last one's.
-- Assumes nothing.
use Rattle.std.proofs.Common.{◌≡◌, refl, sym, ◌∙◌, ap, ◌≢◌, true, ℕ, ◌+◌, ◌≤◌, ◌<◌, arith}
use Rattle.finite.specs.Tests.{same}
use Rattle.finite.proofs.Cases.{by_eq, clash}
use Rattle.finite.proofs.Tests.{is_same, not_same}
use Rattle.topology.proofs.Climbing.{climb_ind, seek_eq, seek_none, over_self, over_up, over_not, over_zero, along_stop, along_go, along_over}
use Rattle.displayed.specs.Displayed.{Displayed, NodeOf, Tree, reaches, way, departure}
use Rattle.displayed.proofs.Trees.{reaches_node, not_below}

module _ (T : Displayed) (ok : Tree T) (b : ℕ) where
  -- one step of the climb
  pub depart_here : (a : ℕ) → T.up a ≡ b → departure T b a ≡ a
  depart_here a e = seek_eq T.rank T.up ok.falls (λ c. same (T.up c) b) a ∙ rw (is_same e)

  pub depart_up : (a : ℕ) → T.up a ≢ b → departure T b a ≡ departure T b (T.up a)
  depart_up a d = seek_eq T.rank T.up ok.falls (λ c. same (T.up c) b) a ∙ rw (not_same d)

  -- a climb that need not leave has no last arc
  pub depart_self : departure T b b ≡ 0
  depart_self = climb_ind T.rank T.up ok.falls (λ a. T.rank a ≤ T.rank b → departure T b a ≡ 0)
      (λ l. seek_none T.rank T.up ok.falls (λ c. same (T.up c) b))
      (λ a z ih l. let f : T.rank (T.up a) < T.rank a = ok.falls.fall a z in
      depart_up a (λ e. omega (arith, ap T.rank e)) ∙ ih (T.up a) f (omega arith)) b (omega arith)

  -- an arc out of b that reaches a is the one
  pub departs : (c a : ℕ) → c ≢ 0 → T.up c ≡ b → reaches T c a ≡ true → departure T b a ≡ c
  departs c a z e = climb_ind T.rank T.up ok.falls (λ a. reaches T c a ≡ true → departure T b a ≡ c)
      (λ t. clash t (over_zero T.rank T.up ok.falls c z))
      (λ a d ih t. by_eq c a (λ q. rw (← q) (depart_here c e))
      (λ q. let u : reaches T c (T.up a) ≡ true = sym (over_not T.rank T.up ok.falls c a q) ∙ t in
      depart_up a (λ k. clash (rw (k, ← e) at u) (not_below T ok c z)) ∙ ih (T.up a) (ok.falls.fall a d) u)) a

  -- a way that leaves b does so by an arc
  pub record Departs (a : ℕ) : Type 0 where
    pub some : departure T b a ≢ 0
    pub from : T.up (departure T b a) ≡ b
    pub over : reaches T (departure T b a) a ≡ true

  pub departing : (a : ℕ) → reaches T b a ≡ true → a ≢ b → Departs a
  departing = climb_ind T.rank T.up ok.falls (λ a. reaches T b a ≡ true → a ≢ b → Departs a)
      (λ t d. absurd (d (by_eq b 0 sym (λ q. clash t (over_zero T.rank T.up ok.falls b q)))))
      (λ a z ih t d. by_eq (T.up a) b
      (λ e. let h = depart_here a e in record { some = rw h z; from = rw h e; over = rw h (over_self T.rank T.up ok.falls a) })
      (λ n. let h = depart_up a n in
      let r = ih (T.up a) (ok.falls.fall a z) (sym (over_not T.rank T.up ok.falls b a (λ e. d (sym e))) ∙ t) n in
      record { some = rw h r.some; from = rw h r.from; over = rw h (over_up T.rank T.up ok.falls _ a r.over) }))

  pub departure_node : (a : ℕ) → NodeOf T a → reaches T b a ≡ true → a ≢ b → NodeOf T (departure T b a)
  departure_node a k t d = let r = departing a t d in reaches_node T ok (departure T b a) a r.some k r.over

  -- a sum over the arcs of a way, the last arc apart
  pub way_depart : (F f D : ℕ → ℕ) → ((c : ℕ) → T.up c ≡ b → F c ≡ D c) → ((c : ℕ) → T.up c ≢ b → F c ≡ f c)
      → (a : ℕ) → reaches T b a ≡ true → a ≢ b → way T F b a ≡ way T f (departure T b a) a + D (departure T b a)
  way_depart F f D last others = climb_ind T.rank T.up ok.falls
      (λ a. reaches T b a ≡ true → a ≢ b → way T F b a ≡ way T f (departure T b a) a + D (departure T b a))
      (λ t d. absurd (d (by_eq b 0 sym (λ q. clash t (over_zero T.rank T.up ok.falls b q))))) turn
    where
      turn : (a : ℕ) → a ≢ 0 → ((y : ℕ) → T.rank y < T.rank a → reaches T b y ≡ true → y ≢ b → way T F b y ≡ way T f (departure T b y) y + D (departure T b y))
          → reaches T b a ≡ true → a ≢ b → way T F b a ≡ way T f (departure T b a) a + D (departure T b a)
      turn a z ih t d =
          let u : reaches T b (T.up a) ≡ true = along_over T.rank T.up ok.falls F b a t d in
          by_eq (T.up a) b
          (λ e. rw (depart_here a e) (omega (
            arith,
            along_go T.rank T.up ok.falls F b a t d,
            along_stop T.rank T.up ok.falls F b (T.up a) e,
            along_stop T.rank T.up ok.falls f a a refl,
            last a e,
          )))
          (λ n. let r = departing (T.up a) u n in
          let l : a ≢ departure T b (T.up a) = λ q. clash (rw (← q) at r.over) (not_below T ok a z) in
          rw (depart_up a n) (omega (
            arith,
            along_go T.rank T.up ok.falls F b a t d,
            others a n,
            ih (T.up a) (ok.falls.fall a z) u n,
            along_go T.rank T.up ok.falls f (departure T b (T.up a)) a (over_up T.rank T.up ok.falls _ a r.over) l,
          )))

  -- the last arc is one of the way
  pub depart_le : (f : ℕ → ℕ) (a : ℕ) → reaches T b a ≡ true → a ≢ b → f (departure T b a) ≤ way T f b a
  depart_le f a t d = omega (arith, way_depart f f f (λ c _. refl) (λ c _. refl) a t d)
