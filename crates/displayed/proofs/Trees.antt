-- Nodes of a displayed tree: what is above a node is a node, and two nodes have a common node, for the root is above both.
-- Assumes nothing.
use Rattle.std.proofs.Common.{◌≡◌, sym, ◌∙◌, ap, ◌≢◌, true, false, ℕ, ◌<◌, arith}
use Rattle.finite.proofs.Cases.{by_bool, by_eq, clash}
use Rattle.std.proofs.lemmas.Bool.{and_from}
use Rattle.topology.proofs.Climbing.{climb_ind, over_self, over_up, over_not, over_zero, over_low, meet_spec, meet_over_left}
use Rattle.displayed.specs.Displayed.{Displayed, NodeOf, Tree, reaches, common}

module _ (T : Displayed) (ok : Tree T) where
  pub node_up : (x : ℕ) → NodeOf T x → T.up x ≢ 0 → NodeOf T (T.up x)
  node_up x k z = omega (arith, ok.inside x k)

  pub reaches_node : (v x : ℕ) → v ≢ 0 → NodeOf T x → reaches T v x ≡ true → NodeOf T v
  reaches_node v x z = climb_ind T.rank T.up ok.falls (λ x. NodeOf T x → reaches T v x ≡ true → NodeOf T v) (λ k. absurd (omega arith))
      (λ x d ih k t. by_eq v x (λ e. rw e k) (λ q.
      let u : reaches T v (T.up x) ≡ true = sym (over_not T.rank T.up ok.falls v x q) ∙ t in
      ih (T.up x) (ok.falls.fall x d) (node_up x k (λ e. clash u (rw e (over_zero T.rank T.up ok.falls v z)))) u)) x

  pub root_reaches : (x : ℕ) → NodeOf T x → reaches T ok.root x ≡ true
  root_reaches = climb_ind T.rank T.up ok.falls (λ x. NodeOf T x → reaches T ok.root x ≡ true) (λ k. absurd (omega arith))
      (λ x d ih k. by_eq (T.up x) 0 (λ e. rw (ok.root_one x k e) (over_self T.rank T.up ok.falls ok.root))
      (λ z. over_up T.rank T.up ok.falls ok.root x (ih (T.up x) (ok.falls.fall x d) (node_up x k z))))

  pub common_node : (x y : ℕ) → NodeOf T x → NodeOf T y → NodeOf T (common T x y)
  common_node x y kx ky = reaches_node (common T x y) x some kx (meet_over_left T.rank T.up ok.falls x y)
    where
      r : ok.root ≢ 0
      r e = omega (arith, ok.root_in.low)

      some : common T x y ≢ 0
      some e = clash (sym (meet_spec T.rank T.up ok.falls ok.root x y r) ∙ and_from _ _ (root_reaches x kx) (root_reaches y ky))
          (rw e (over_zero T.rank T.up ok.falls ok.root r))

  -- a node is not below its parent
  pub not_below : (x : ℕ) → x ≢ 0 → reaches T x (T.up x) ≡ false
  not_below x z =
      let l : T.rank (T.up x) < T.rank x = ok.falls.fall x z in
      by_bool (reaches T x (T.up x))
      (λ q. by_eq x (T.up x) (λ e. absurd (omega (arith, ap T.rank e))) (λ e. absurd (omega (arith, over_low T.rank T.up ok.falls x (T.up x) q e)))) (λ q. q)
