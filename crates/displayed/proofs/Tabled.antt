-- Columns that hold a displayed tree at its nodes make a tree of their own, whatever stands elsewhere, and the mapping into it is the mapping into the tree
-- that they hold.
-- Assumes nothing.
use Rattle.std.proofs.Common.{◌≡◌, refl, sym, ◌∙◌, ◌≢◌, Bool, ℕ, suc, ◌-◌, ◌≤◌, ◌<◌, arith}
use Rattle.finite.specs.Tests.{same, tally}
use Rattle.finite.specs.Tables.{within}
use Rattle.finite.proofs.Cases.{by_bool, by_eq, by_less}
use Rattle.finite.proofs.Tests.{is_same, not_same}
use Rattle.finite.proofs.Tables.{within_in, within_out, within_zero}
use Rattle.displayed.specs.Displayed.{Displayed, NodeOf, Tree}
use Rattle.displayed.specs.inner.Tabled.{rank_in, tree_in, Holds}
use Rattle.displayed.proofs.Trees.{node_up}
use Rattle.displayed.proofs.Same.{SameTree}

rank_zero : (rank : ℕ → ℕ) → rank_in rank 0 ≡ 0
unfolding rank_in
rank_zero rank = rw (is_same {m = 0} refl)

rank_some : (rank : ℕ → ℕ) (v : ℕ) → v ≢ 0 → rank_in rank v ≡ suc (rank v - 1)
unfolding rank_in
rank_some rank v d = rw (not_same d)

one_is : (k : ℕ) (b : Bool) → k ≡ tally b → same k 1 ≡ b
one_is k b e = by_bool b (λ t. rw (e, t) (is_same {m = 1} refl)) (λ t. rw (e, t) (not_same (λ e. omega arith)))

is_one : (k : ℕ) → k ≤ 1 → tally (same k 1) ≡ k
is_one k l = by_eq k 1 (λ e. rw (is_same e) (sym e)) (λ d. rw (not_same d) (omega arith))

-- what a climb reads of the columns at a node
module _ (n : ℕ) (up rank lateral forks : ℕ → ℕ) (v : ℕ) where
  pub read_up : 1 ≤ v → v ≤ n → (tree_in n up rank lateral forks).up v ≡ up v
  unfolding tree_in
  read_up l u = within_in n up v l u

  pub read_rank : 1 ≤ v → 1 ≤ rank v → (tree_in n up rank lateral forks).rank v ≡ rank v
  unfolding tree_in
  read_rank l p = omega (arith, rank_some rank v (omega arith))

  pub read_lateral : lateral v ≤ 1 → tally ((tree_in n up rank lateral forks).lateral v) ≡ lateral v
  unfolding tree_in
  read_lateral l = is_one (lateral v) l

  pub read_forks : forks v ≤ 1 → tally ((tree_in n up rank lateral forks).forks v) ≡ forks v
  unfolding tree_in
  read_forks l = is_one (forks v) l

module _ (U : Displayed) (o : Tree U) (n : ℕ) (up rank lateral forks : ℕ → ℕ) (H : Holds U n up rank lateral forks) where
  rank_held : (v : ℕ) → NodeOf U v → rank_in rank v ≡ U.rank v
  rank_held v k = omega (arith, rank_some rank v (omega (arith, k.low)), H.ranks v k, o.falls.fall v (omega (arith, k.low)))

  up_held : (v : ℕ) → NodeOf U v → within n up v ≡ U.up v
  up_held v k = within_in n up v k.low (omega (arith, k.high, H.size)) ∙ H.ups v k

  falls_held : (x : ℕ) → x ≢ 0 → rank_in rank (within n up x) < rank_in rank x
  falls_held x d = by_less n x
      (λ l. rw (within_out n up x l, rank_zero rank, rank_some rank x d) (omega arith))
      (λ l. inner (record { low = omega arith; high = omega (arith, H.size) }))
    where
      inner : NodeOf U x → rank_in rank (within n up x) < rank_in rank x
      inner k =
          let f : U.rank (U.up x) < U.rank x = o.falls.fall x d in
          rw (up_held x k, rank_held x k) (by_eq (U.up x) 0 (λ e. rw (e, rank_zero rank) (omega arith)) (λ z. rw (rank_held (U.up x) (node_up U o x k z)) f))

  pub held_same : SameTree (tree_in n up rank lateral forks) U
  unfolding tree_in
  held_same = record {
    size = H.size;
    up = up_held;
    lateral = λ v k. one_is (lateral v) _ (H.laterals v k);
    forks = λ v k. one_is (forks v) _ (H.forked v k);
  }

  pub held_tree : Tree (tree_in n up rank lateral forks)
  unfolding tree_in
  held_tree = record {
    falls = record { stay = within_zero n up; fall = falls_held };
    inside = λ v k. let j = like v k in omega (arith, up_held v j, o.inside v j, H.size);
    root = o.root;
    root_in = record { low = o.root_in.low; high = omega (arith, o.root_in.high, H.size) };
    root_up = up_held o.root o.root_in ∙ o.root_up;
    root_one = λ v k e. let j = like v k in o.root_one v j (sym (up_held v j) ∙ e);
  }
    where
      like : (v : ℕ) → NodeOf (tree_in n up rank lateral forks) v → NodeOf U v
      like v k = record { low = k.low; high = omega (arith, k.high, H.size) }
