-- The network of lines has their parents and ranks, and its nodes are the numbers of the lines. Each law is a part of the definition, said where
-- `network` stays shut.
-- Assumes nothing.
use Rattle.std.proofs.Common.{◌≡◌, refl, Bool, true, ◌≢◌, ℕ, ◌≤◌, arith}
use Rattle.finite.specs.Range.{any}
use Rattle.finite.proofs.Tests.{is_same, not_same}
use Rattle.finite.proofs.Every.{some_at, is_some}
use Rattle.topology.specs.Networks.{Node}
use Rattle.topology.specs.Lines.{NodeLines, rank_of, network}

module _ (L : NodeLines) where
  pub size_is : (network L).size ≡ L.size
  unfolding network
  size_is = refl

  pub principal_is : (v : ℕ) → (network L).principal v ≡ L.principal v
  unfolding network
  principal_is v = refl

  pub secondary_is : (v : ℕ) → (network L).secondary v ≡ L.secondary v
  unfolding network
  secondary_is v = refl

  pub rank_none : (network L).rank 0 ≡ 0
  unfolding network
  rank_none = rw (is_same {m = 0} refl)

  pub rank_is : (v : ℕ) → v ≢ 0 → (network L).rank v ≡ rank_of (L.secondary v) (L.stamp v)
  unfolding network
  rank_is v d = rw (not_same d)

  pub rank_some : (v : ℕ) → v ≢ 0 → 1 ≤ (network L).rank v
  unfolding rank_of
  rank_some v d = rw (rank_is v d) (omega arith)

  pub node_of : (v : ℕ) → 1 ≤ v → v ≤ L.size → Node (network L) v
  unfolding network
  node_of v l u = record { low = l; high = u }

  pub node_high : (v : ℕ) → Node (network L) v → v ≤ L.size
  unfolding network
  node_high v k = k.high

  -- a test that some node passes
  pub some_node : (f : ℕ → Bool) (v : ℕ) → Node (network L) v → f v ≡ true → any L.size f ≡ true
  some_node f v k t = is_some L.size v f k.low (node_high v k) t

  pub by_some : {A : Type 0} (f : ℕ → Bool) → any L.size f ≡ true → ((v : ℕ) → Node (network L) v → f v ≡ true → A) → A
  by_some f e g = let r = some_at L.size f e in g r.0 (node_of r.0 r.1 r.2) r.3
