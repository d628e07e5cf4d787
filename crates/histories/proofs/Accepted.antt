-- An accepted network and gene tree are graded: arcs lead to nodes of higher rank, of which there are fewer, and a gene's children have higher numbers.
-- So the least costs of their family are computed, and an order in which nodes come after their parents serves to fill the table from its end.
-- Assumes nothing.
use Rattle.std.proofs.Common.{◌≡◌, sym, ◌∙◌, subst, ◌≢◌, ℕ, suc, ◌≤◌, ◌<◌, arith}
use Rattle.finite.specs.Tests.{under}
use Rattle.finite.specs.Range.{count}
use Rattle.finite.proofs.Cases.{by_eq, by_less}
use Rattle.std.proofs.lemmas.Bool.{and_right}
use Rattle.finite.proofs.Tests.{is_same, not_same, is_under, not_under, under_is}
use Rattle.finite.proofs.Count.{count_less, count_le}
use Rattle.tables.proofs.Nexts.{next_is}
use Rattle.topology.specs.Networks.{Network, Node}
use Rattle.topology.specs.Lines.{NodeLines, GeneLines, network}
use Rattle.reconciliation.specs.GeneTrees.{GeneTree}
use Rattle.reconciliation.specs.Costs.{Costs}
use Rattle.reconciliation.specs.Limits.{Limits}
use Rattle.histories.specs.Histories.{leaf, tip, pair, Family}
use Rattle.histories.specs.inner.Grades.{Leads, Graded, Order, Schedule, Prepared}
use Rattle.histories.specs.Families.{next, out_by, gene_by, first_child, second_child, other_child, out_of, gene_of, family_of}
use Rattle.histories.specs.inner.Accepted.{Accepted}
use Rattle.histories.proofs.Outs.{by_out}
use Rattle.histories.proofs.Sizes.{size, size_low, size_le, size_splits}

module _ (L : NodeLines) (K : GeneLines) (G : GeneTree) (C : Costs) where
  abbrev pub Whole : Family
  Whole = family_of L K G C

  abbrev pub N : Network
  N = network L

  pub out_at : (v : ℕ) → 1 ≤ v → v ≤ L.size → Whole.out v ≡ out_by (first_child L v) (second_child L v) (other_child L v) (L.species v)
  unfolding family_of out_of
  out_at v lv uv = rw (is_under {m = 0} {n = v} (omega arith), is_under {m = v} {n = suc L.size} (omega arith))

  out_zero : Whole.out 0 ≡ leaf 0
  unfolding family_of out_of
  out_zero = rw (not_under {m = 0} {n = 0} (omega arith))

  out_past : (v : ℕ) → L.size < v → Whole.out v ≡ leaf 0
  unfolding family_of out_of
  out_past v h = rw (and_right (under 0 v) (under v (suc L.size)) (not_under {m = v} {n = suc L.size} (omega arith)))

  pub node_of : (v : ℕ) → 1 ≤ v → v ≤ L.size → Node N v
  unfolding network
  node_of v lv uv = record { low = lv; high = uv }

  -- every arc out of v leads to a node whose parent is v
  module _ (P : ℕ → Type 0) (v : ℕ) (p : (x : ℕ) → 1 ≤ x → x ≤ L.size → L.principal x ≡ v → P x) (s : (x : ℕ) → 1 ≤ x → x ≤ L.size → L.secondary x ≡ v → P x) where
    by_child : (parent : ℕ → ℕ) (u : ℕ) → ((x : ℕ) → 1 ≤ x → x ≤ L.size → parent x ≡ v → P x) → next L.size parent u v ≢ 0 → P (next L.size parent u v)
    by_child parent u f d = let q = next_is L.size parent u v d in f (next L.size parent u v) (omega arith) q.0 q.2

    leads_out : 1 ≤ v → v ≤ L.size → Leads P (Whole.out v)
    unfolding Leads first_child second_child other_child
    leads_out lv uv = rw (out_at v lv uv) (by_out (first_child L v) (second_child L v) (other_child L v) (L.species v)
        (λ e. rw e tt)
        (λ a b e. rw e (by_child L.principal _ p a, by_child L.principal _ p b))
        (λ a b c e. rw e (by_child L.principal _ p a, by_child L.secondary _ s c))
        (λ a e. rw e (by_child L.principal _ p a)))

  pub gene_tip : (g : ℕ) → G.left g ≡ 0 → Whole.gene g ≡ tip (K.species g)
  unfolding family_of gene_of gene_by
  gene_tip g e = rw (is_same e)

  pub gene_pair : (g : ℕ) → G.left g ≢ 0 → Whole.gene g ≡ pair (G.left g) (G.right g)
  unfolding family_of gene_of gene_by
  gene_pair g e = rw (not_same e)

  module _ (ok : Accepted L K G C) where
    -- an arc leads to a node of higher rank
    pub rank_principal : (v x : ℕ) → 1 ≤ v → 1 ≤ x → x ≤ L.size → L.principal x ≡ v → N.rank v < N.rank x
    unfolding network
    rank_principal v x lv lx ux e = rw e at (ok.sound.rank_principal x (node_of x lx ux) (λ z. omega arith))

    rank_secondary : (v x : ℕ) → 1 ≤ v → 1 ≤ x → x ≤ L.size → L.secondary x ≡ v → N.rank v < N.rank x
    unfolding network
    rank_secondary v x lv lx ux e = subst (λ (p : ℕ). N.rank p < N.rank x) e (ok.sound.rank_secondary x (node_of x lx ux) (λ z. omega arith))

    -- the number of nodes of higher rank
    height : ℕ → ℕ
    height v = count L.size (λ w. under (N.rank v) (N.rank w))

    height_falls : (v x : ℕ) → 1 ≤ x → x ≤ L.size → N.rank v < N.rank x → height x < height v
    unfolding height
    height_falls v x lx ux r = count_less L.size x _ _ (λ w q. is_under (omega (arith, under_is (N.rank x) (N.rank w) q))) lx ux (not_under {m = N.rank x} {n = N.rank x} (omega arith)) (is_under r)

    height_le : (v : ℕ) → height v ≤ Whole.nodes
    unfolding height family_of
    height_le v = count_le L.size _

    -- what is no node has no arcs
    falls : (v : ℕ) → Leads (λ x. height x < height v) (Whole.out v)
    unfolding Leads
    falls v = by_eq v 0 (λ e. rw (e, out_zero) tt) (λ z. by_less L.size v (λ h. rw (out_past v h) tt) (λ h. leads_out (λ x. height x < height v) v
        (λ x lx ux e. height_falls v x lx ux (rank_principal v x (omega arith) lx ux e))
        (λ x lx ux e. height_falls v x lx ux (rank_secondary v x (omega arith) lx ux e)) (omega arith) h))

    pub whole_limits : Limits Whole.nodes Whole.genes Whole.costs
    unfolding family_of
    whole_limits = ok.limits

    pub inner_is : (g a b : ℕ) → Whole.gene g ≡ pair a b → (G.left g ≢ 0) × (a ≡ G.left g) × (b ≡ G.right g)
    inner_is g a b e = by_eq (G.left g) 0
        (λ q. absurd (let r = sym (gene_tip g q) ∙ e in let z : ◌≡◌ {A = ℕ} 0 1 = cc in omega arith))
        (λ q. let r : pair (G.left g) (G.right g) ≡ pair a b = sym (gene_pair g q) ∙ e in (q, cc, cc))

    pub graded : Graded Whole
    unfolding family_of
    graded = record {
      height = height;
      height_le = height_le;
      falls = falls;
      size = size G ok.rooted;
      size_low = size_low G ok.rooted;
      size_le = size_le G ok.rooted;
      left_more = λ g a b e. let q = inner_is g a b e in rw q.1 (ok.rooted.left_more g q.0);
      right_more = λ g a b e. let q = inner_is g a b e in rw q.2 (ok.rooted.right_more g q.0);
      left_in = λ g a b e. let q = inner_is g a b e in rw q.1 (ok.rooted.left_in g q.0);
      right_in = λ g a b e. let q = inner_is g a b e in rw q.2 (ok.rooted.right_in g q.0);
      splits = λ g a b e. let q = inner_is g a b e in rw (q.1, q.2) (size_splits G ok.rooted g q.0);
    }

    module _ (order : ℕ → ℕ) (o : Order N order) where
      schedule : Schedule Whole order
      unfolding family_of network
      schedule = record {
        place = o.place;
        place_low = λ v l u. o.place_low v (node_of v l u);
        place_high = λ v l u. o.place_high v (node_of v l u);
        visits = λ v l u. o.visits v (node_of v l u);
        entry_low = λ i l u. (o.node i l u).low;
        entry_high = λ i l u. (o.node i l u).high;
        higher = λ i l u. let k = o.node i l u in leads_out _ (order i)
            (λ x lx ux e. (lx, ux, omega (arith, o.placed i l u, rw e at (o.principal x (node_of x lx ux) (λ z. omega arith)))))
            (λ x lx ux e. (lx, ux, omega (arith, o.placed i l u, rw e at (o.secondary x (node_of x lx ux) (λ z. omega arith))))) k.low k.high;
      }

      pub prepared : Prepared Whole order
      prepared = record { graded = graded; limits = whole_limits; schedule = schedule }
