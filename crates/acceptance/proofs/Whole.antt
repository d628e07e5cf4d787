-- An admitted sheet is what the whole-network cost asks for: a node's arcs out are told by its shape, and a leaf gene has a leaf to rest at.
-- Assumes nothing.
use Rattle.std.proofs.Common.{◌≡◌, ℕ, ◌≤◌, arith}
use Rattle.finite.specs.Range.{children}
use Rattle.topology.specs.Networks.{Network}
use Rattle.topology.specs.Lines.{NodeLines, GeneLines, network}
use Rattle.shapes.specs.Refusals.{Shape, reticulation, inner, leaf}
use Rattle.reconciliation.specs.GeneTrees.{GeneTree}
use Rattle.reconciliation.specs.Costs.{Costs}
use Rattle.gene_tree.specs.Genes.{gene_tree_of}
use Rattle.gene_tree.proofs.Refusals.{accept_13}
use Rattle.gene_tree.proofs.Genes.{count_at}
use Rattle.gene_tree.proofs.Genes as T
use Rattle.histories.specs.inner.Accepted.{Accepted}
use Rattle.acceptance.specs.inner.Admitted.{Admitted}
use Rattle.acceptance.proofs.Mapped.{network_accepted, sound, rooted, seated, limits, leaf_at_lem}

-- the arcs out of a node by its shape
two_principal : (N : Network) (v : ℕ) → Shape N v → children N.size N.principal v ≤ 2
two_principal N v (reticulation r) = omega (arith, r.one_principal)
two_principal N v (inner r) = omega (arith, r.two_arcs_lem)
two_principal N v (leaf r) = omega (arith, r.no_principal)

one_principal : (N : Network) (v : ℕ) → Shape N v → 1 ≤ children N.size N.secondary v → children N.size N.principal v ≡ 1
one_principal N v (reticulation r) l = r.one_principal
one_principal N v (inner r) l = omega (arith, r.two_arcs_lem, r.some_principal)
one_principal N v (leaf r) l = absurd (omega (arith, r.no_secondary))

one_secondary : (N : Network) (v : ℕ) → Shape N v → children N.size N.secondary v ≤ 1
one_secondary N v (reticulation r) = omega (arith, r.no_secondary)
one_secondary N v (inner r) = omega (arith, r.two_arcs_lem, r.some_principal)
one_secondary N v (leaf r) = omega (arith, r.no_secondary)

module _ (L : NodeLines) (K : GeneLines) (C : Costs) (ok : Admitted L K C) where
  abbrev N : Network
  N = network L

  abbrev G : GeneTree
  G = gene_tree_of L K

  pub whole_accepted : Accepted L K G C
  unfolding network
  whole_accepted = record {
    limits = limits L K C ok;
    sound = sound L K C ok;
    two_principal = λ v k. two_principal N v ((network_accepted L K C ok).shape v k);
    one_principal = λ v k l. one_principal N v ((network_accepted L K C ok).shape v k) l;
    one_secondary = λ v k. one_secondary N v ((network_accepted L K C ok).shape v k);
    rooted = rooted L K C ok;
    seated = λ g l u e. record {
      node = (seated L K C ok).seat g l u e;
      childless = (leaf_at_lem L K C ok g l u e).no_principal;
      bears = (T.seated L (accept_13 L K ok.genes) g (record { low = l; high = omega (arith, count_at L K) }) e).bears;
    };
  }
