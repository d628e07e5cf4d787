-- The lowest common node: it reaches both, and every node that reaches both reaches it (`lca_spec` in proofs/Above says so as one equation).
-- Assumes nothing.
use Rattle.std.proofs.Common.{◌≡◌, sym, ◌∙◌, ◌≢◌, true, ◌&&◌, ℕ, arith}
use Rattle.finite.proofs.Cases.{clash}
use Rattle.topology.specs.Networks.{Network, Node, Sound}
use Rattle.topology.specs.Switchings.{Switching, above, lca}
use Rattle.topology.proofs.Above.{above_self, above_zero, lca_spec}
use Rattle.topology.proofs.Components.{above_top, top_root, root_above}

module _ (N : Network) (ok : Sound N) (σ : Switching) where
  pub root_over : (x : ℕ) → Node N x → above N σ ok.root x ≡ true
  root_over x k = above_top N ok σ ok.root x ok.root_in (top_root N ok ok.root ok.root_principal) ∙ root_above N ok x k

  module _ (x y : ℕ) (kx : Node N x) (ky : Node N y) where
    lca_some : lca N σ x y ≢ 0
    lca_some e =
        let t : above N σ ok.root (lca N σ x y) ≡ true =
        sym (lca_spec N ok σ ok.root x y (omega arith)) ∙ rw (root_over x kx, root_over y ky) in
        clash t (rw e (above_zero N ok σ ok.root (omega arith)))

    lca_both : (above N σ (lca N σ x y) x && above N σ (lca N σ x y) y) ≡ true
    lca_both = lca_spec N ok σ (lca N σ x y) x y lca_some ∙ above_self N ok σ (lca N σ x y)
