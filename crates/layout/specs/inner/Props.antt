-- A network is sound and a gene tree rooted in one way at most, as a ghost field asks: the root that a network names is the only one, and no gene is both
-- the left and the right child of its parent.
-- Assumes nothing.
use Rattle.std.specs.Prelude.{◌≡◌, ◌≢◌, ℕ, ◌⊎◌}
use Rattle.topology.specs.Networks.{Network, Sound, Node}
use Rattle.reconciliation.specs.GeneTrees.{GeneTree, Rooted}
use denote.Struct.Props.{props}
use mathlib.Core.HLevel.{is_prop→PathP}
use mathlib.Core.Logic.{inl, inr}
use mathlib.Core.Path.{sym, ◌∙◌, ap, fun_ext}

-- as h says, with the type read off x
pub one : {A : Type 0} (x y : A) → IsProp A → x ≡ y
one x y h = h x y

pub sound_prop : (N : Network) → IsProp (Sound N)
sound_prop N x y =
    let root : x.root ≡ y.root = y.root_one x.root x.root_in x.root_principal in
    λ i. record {
      zero_principal = one x.zero_principal y.zero_principal (hlevel props) i;
      zero_secondary = one x.zero_secondary y.zero_secondary (hlevel props) i;
      out_principal = one x.out_principal y.out_principal (hlevel props) i;
      out_secondary = one x.out_secondary y.out_secondary (hlevel props) i;
      in_principal = one x.in_principal y.in_principal (hlevel props) i;
      in_secondary = one x.in_secondary y.in_secondary (hlevel props) i;
      rank_none = one x.rank_none y.rank_none (hlevel props) i;
      rank_some = one x.rank_some y.rank_some (hlevel props) i;
      rank_principal = one x.rank_principal y.rank_principal (hlevel props) i;
      rank_secondary = one x.rank_secondary y.rank_secondary (hlevel props) i;
      both = one x.both y.both (hlevel props) i;
      root = root i;
      root_in = is_prop→PathP (λ j. Node N (root j)) (λ j. hlevel props) x.root_in y.root_in i;
      root_principal = is_prop→PathP (λ j. N.principal (root j) ≡ 0) (λ j. hlevel props) x.root_principal y.root_principal i;
      root_one = is_prop→PathP (λ j. (v : ℕ) → Node N v → N.principal v ≡ 0 → v ≡ root j) (λ j. hlevel props) x.root_one y.root_one i;
    }

-- of two facts that exclude one another
pub either_prop : {A B : Type 0} → IsProp A → IsProp B → (A → B → ⊥) → IsProp (A ⊎ B)
either_prop pa pb apart (inl p) (inl q) = ap inl (pa p q)
either_prop pa pb apart (inl p) (inr q) = absurd (apart p q)
either_prop pa pb apart (inr p) (inl q) = absurd (apart q p)
either_prop pa pb apart (inr p) (inr q) = ap inr (pb p q)

child_prop : (G : GeneTree) → ((g : ℕ) → G.left g ≢ 0 → G.left g ≢ G.right g) → ((g : ℕ) → G.parent g ≢ 0 → G.left (G.parent g) ≢ 0)
    → IsProp ((g : ℕ) → G.parent g ≢ 0 → (G.left (G.parent g) ≡ g) ⊎ (G.right (G.parent g) ≡ g))
child_prop G apart inner = λ x y. fun_ext (λ g. fun_ext (λ d. either_prop (hlevel props) (hlevel props) (λ p q. apart (G.parent g) (inner g d) (p ∙ sym q)) (x g d) (y g d)))

pub rooted_prop : (G : GeneTree) → IsProp (Rooted G)
rooted_prop G = hlevel (child_prop G, props)
