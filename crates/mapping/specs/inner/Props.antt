-- What holds of a displayed tree and a gene tree seated in it has one proof at most, as a ghost field asks: a root is the only one, and of two unlike nodes a
-- third is one or the other.
-- Assumes nothing.
use Rattle.std.specs.Prelude.{◌≡◌, ◌≢◌, ℕ, ◌⊎◌}
use Rattle.displayed.specs.Displayed.{Displayed, NodeOf, Tree}
use Rattle.layout.specs.declared.Header.{Header}
use Rattle.layout.specs.declared.tree.Tree.{Tree as Table}
use Rattle.layout.specs.declared.genes.Genes.{Genes}
use Rattle.layout.specs.inner.Tree.{up}
use Rattle.layout.specs.inner.Props.{either_prop, one, rooted_prop}
use Rattle.mapping.specs.inner.Climbs.{tree_of, Climbable}
use Rattle.mapping.specs.inner.Evaluation.{Family}
use denote.Struct.Props.{props}
use mathlib.Core.HLevel.{is_prop→PathP}
use mathlib.Core.Path.{sym, ◌∙◌, fun_ext}

tree_prop : (T : Displayed) → IsProp (Tree T)
tree_prop T x y =
    let root : x.root ≡ y.root = y.root_one x.root x.root_in x.root_up in
    λ i. record {
      falls = one x.falls y.falls (hlevel props) i;
      inside = one x.inside y.inside (hlevel props) i;
      root = root i;
      root_in = is_prop→PathP (λ j. NodeOf T (root j)) (λ j. hlevel props) x.root_in y.root_in i;
      root_up = is_prop→PathP (λ j. T.up (root j) ≡ 0) (λ j. hlevel props) x.root_up y.root_up i;
      root_one = is_prop→PathP (λ j. (v : ℕ) → NodeOf T v → T.up v ≡ 0 → v ≡ root j) (λ j. hlevel props) x.root_one y.root_one i;
    }

narrow_prop : (n : ℕ) (t : Table)
    → IsProp ((c d e : ℕ) → NodeOf (tree_of n t) c → NodeOf (tree_of n t) d → NodeOf (tree_of n t) e → c ≢ d → up t c ≡ up t d → up t e ≡ up t c → (e ≡ c) ⊎ (e ≡ d))
narrow_prop n t = λ x y. fun_ext (λ c. fun_ext (λ d. fun_ext (λ e. fun_ext (λ kc. fun_ext (λ kd. fun_ext (λ ke. fun_ext (λ u. fun_ext (λ p. fun_ext (λ q.
    either_prop (hlevel props) (hlevel props) (λ l r. u (sym l ∙ r)) (x c d e kc kd ke u p q) (y c d e kc kd ke u p q))))))))))

climbable_prop : (n : ℕ) (t : Table) → IsProp (Climbable n t)
climbable_prop n t = hlevel (tree_prop, narrow_prop n t, props)

pub family_prop : (h : Header) (t : Table) (g : Genes) → IsProp (Family h t g)
family_prop h t g = hlevel (climbable_prop, rooted_prop, props)
