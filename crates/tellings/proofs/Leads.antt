-- Where the steps that are open at a node lead: to the node itself or along an arc out. So a property of the ends of arcs out holds wherever a gene or its
-- children go on, and arcs lead to nodes of a lower level.
-- Assumes nothing.
use Rattle.std.proofs.Common.{◌≡◌, refl, ◌⊎◌, inl, inr, Bool, true, false, cond, [], ◌∷◌, ℕ, ◌≤◌, ◌<◌, arith}
use Rattle.finite.specs.Tests.{same}
use Rattle.histories.specs.Histories.{Out, leaf, one, two, mixed, Gene, tip, pair, Family}
use Rattle.histories.specs.inner.Grades.{Leads}
use Rattle.tellings.specs.Steps.{Step, rests}
use Rattle.tellings.specs.Chosen.{moves, partings, restings, endings, options, Onward, ends, splits, goes, onward}
use Rattle.tellings.specs.inner.Lineages.{Levels}
use Rattle.tellings.specs.inner.Walks.{Each}
use Rattle.tellings.proofs.Options.{Among, each_of, each_both}

module _ (F : Family) where
  open F use {out, gene}

  -- where a step leads: to the node itself, or along an arc out
  module _ (P : ℕ → Type 0) (v : ℕ) where
    abbrev pub Near : ℕ → Type 0
    Near p = (p ≡ v) ⊎ P p

    unfoldable pub To : Onward → Type 0
    To ends = Unit {0}
    To (splits p q) = Near p × Near q
    To (goes w) = P w

    to_move : (A : Out) → Leads P A → Each (λ s. To (onward s)) (moves A)
    unfolding Each To Leads onward moves
    to_move (leaf t) h = tt
    to_move (one x) h = (h, tt)
    to_move (two x y) h = (h.0, (h.1, tt))
    to_move (mixed x y) h = (h.1, (h.0, tt))

    to_parting : (A : Out) → Leads P A → Each (λ s. To (onward s)) (partings v A)
    unfolding Each To Leads onward partings
    to_parting (leaf t) h = tt
    to_parting (one x) h = tt
    to_parting (two x y) h = ((inr h.0, inr h.1), ((inr h.1, inr h.0), tt))
    to_parting (mixed x y) h = ((inl refl, inr h.1), ((inr h.1, inl refl), ((inr h.0, inr h.1), ((inr h.1, inr h.0), tt))))

    to_resting : (s : ℕ) (A : Out) → Each (λ s. To (onward s)) (restings s A)
    unfolding Each To onward restings
    to_resting s (leaf t) = at (same s t)
      where
        at : (q : Bool) → Each (λ s. To (onward s)) (cond q (rests ∷ []) [])
        at true = (tt, tt)
        at false = tt
    to_resting s (one x) = tt
    to_resting s (two x y) = tt
    to_resting s (mixed x y) = tt

    to_ending : (K : Gene) (A : Out) → Leads P A → Each (λ s. To (onward s)) (endings K v A)
    unfolding Each To onward endings
    to_ending (tip s) A h = to_resting s A
    to_ending (pair a b) A h = ((inl refl, inl refl), to_parting A h)

    pub leads : (g : ℕ) {s : Step} → Leads P (out v) → Among s (options F g v) → To (onward s)
    unfolding options
    leads g h m = each_of (λ s. To (onward s)) (each_both (λ s. To (onward s)) (endings (gene g) v (out v)) (moves (out v)) (to_ending (gene g) (out v) h) (to_move (out v) h)) m

module _ (F : Family) (plan : Levels F) (v : ℕ) (lv : 1 ≤ v) (uv : v ≤ F.nodes) where
  -- a node of a lower level than v
  abbrev pub Lower : ℕ → Type 0
  Lower x = (1 ≤ x) × (x ≤ F.nodes) × (plan.level x < plan.level v)

  pub leads_lower : (g : ℕ) {s : Step} → Among s (options F g v) → To F Lower v (onward s)
  leads_lower g m = leads F Lower v g (plan.lower v lv uv) m

  pub near_node : (p : ℕ) → Near F Lower v p → (1 ≤ p) × (p ≤ F.nodes)
  near_node p (inl e) = (omega arith, omega arith)
  near_node p (inr h) = (h.0, h.1)
