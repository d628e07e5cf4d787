-- The numbers of the refusals are 1 to 15, so none is 0, which stands for no refusal; and a number tells its refusal.
-- Assumes nothing.
use Rattle.std.proofs.Common.{◌≡◌, ℕ, ◌≤◌, [], ◌∷◌, get_or, arith, sym, ap, ◌∙◌, refl}
use Rattle.std.specs.Prelude.{Result, Ok, Err}
use Rattle.std.specs.Result.{IsErrAnd}
use Rattle.refusals.specs.declared.Refusal.{Refusal}
use Rattle.refusals.specs.declared.Refusal.TheVariants.{ShortScratch, ShortResult, NoHeader, BeyondLimits, BadLines, BadParents, BadStamps, BadShape, BadSpecies, OnlyReticulations, CrowdedComponent, BadGeneTree, BadGeneSpecies, OutsideGrammar, LargeGeneTree}
use Rattle.refusals.specs.Numbers.{number, refused}

pub some : (r : Refusal) → 1 ≤ number r
some ShortScratch = omega arith
some ShortResult = omega arith
some NoHeader = omega arith
some BeyondLimits = omega arith
some BadLines = omega arith
some BadParents = omega arith
some BadStamps = omega arith
some BadShape = omega arith
some BadSpecies = omega arith
some OnlyReticulations = omega arith
some CrowdedComponent = omega arith
some BadGeneTree = omega arith
some BadGeneSpecies = omega arith
some OutsideGrammar = omega arith
some LargeGeneTree = omega arith

pub few : (r : Refusal) → number r ≤ 15
few ShortScratch = omega arith
few ShortResult = omega arith
few NoHeader = omega arith
few BeyondLimits = omega arith
few BadLines = omega arith
few BadParents = omega arith
few BadStamps = omega arith
few BadShape = omega arith
few BadSpecies = omega arith
few OnlyReticulations = omega arith
few CrowdedComponent = omega arith
few BadGeneTree = omega arith
few BadGeneSpecies = omega arith
few OutsideGrammar = omega arith
few LargeGeneTree = omega arith

-- a number tells its refusal
with_number : ℕ → Refusal
with_number k = get_or {A = Refusal} (ShortScratch ∷ ShortScratch ∷ ShortResult ∷ NoHeader ∷ BeyondLimits ∷ BadLines ∷ BadParents ∷ BadStamps ∷ BadShape ∷ BadSpecies ∷ OnlyReticulations ∷ CrowdedComponent ∷ BadGeneTree ∷ BadGeneSpecies ∷ OutsideGrammar ∷ LargeGeneTree ∷ []) k ShortScratch

told : (r : Refusal) → with_number (number r) ≡ r
unfolding with_number
told ShortScratch = refl
told ShortResult = refl
told NoHeader = refl
told BeyondLimits = refl
told BadLines = refl
told BadParents = refl
told BadStamps = refl
told BadShape = refl
told BadSpecies = refl
told OnlyReticulations = refl
told CrowdedComponent = refl
told BadGeneTree = refl
told BadGeneSpecies = refl
told OutsideGrammar = refl
told LargeGeneTree = refl

one : (r q : Refusal) → number r ≡ number q → r ≡ q
one r q e = sym (told r) ∙ ap with_number e ∙ told q

-- a check that comes to the number of a refusal has refused with it
pub is_refusal : {A : Type 0} (x : Result A Refusal) (r : Refusal) → refused x ≡ number r → x ≡ Err r
is_refusal (Ok a) r e = absurd (omega (arith, some r))
is_refusal (Err q) r e = ap Err (one q r e)

-- `?` hands a refusal on as it is
pub handed_on : {A : Type 0} (x : Result A Refusal) (r : Refusal) → IsErrAnd x (λ q. q ≡ r) → x ≡ Err r
handed_on (Ok a) r h = absurd h
handed_on (Err q) r h = ap Err h
