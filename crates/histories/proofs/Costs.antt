-- Least costs, taken apart: a cost is attained by something, or at most that of something. The lesser of two and the sum of two keep both.
-- Assumes nothing.
use Rattle.std.proofs.Common.{◌≡◌, refl, ap, ◌⊎◌, inl, inr, ℕ, ◌+◌, ◌≤◌, min, le_antisymm, arith}
use mathlib.Core.Option.{none, some}
use native.Mathlib.Decide.{dec_le}
use Rattle.histories.specs.Histories.{Cost, ◌lesser◌, ◌⊕◌, then, both}

-- a cost is finite, and at most c
pub data AtMost (c : ℕ) : Cost → Type 0 where
  within : {a : ℕ} → a ≤ c → AtMost c (some a)

-- a cost that is finite has the property
pub data Attains (P : ℕ → Type 0) : Cost → Type 0 where
  nowhere : Attains P none
  somewhere : {c : ℕ} → P c → Attains P (some c)

pub left : {c : ℕ} {a : Cost} (b : Cost) → AtMost c a → AtMost c (a lesser b)
unfolding ◌lesser◌
left none (within h) = within h
left (some b) (within {a} h) = within {a = min a b} (omega arith)

pub right : {c : ℕ} (a : Cost) {b : Cost} → AtMost c b → AtMost c (a lesser b)
unfolding ◌lesser◌
right none h = h
right (some a) (within {a = b} h) = within {a = min a b} (omega arith)

pub at_then : {c d : ℕ} {a : Cost} (x : ℕ) → AtMost c a → x + c ≤ d → AtMost d (then x a)
unfolding then ◌⊕◌
at_then x (within {a} h) l = within {a = x + a} (omega arith)

pub at_both : {c d e : ℕ} {a b : Cost} (x : ℕ) → AtMost c a → AtMost d b → x + c + d ≤ e → AtMost e (both x a b)
unfolding both ◌⊕◌
at_both x (within {a} h) (within {a = b} i) l = within {a = x + a + b} (omega arith)

-- the least of two numbers is one of them
one_of : (a b : ℕ) → (min a b ≡ a) ⊎ (min a b ≡ b)
one_of a b = elim (dec_le a b) [ yes h ↦ inl (omega arith) | no h ↦ inr (omega arith) ]

pub meet : {P : ℕ → Type 0} {a b : Cost} → Attains P a → Attains P b → Attains P (a lesser b)
unfolding ◌lesser◌
meet nowhere q = q
meet (somewhere p) nowhere = somewhere p
meet {P} (somewhere {c = a} p) (somewhere {c = b} q) = somewhere {c = min a b} (either (one_of a b))
  where
    either : (min a b ≡ a) ⊎ (min a b ≡ b) → P (min a b)
    either (inl e) = rw e p
    either (inr e) = rw e q

pub from_both : {P Q R : ℕ → Type 0} {a b : Cost} (x : ℕ) → Attains P a → Attains Q b → ((c d : ℕ) → P c → Q d → R (x + c + d)) → Attains R (both x a b)
unfolding both ◌⊕◌
from_both x nowhere q f = nowhere
from_both x (somewhere p) nowhere f = nowhere
from_both x (somewhere {c} p) (somewhere {c = d} q) f = somewhere (f c d p q)

pub from_then : {P R : ℕ → Type 0} {a : Cost} (x : ℕ) → Attains P a → ((c : ℕ) → P c → R (x + c)) → Attains R (then x a)
unfolding then ◌⊕◌
from_then x nowhere f = nowhere
from_then x (somewhere {c} p) f = somewhere (f c p)

pub convey : {P R : ℕ → Type 0} {a : Cost} → Attains P a → ((c : ℕ) → P c → R c) → Attains R a
convey nowhere f = nowhere
convey (somewhere {c} p) f = somewhere (f c p)

pub reach : {P : ℕ → Type 0} {a : Cost} → Attains P a → (c : ℕ) → a ≡ some c → P c
reach nowhere c e = let z : ◌≡◌ {A = ℕ} 0 1 = cc in absurd (omega arith)
reach {P} (somewhere {c = d} p) c e = let q : d ≡ c = cc in rw q at p

pub found : {c : ℕ} {a : Cost} → AtMost c a → (d : ℕ) × (a ≡ some d) × (d ≤ c)
found (within {a} h) = (a, refl, h)

pub low : {c a : ℕ} → AtMost c (some a) → a ≤ c
low (within h) = h

-- there is only one least cost
pub unique : {P : ℕ → Type 0} {a b : Cost} → Attains P a → ((c : ℕ) → P c → AtMost c a) → Attains P b → ((c : ℕ) → P c → AtMost c b) → a ≡ b
unique nowhere f nowhere g = refl
unique nowhere f (somewhere {c} p) g = elim (f c p) [ ]
unique (somewhere {c} p) f nowhere g = elim (g c p) [ ]
unique (somewhere {c} p) f (somewhere {c = d} q) g = ap some (le_antisymm (low (f d q)) (low (g c p)))
