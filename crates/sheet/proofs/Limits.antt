-- The limits of a header as a test and as inequalities: each is a conjunction of the same seven facts.
-- Assumes nothing.
use Rattle.std.proofs.Common.{ℕ, ◌≡◌, sym, true, false, List, arith}
use Rattle.finite.specs.Tests.{under}
use Rattle.finite.specs.Tables.{at}
use Rattle.finite.proofs.Cases.{by_bool}
use Rattle.finite.proofs.Tests.{is_under, under_is, and_l, and_r}
use Rattle.layout.specs.Headers.{WithinLimits}
use Rattle.sheet.specs.Sheets.{limits, header_by}

record Parts (h : List ℕ) : Type 0 where
  a : under 0 (at h 0) ≡ true
  b : under (at h 0) 128 ≡ true
  c : under 0 (at h 1) ≡ true
  d : under (at h 1) 128 ≡ true
  e : under (at h 2) 100 ≡ true
  f : under (at h 3) 100 ≡ true
  g : under (at h 4) 100 ≡ true

parts : (h : List ℕ) → limits h ≡ true → Parts h
unfolding limits
parts h t = search (and_l, and_r)

pub limits_is : (h : List ℕ) → limits h ≡ true → WithinLimits (header_by h)
limits_is h t = let p = parts h t in omega (
  arith,
  under_is 0 (at h 0) p.a,
  under_is (at h 0) 128 p.b,
  under_is 0 (at h 1) p.c,
  under_is (at h 1) 128 p.d,
  under_is (at h 2) 100 p.e,
  under_is (at h 3) 100 p.f,
  under_is (at h 4) 100 p.g,
)

pub is_limits : (h : List ℕ) → WithinLimits (header_by h) → true ≡ limits h
unfolding limits
is_limits h k = rw (
  is_under {m = 0} {n = at h 0} (omega arith),
  is_under {m = at h 0} {n = 128} (omega arith),
  is_under {m = 0} {n = at h 1} (omega arith),
  is_under {m = at h 1} {n = 128} (omega arith),
  is_under {m = at h 2} {n = 100} (omega arith),
  is_under {m = at h 3} {n = 100} (omega arith),
  is_under {m = at h 4} {n = 100} (omega arith),
)

pub beyond : (h : List ℕ) → (WithinLimits (header_by h) → ⊥) → false ≡ limits h
beyond h no_way = by_bool (limits h) (λ t. absurd (no_way (limits_is h t))) (λ t. sym t)
