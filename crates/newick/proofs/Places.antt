-- Bytes of a text by place: what is left of the text at a place begins with the byte there, and what follows it is left at the next place. Digits are
-- the bytes from 48 to 57.
-- Assumes nothing.
use Rattle.std.proofs.Common.{ℕ, suc, ◌+◌, ◌≤◌, ◌<◌, ◌≡◌, true, false, List, [], ◌∷◌, ◌++◌, length, get_or, drop, sym, ap, ◌∙◌, add-zero, add-one, arith, drop-cons, get_or-drop, drop-drop}
use Rattle.std.proofs.Math.ListN.{get_or-eq_default}
use Rattle.std.proofs.Math.Seq.{drop-append_seam}
use Rattle.finite.specs.Tests.{under}
use Rattle.finite.proofs.Cases.{by_less}
use Rattle.std.proofs.lemmas.Bool.{and_left, and_right}
use Rattle.finite.proofs.Tests.{under_is, is_under, not_under, and_l, and_r}
use Rattle.newick.specs.Reading.{byte_at, digit_from}

-- a byte that is not 0 stands inside the text
pub inside : (l : List ℕ) (i : ℕ) → 1 ≤ get_or l i 0 → i < length l
inside l i h = by_less i (length l) (λ a. a) (λ a. let e : get_or l i 0 ≡ 0 = get_or-eq_default l 0 a in absurd (omega arith))

pub digit_low : (from b : ℕ) → digit_from from b ≡ true → from ≤ b
unfolding digit_from
digit_low from b e = omega (arith, under_is from (suc b) (and_r (under b 58) (under from (suc b)) e))

pub digit_high : (from b : ℕ) → digit_from from b ≡ true → b < 58
unfolding digit_from
digit_high from b e = under_is b 58 (and_l (under b 58) (under from (suc b)) e)

pub digit_yes : (from b : ℕ) → from ≤ b → b < 58 → digit_from from b ≡ true
unfolding digit_from
digit_yes from b l u = let p : from < suc b = omega arith in rw (is_under u, is_under p)

pub digit_less : (from b : ℕ) → b < from → digit_from from b ≡ false
unfolding digit_from
digit_less from b l = let p : suc b ≤ from = omega arith in and_right (under b 58) (under from (suc b)) (not_under p)

pub digit_more : (from b : ℕ) → 58 ≤ b → digit_from from b ≡ false
unfolding digit_from
digit_more from b l = and_left (under b 58) (under from (suc b)) (not_under l)

-- the byte at a place begins what is left there, and what follows it is left at the next
pub front : (text : List ℕ) (at : ℕ) (xs : List ℕ) → drop at text ≡ xs → byte_at text at ≡ get_or xs 0 0
front text at xs e = ap (λ (k : ℕ). get_or text k 0) (sym (add-zero at)) ∙ sym (get_or-drop at text 0 0) ∙ ap (λ (l : List ℕ). get_or l 0 0) e

pub past : (text : List ℕ) (at : ℕ) (xs ys : List ℕ) → drop at text ≡ xs ++ ys → drop (at + length xs) text ≡ ys
past text at xs ys e = sym (drop-drop (length xs) at text) ∙ ap (λ (l : List ℕ). drop (length xs) l) e ∙ drop-append_seam xs ys

pub past_one : (text : List ℕ) (at x : ℕ) (ys : List ℕ) → drop at text ≡ x ∷ ys → drop (suc at) text ≡ ys
past_one text at x ys e = ap (λ (k : ℕ). drop k text) (sym (add-one at)) ∙ past text at (x ∷ []) ys e

pub opens : (text : List ℕ) (at x : ℕ) → byte_at text at ≡ x → 1 ≤ x → drop at text ≡ x ∷ drop (suc at) text
opens text at x e h = let l : at < length text = inside text at (rw e h) in drop-cons text at 0 l ∙ ap (λ (y : ℕ). y ∷ drop (suc at) text) e
