-- The turns of the two passes that fill a column: from the highest child down an entry is the lowest child among those passed, and from 1 up an entry is
-- the count among those passed. A parent that is none of 1 to n is noted at 0, which the end clears.
-- Assumes nothing.
use Rattle.std.proofs.Common.{◌≡◌, ◌≢◌, ℕ, zero, suc, ◌+◌, ◌-◌, ◌≤◌, ◌<◌, List, length, take, drop, refl, sym, ap, ◌∙◌, arith}
use Rattle.std.proofs.Math.ListN.{set, length-set}
use Rattle.std.proofs.Math.Seq.{get_or-set_same, get_or-set_other, ext_get_or, get_or-take, get_or-drop}
use Rattle.std.proofs.lemmas.List.{length-take-le, length-drop}
use Rattle.finite.specs.Tests.{same, under}
use Rattle.finite.specs.Range.{first, children}
use Rattle.finite.specs.Tables.{at, zeros, filled}
use Rattle.finite.proofs.Cases.{by_eq, by_less}
use Rattle.finite.proofs.Count.{count_start, count_turn}
use Rattle.finite.proofs.Every.{first_same, first_nothing}
use Rattle.finite.proofs.Tables.{length_filled, filled_in, filled_out, filled_zero, zeros_long, zeros_at}
use Rattle.std.proofs.lemmas.Bool.{and_left}
use Rattle.finite.proofs.Tests.{is_same, not_same, is_under, not_under}
use Rattle.tables.specs.Children.{is_next, next, inside, inside_after, one_more}
use Rattle.tables.proofs.Nexts.{inside_in, inside_out, inside_high, lowest, lowest_yes, lowest_no, noted_here, noted_not}

-- a column that holds f at 1..n, and 0 elsewhere once its entry 0 is cleared
filled_is : (n : ℕ) (l : List ℕ) (f : ℕ → ℕ) → n ≤ 127 → length l ≡ 128 → ((v : ℕ) → 1 ≤ v → v ≤ n → at l v ≡ f v) → ((v : ℕ) → n < v → at l v ≡ 0)
    → set l 0 0 ≡ filled n zeros f
filled_is n l f few long inside past = ext_get_or 0 (set l 0 0) (filled n zeros f) (omega (arith, length-set l 0 0, length_filled n zeros f, zeros_long)) (λ i b. by_eq i 0
    (λ e. rw e (get_or-set_same l 0 0 0 (omega arith) ∙ sym (zeros_at 0) ∙ sym (filled_zero n zeros f)))
    (λ d. get_or-set_other l 0 i 0 0 d ∙ by_less n i
    (λ h. past i h ∙ sym (zeros_at i) ∙ sym (filled_out n zeros f i h))
    (λ h. inside i (omega arith) h ∙ sym (filled_in n zeros f i (omega arith) h (omega (arith, zeros_long))))))

-- a column once the children above w are noted, each at its parent if it is above what `after` says of that; entry 0 may be anything
pub record Noted (n : ℕ) (f after : ℕ → ℕ) (w : ℕ) (out : List ℕ) : Type 0 where
  pub long : length out ≡ 128
  pub within : (v : ℕ) → 1 ≤ v → v ≤ n → at out v ≡ lowest n (is_next f (after v) v) w
  pub past : (v : ℕ) → n < v → at out v ≡ 0

module _ (n : ℕ) (f after : ℕ → ℕ) (few : n ≤ 127) where
  pub noted_start : (out : List ℕ) → out ≡ zeros → Noted n f after n out
  noted_start out e = rw e (record {
    long = zeros_long;
    within = λ v l u. zeros_at v ∙ sym (first_nothing n _ (λ x a b. and_left (under n x) (is_next f (after v) v x) (not_under b)));
    past = λ v l. zeros_at v;
  })

  noted_one : (w p q : ℕ) (out : List ℕ) → 1 ≤ w → w ≤ n → p ≡ f w → q ≡ inside_after n after p w → q ≤ n → Noted n f after w out → Noted n f after (w - 1) (set out q w)
  noted_one w p q out lw uw ep eq uq s = record {
    long = length-set out q w ∙ s.long;
    within = λ v l u. by_eq v q
        (λ e. rw e (get_or-set_same out q w 0 (omega (arith, s.long)) ∙ lowest_yes n w (is_next f (after q) q) lw uw (noted_here n f after w p q ep eq (rw e at l))))
        (λ d. get_or-set_other out q v w 0 d ∙ s.within v l u ∙ lowest_no n w (is_next f (after v) v) lw (noted_not n f after w p q ep eq v u d));
    past = λ v l. get_or-set_other out q v w 0 (λ e. omega arith) ∙ s.past v l;
  }

  -- the turn at w, whatever the form in which the code gives n, the parent and w
  pub noted_turn : (w k p x q : ℕ) (out : List ℕ) → 1 ≤ w → w ≤ n → q ≡ inside_after k after p x → k ≡ n → p ≡ f w → x ≡ w → q ≤ k → Noted n f after w out → Noted n f after (w - 1) (set out q w)
  noted_turn w k p x q out lw uw eq ek ep ex uq s = noted_one w p q out lw uw ep (eq ∙ rw (ek, ex)) (omega (arith, uq, ek)) s

  pub noted_done : (w : ℕ) (out : List ℕ) → w ≤ 0 → Noted n f after w out → set out 0 0 ≡ filled n zeros (λ v. next n f (after v) v)
  unfolding next
  noted_done w out none s =
      let z : w ≡ 0 = omega arith in
      filled_is n out (λ v. first n (is_next f (after v) v)) few s.long
      (λ v l u. s.within v l u ∙ first_same n _ _ (λ x a b. rw (z, is_under {m = 0} {n = x} (omega arith)))) s.past

-- a number counts the next child if it is its parent
module _ (f : ℕ → ℕ) where
  hit : (w v : ℕ) → f (w + 1) ≡ v → children w f v + 1 ≡ children (w + 1) f v
  unfolding children
  hit w v e = count_turn (λ x. same (f x) v) w _ 1 refl (rw (is_same e))

  miss : (w v : ℕ) → f (w + 1) ≢ v → children w f v ≡ children (w + 1) f v
  unfolding children
  miss w v d = omega (arith, count_turn (λ x. same (f x) v) w _ 0 refl (rw (not_same d)))

-- a column once the children 1..w are counted; entry 0 may be any number up to w
pub record Counted (n : ℕ) (f : ℕ → ℕ) (w : ℕ) (out : List ℕ) : Type 0 where
  pub long : length out ≡ 128
  pub within : (v : ℕ) → 1 ≤ v → v ≤ n → at out v ≡ children w f v
  pub past : (v : ℕ) → n < v → at out v ≡ 0
  pub small : (v : ℕ) → at out v ≤ w

module _ (n : ℕ) (f : ℕ → ℕ) (few : n ≤ 127) where
  pub counted_start : (out : List ℕ) → out ≡ zeros → Counted n f 0 out
  unfolding children
  counted_start out e = rw e (record {
    long = zeros_long;
    within = λ v l u. zeros_at v ∙ count_start _;
    past = λ v l. zeros_at v;
    small = λ v. omega (arith, zeros_at v);
  })

  counted_one : (w p : ℕ) (out r : List ℕ) → p ≡ f (w + 1) → r ≡ one_more n out p → Counted n f w out → Counted n f (w + 1) r
  unfolding one_more
  counted_one w p out r ep er s = rw er (record {
    long = length-set out q (at out q + 1) ∙ s.long;
    within = λ v l u. by_eq v q
        (λ e. rw e (here ∙ ap (λ (y : ℕ). y + 1) (s.within q (rw e at l) (rw e at u)) ∙ hit f w q (sym ep ∙ sym (taken (rw e at l)))))
        (λ d. there v d ∙ s.within v l u ∙ miss f w v (λ e. d (passed v u (sym e ∙ sym ep))));
    past = λ v l. there v (λ e. omega (arith, inside_high n p)) ∙ s.past v l;
    small = λ v. by_eq v q (λ e. rw e (omega (arith, here, s.small q))) (λ d. omega (arith, there v d, s.small v));
  })
    where
      q : ℕ
      q = inside n p

      here : at (set out (inside n p) (at out (inside n p) + 1)) (inside n p) ≡ at out (inside n p) + 1
      here = get_or-set_same out q (at out q + 1) 0 (omega (arith, s.long, inside_high n p))

      there : (v : ℕ) → v ≢ inside n p → at (set out (inside n p) (at out (inside n p) + 1)) v ≡ at out v
      there v d = get_or-set_other out q v (at out q + 1) 0 d

      taken : 1 ≤ inside n p → inside n p ≡ p
      taken l = by_less n p (λ h. absurd (omega (arith, inside_out n p h))) (λ h. sym (inside_in n p h))

      passed : (v : ℕ) → v ≤ n → v ≡ p → v ≡ inside n p
      passed v u e = e ∙ inside_in n p (omega arith)

  -- the turn at v, after which those below u are passed, whatever the form in which the code gives n and the parent
  pub counted_turn : (v u k p : ℕ) (out r : List ℕ) → 1 ≤ v → u ≡ v → r ≡ one_more k out p → k ≡ n → p ≡ f v → Counted n f (v - 1) out → Counted n f u r
  counted_turn v u k p out r l e er ek ep s = let e₁ : v - 1 + 1 ≡ v = omega arith in rw e (rw e₁ at (counted_one (v - 1) p out r (rw e₁ ep) (er ∙ rw ek) s))

  pub counted_few : (w q : ℕ) (out : List ℕ) → w ≤ n → Counted n f w out → at out q ≤ 127
  counted_few w q out l s = omega (arith, s.small q)

  -- where n is 0 no child is passed
  pub counted_done : (w : ℕ) (out : List ℕ) → (1 ≤ n → w ≡ n) → Counted n f w out → set out 0 0 ≡ filled n zeros (children n f)
  counted_done w out e s = filled_is n out (children n f) few s.long (λ v l u. rw (e (omega arith)) at s.within v l u) s.past

-- what comes of the calls at 1 to n is f
abbrev pub Gives : (ℕ → ℕ → Type 0) → ℕ → (ℕ → ℕ) → Type 0
Gives gives n f = (v r : ℕ) → 1 ≤ v → v ≤ n → gives v r → r ≡ f v

-- the turns of a loop that fills a column from such calls: at v, after which the entries below u are filled
pub filled_start : (d : List ℕ) (f : ℕ → ℕ) → d ≡ filled 0 d f
unfolding filled
filled_start d f = refl

pub filled_turn : (v u x : ℕ) (d out r : List ℕ) (f : ℕ → ℕ) → 1 ≤ v → u ≡ v → x ≡ f v → r ≡ set out v x → out ≡ filled (v - 1) d f → r ≡ filled u d f
unfolding filled
filled_turn zero u x d out r f l e ex er s = absurd (omega arith)
filled_turn (suc k) u x d out r f l e ex er s = let q : suc k - 1 ≡ k = omega arith in rw (e, er, ex, s, q)

pub filled_end : (n v : ℕ) (d out : List ℕ) (f : ℕ → ℕ) → n ≤ v → v ≤ n → out ≡ filled v d f → out ≡ filled n d f
filled_end n v d out f a b s = let e : v ≡ n = omega arith in rw e at s

-- the entries of 1 to n, as a loop over these entries reads them
module _ (n : ℕ) (l : List ℕ) where
  pub entries_many : n ≤ 127 → length l ≡ 128 → length (take (n + 1 - 1) (drop 1 l)) ≡ n
  entries_many few long = length-take-le (n + 1 - 1) (drop 1 l) (omega (arith, length-drop 1 l)) ∙ omega arith

  pub entry_is : (i : ℕ) → i < n → at (take (n + 1 - 1) (drop 1 l)) i ≡ at l (i + 1)
  entry_is i h = get_or-take (n + 1 - 1) (drop 1 l) i 0 (omega arith) ∙ get_or-drop 1 l i 0 ∙ ap (at l) (omega arith)
