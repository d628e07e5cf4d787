-- The steps open to a gene are the clauses of a history: each history begins with one of them, and each of them, with histories for what follows, makes
-- a history.
-- Assumes nothing.
use Rattle.std.proofs.Common.{◌≡◌, refl, sym, ap, ◌∙◌, inl, inr, Bool, true, false, cond, List, [], ◌∷◌, ◌++◌, append-nil, ℕ, ◌+◌, arith}
use Rattle.finite.specs.Tests.{same}
use Rattle.finite.proofs.Tests.{is_same, same_is}
use Rattle.histories.specs.Histories.{Out, leaf, one, two, mixed, Gene, tip, pair, Family, History, rest, duplicate, speciate, speciate_lose, transfer_stay, transfer_part, transfer_lose, pass, cost}
use Rattle.tellings.specs.Steps.{Step, rests, speciates, duplicates, transfers, loses_going_down, loses_by_transfer, passes_free, step_cost, Line, own, steps}
use Rattle.tellings.specs.Chosen.{moves, partings, restings, endings, options, Onward, ends, splits, goes, onward}
use Rattle.tellings.specs.inner.Walks.{Each}

-- a step is one of a list
pub data Among (s : Step) : List Step → Type 0 where
  now : {l : List Step} → Among s (s ∷ l)
  then : {t : Step} {l : List Step} → Among s l → Among s (t ∷ l)

-- what holds of each step of a list holds of one of them
pub each_of : (P : Step → Type 0) {s : Step} {l : List Step} → Each P l → Among s l → P s
unfolding Each
each_of P e now = e.0
each_of P e (then m) = each_of P e.1 m

pub each_both : (P : Step → Type 0) (l k : List Step) → Each P l → Each P k → Each P (l ++ k)
unfolding Each
each_both P [] k e f = f
each_both P (s ∷ l) k e f = (e.0, each_both P l k e.1 f)

pub each_left : (P : Step → Type 0) (l k : List Step) → Each P (l ++ k) → Each P l
unfolding Each
each_left P [] k e = tt
each_left P (s ∷ l) k e = (e.0, each_left P l k e.1)

pub each_right : (P : Step → Type 0) (l k : List Step) → Each P (l ++ k) → Each P k
unfolding Each
each_right P [] k e = e
each_right P (s ∷ l) k e = each_right P l k e.1

in_right : {s : Step} (l k : List Step) → Among s k → Among s (l ++ k)
in_right [] k m = m
in_right (t ∷ l) k m = then (in_right l k m)

module _ (F : Family) where
  open F use {out, gene}

  -- a history of gene g from node v that begins with the step s and goes on at the cost c with the steps f
  abbrev pub Made : (g v : ℕ) → Step → ℕ → (ℕ → List Line) → Type 0
  Made g v s c f = (j : History F g v) × (cost F j ≡ step_cost F.costs s + c) × ((x : ℕ) → steps F j x ≡ own g v s x ++ f x)

  -- what follows a step, as histories
  pub data Rest (g : ℕ) (o : Onward) (c : ℕ) (f : ℕ → List Line) : Type 0 where
    finished : o ≡ ends → c ≡ 0 → ((x : ℕ) → f x ≡ []) → Rest g o c f
    parted : {a b p q : ℕ} → gene g ≡ pair a b → o ≡ splits p q → (h : History F a p) (i : History F b q) → c ≡ cost F h + cost F i → ((x : ℕ) → f x ≡ steps F h x ++ steps F i x) → Rest g o c f
    gone : {w : ℕ} → o ≡ goes w → (h : History F g w) → c ≡ cost F h → ((x : ℕ) → f x ≡ steps F h x) → Rest g o c f

  pub record Begun (g v : ℕ) (j : History F g v) : Type 0 where
    pub step : Step
    pub among : Among step (options F g v)
    pub cost_on : ℕ
    pub steps_on : ℕ → List Line
    pub rest_on : Rest g (onward step) cost_on steps_on
    pub costs : cost F j ≡ step_cost F.costs step + cost_on
    pub tells : (x : ℕ) → steps F j x ≡ own g v step x ++ steps_on x

  parts : {g v a b p q : ℕ} (s : Step) → gene g ≡ pair a b → Among s (options F g v) → onward s ≡ splits p q → (h : History F a p) (i : History F b q) → (j : History F g v)
      → cost F j ≡ step_cost F.costs s + (cost F h + cost F i) → ((x : ℕ) → steps F j x ≡ own g v s x ++ (steps F h x ++ steps F i x)) → Begun g v j
  parts s k m o h i j c f = record { step = s; among = m; cost_on = cost F h + cost F i; steps_on = λ x. steps F h x ++ steps F i x; rest_on = parted k o h i refl (λ x. refl); costs = c; tells = f }

  onto : {g v w : ℕ} (s : Step) → Among s (options F g v) → onward s ≡ goes w → (h : History F g w) → (j : History F g v)
      → cost F j ≡ step_cost F.costs s + cost F h → ((x : ℕ) → steps F j x ≡ own g v s x ++ steps F h x) → Begun g v j
  onto s m o h j c f = record { step = s; among = m; cost_on = cost F h; steps_on = steps F h; rest_on = gone o h refl (λ x. refl); costs = c; tells = f }

  by_move : {s : Step} (g v : ℕ) → Among s (moves (out v)) → Among s (options F g v)
  unfolding options
  by_move g v m = in_right (endings (gene g) v (out v)) (moves (out v)) m

  pub begun : {g v : ℕ} (j : History F g v) → Begun g v j
  unfolding cost steps step_cost onward options endings restings partings moves
  begun {g} {v} (rest {s} e a) = record {
    step = rests;
    among = rw (e, a) (rw (is_same {m = s} refl) now);
    cost_on = 0;
    steps_on = λ x. [];
    rest_on = finished refl refl (λ x. refl);
    costs = refl;
    tells = λ x. sym (append-nil (own g v rests x));
  }
  begun {g} {v} (duplicate e h i) = parts (duplicates v) e (rw e now) refl h i (duplicate e h i) (omega arith) (λ x. refl)
  begun (speciate {x} {y} (inl e) a h i) = parts (speciates x y) e (rw (e, a) (then now)) refl h i (speciate (inl e) a h i) (omega arith) (λ r. refl)
  begun (speciate {x} {y} (inr e) a h i) = parts (speciates y x) e (rw (e, a) (then (then now))) refl i h (speciate (inr e) a h i) (omega arith) (λ r. refl)
  begun {g} {v} (speciate_lose {x} {y} (inl a) h) = onto (loses_going_down x) (by_move g v (rw a now)) refl h (speciate_lose (inl a) h) refl (λ r. refl)
  begun {g} {v} (speciate_lose {x} {y} (inr a) h) = onto (loses_going_down x) (by_move g v (rw a (then now))) refl h (speciate_lose (inr a) h) refl (λ r. refl)
  begun {g} {v} (transfer_stay {x} {y} (inl e) a h i) = parts (transfers y v) e (rw (e, a) (then (then now))) refl h i (transfer_stay (inl e) a h i) (omega arith) (λ r. refl)
  begun {g} {v} (transfer_stay {x} {y} (inr e) a h i) = parts (transfers v y) e (rw (e, a) (then now)) refl i h (transfer_stay (inr e) a h i) (omega arith) (λ r. refl)
  begun (transfer_part {x} {y} (inl e) a h i) = parts (transfers y x) e (rw (e, a) (then (then (then (then now))))) refl h i (transfer_part (inl e) a h i) (omega arith) (λ r. refl)
  begun (transfer_part {x} {y} (inr e) a h i) = parts (transfers x y) e (rw (e, a) (then (then (then now)))) refl i h (transfer_part (inr e) a h i) (omega arith) (λ r. refl)
  begun {g} {v} (transfer_lose {y} a h) = onto (loses_by_transfer y) (by_move g v (rw a now)) refl h (transfer_lose a h) refl (λ r. refl)
  begun {g} {v} (pass {x} (inl a) h) = onto (passes_free x) (by_move g v (rw a now)) refl h (pass (inl a) h) (omega arith) (λ r. refl)
  begun {g} {v} (pass {x} (inr y) h) = onto (passes_free x) (by_move g v (rw y.1 (then now))) refl h (pass (inr y) h) (omega arith) (λ r. refl)

  -- histories for what follows the step s make a history
  unfoldable pub Makes : (g v : ℕ) → Step → Gene → Onward → Type 0
  Makes g v s k ends = Made g v s 0 (λ x. [])
  Makes g v s (tip t) (splits p q) = Unit {0}
  Makes g v s (pair a b) (splits p q) = (h : History F a p) (i : History F b q) → Made g v s (cost F h + cost F i) (λ x. steps F h x ++ steps F i x)
  Makes g v s k (goes w) = (h : History F g w) → Made g v s (cost F h) (steps F h)

  abbrev pub Able : (g v : ℕ) → Gene → Step → Type 0
  Able g v k s = Makes g v s k (onward s)

  make_move : (g v : ℕ) (k : Gene) (A : Out) → out v ≡ A → Each (Able g v k) (moves A)
  unfolding Each Makes cost steps step_cost onward moves
  make_move g v k (leaf t) e = tt
  make_move g v k (one x) e = (λ h. (pass (inl e) h, omega arith, λ r. refl), tt)
  make_move g v k (two x y) e = (λ h. (speciate_lose (inl e) h, refl, λ r. refl), (λ h. (speciate_lose (inr e) h, refl, λ r. refl), tt))
  make_move g v k (mixed x y) e = (λ h. (transfer_lose e h, refl, λ r. refl), (λ h. (pass (inr (y, e)) h, omega arith, λ r. refl), tt))

  make_parting : (g v a b : ℕ) → gene g ≡ pair a b → (A : Out) → out v ≡ A → Each (Able g v (pair a b)) (partings v A)
  unfolding Each Makes cost steps step_cost onward partings
  make_parting g v a b k (leaf t) e = tt
  make_parting g v a b k (one x) e = tt
  make_parting g v a b k (two x y) e = (λ h i. (speciate (inl k) e h i, omega arith, λ r. refl), (λ h i. (speciate (inr k) e i h, omega arith, λ r. refl), tt))
  make_parting g v a b k (mixed x y) e = (
    λ h i. (transfer_stay (inr k) e i h, omega arith, λ r. refl),
    (
      λ h i. (transfer_stay (inl k) e h i, omega arith, λ r. refl),
      (
        λ h i. (transfer_part (inr k) e i h, omega arith, λ r. refl),
        (λ h i. (transfer_part (inl k) e h i, omega arith, λ r. refl), tt),
      ),
    ),
  )

  make_resting : (g v s : ℕ) → gene g ≡ tip s → (A : Out) → out v ≡ A → Each (Able g v (tip s)) (restings s A)
  unfolding Each Makes cost steps step_cost onward restings
  make_resting g v s k (leaf t) e = at (same s t) (same_is s t)
    where
      at : (q : Bool) → (q ≡ true → s ≡ t) → Each (Able g v (tip s)) (cond q (rests ∷ []) [])
      at true f = ((rest (k ∙ ap tip (f refl)) e, refl, λ r. sym (append-nil (own g v rests r))), tt)
      at false f = tt
  make_resting g v s k (one x) e = tt
  make_resting g v s k (two x y) e = tt
  make_resting g v s k (mixed x y) e = tt

  make_ending : (g v : ℕ) (K : Gene) → gene g ≡ K → Each (Able g v K) (endings K v (out v))
  unfolding Each Makes cost steps step_cost onward endings
  make_ending g v (tip s) k = make_resting g v s k (out v) refl
  make_ending g v (pair a b) k = (λ h i. (duplicate k h i, omega arith, λ r. refl), make_parting g v a b k (out v) refl)

  pub make : (g v : ℕ) → Each (Able g v (gene g)) (options F g v)
  unfolding options
  make g v = each_both (Able g v (gene g)) (endings (gene g) v (out v)) (moves (out v)) (make_ending g v (gene g) refl) (make_move g v (gene g) (out v) refl)
