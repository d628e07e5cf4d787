-- Writing into the front of a part that is lent. A loop keeps what is written so far, then the rest as it was (`written`); a part `&mut d[at..]`
-- that comes back written is the whole written at `at` (`lent`), and writing twice one after the other is writing both (`put_written`).
-- Assumes nothing.
use Rattle.std.proofs.Common.{ℕ, suc, ◌+◌, ◌-◌, ◌≤◌, ◌<◌, ◌≡◌, refl, sym, ap, ◌∙◌, List, [], ◌∷◌, ◌++◌, append_assoc, append-nil, length, get_or, take, drop, set, replicate, length-append, length-drop, take-append-drop, drop_of_length-le, take_at, drop_at, take_all, drop-drop, length-take-le, get_or-drop, add-one, arith, lt-ltb}
use lib.Seq.{paste, paste-suc, set_split, drop-append-add}
use borrow.Rule.Slice.PartMut.{put_mid}
use Rattle.columns.specs.Fields.{columns, column_of}
use Rattle.columns.specs.inner.Scans.{front_count}
use Rattle.columns.specs.Writing.{written, put}
use Rattle.columns.proofs.Columns.{columns_are, column_at, length_columns}

-- nothing is written
pub written_nil : (d : List ℕ) → d ≡ written d []
unfolding written
written_nil d = refl

pub put_nil : (d : List ℕ) (at : ℕ) → d ≡ put d at []
unfolding put written
put_nil d at = sym (take-append-drop at d)

-- at the front, `put` and `written` are the same
pub put_front : (d bs : List ℕ) → put d 0 bs ≡ written d bs
unfolding put
put_front d bs = refl

pub length_written : (d bs : List ℕ) → length bs ≤ length d → length (written d bs) ≡ length d
unfolding written
length_written d bs h = length-append bs (drop (length bs) d) ∙ omega (arith, length-drop (length bs) d)

pub length_put : (d : List ℕ) (at : ℕ) (bs : List ℕ) → at + length bs ≤ length d → length (put d at bs) ≡ length d
unfolding put
length_put d at bs h = rw (length-append, length_written (drop at d) bs (simp length-drop (omega arith)), length-take-le at d (omega arith), length-drop) (omega arith)

-- one piece after another: the law of everything that writes lines one after the other
pub put_written : (d p bs : List ℕ) (at : ℕ) → at ≡ length p → put (written d p) at bs ≡ written d (p ++ bs)
unfolding put written
put_written d p bs at e = rw (e, take_at p (drop (length p) d) (length p) refl, drop_at p (drop (length p) d) (length p) refl, drop-drop, length-append) (sym (append_assoc p bs _))

pub put_put : (d : List ℕ) (at next : ℕ) (p bs : List ℕ) → at ≤ length d → next ≡ at + length p → put (put d at p) next bs ≡ put d at (p ++ bs)
unfolding put written
put_put d at next p bs h e =
    let f : take at d ++ (p ++ drop (length p) (drop at d)) ≡ (take at d ++ p) ++ drop (length p) (drop at d) = sym (append_assoc (take at d) p _) in
    let l : length (take at d ++ p) ≡ next = length-append (take at d) p ∙ rw (length-take-le at d h) (sym e) in
    rw (f, take_at (take at d ++ p) (drop (length p) (drop at d)) next l, drop_at (take at d ++ p) (drop (length p) (drop at d)) next l, drop-drop, length-append)
    (simp append_assoc)

-- one element more, behind the others
set_put : (x : List ℕ) (k n : ℕ) → k < length x → set x k n ≡ put x k (n ∷ [])
unfolding put written
set_put x k n h = set_split x k n h ∙ rw (drop-drop, add-one)

pub put_set : (d ns : List ℕ) (at i n : ℕ) → length ns ≡ i → at + i < length d → set (put d at ns) (at + i) n ≡ put d at (ns ++ (n ∷ []))
put_set d ns at i n e h = set_put (put d at ns) (at + i) n (omega (arith, length_put d at ns (omega arith))) ∙ put_put d at (at + i) ns (n ∷ []) (omega arith) (omega arith)

-- what is put over another piece covers it, if it is no shorter
pub put_over : (d p q : List ℕ) (at : ℕ) → at ≤ length d → length p ≤ length q → put (put d at p) at q ≡ put d at q
unfolding put written
put_over d p q at h l =
    let t : length (take at d) ≡ at = length-take-le at d h in
    let k : length q ≡ length p + (length q - length p) = omega arith in
    let c : drop (length q) (p ++ drop (length p) (drop at d)) ≡ drop (length q) (drop at d) =
    rw k (drop-append-add p (drop (length p) (drop at d)) (length q - length p) ∙ drop-drop (length q - length p) (length p) (drop at d)) in
    rw (take_at (take at d) (p ++ drop (length p) (drop at d)) at t, drop_at (take at d) (p ++ drop (length p) (drop at d)) at t, c)

-- a part from `at` to the end that comes back with bs written: the whole has bs put at `at`
pub lent : (d e : List ℕ) (at : ℕ) (bs : List ℕ) → at ≤ length d
    → e ≡ written (take (length d - at) (drop at d)) bs → put_mid at (length d - at) d e ≡ put d at bs
unfolding put
lent d e at bs h ee =
    let l : length (drop at d) ≤ length d - at = simp length-drop (omega arith) in
    let all : take (length d - at) (drop at d) ≡ drop at d = take_all (length d - at) (drop at d) l in
    let none : drop (length d - at) (drop at d) ≡ [] = drop_of_length-le (drop at d) l in
    rw (ee, all, none) (simp append-nil)

-- a turn of a loop that writes bs at a place byte by byte, and what its turns leave
pub paste_turn : (d out bs : List ℕ) (at j i r : ℕ) → i ≡ at + j → at + j < length d → j < length bs → out ≡ paste d at bs j → r ≡ get_or bs j 0
    → set out i r ≡ paste d at bs (suc j)
paste_turn d out bs at j i r ei room h eo er = rw (ei, eo, er) (paste-suc d at bs j 0 room h)

pub paste_done : (d out bs : List ℕ) (at j : ℕ) → j ≡ length bs → out ≡ paste d at bs j → out ≡ put d at bs
unfolding put written
paste_done d out bs at j e eo = rw (eo, e, take_all (length bs) bs (omega arith), ← drop-drop (length bs) at d) (append_assoc (take at d) bs (drop (length bs) (drop at d)))

pub columns_turn : (d out : List ℕ) (n first i r : ℕ) → 6 ≤ length d → n < 1000000 → first ≤ i → i < 6 → out ≡ paste d first (drop first (columns n)) (i - first) → r ≡ column_of n (5 - i)
    → set out i r ≡ paste d first (drop first (columns n)) (i + 1 - first)
columns_turn d out n first i r room small low h eo er =
    let k : i + 1 - first ≡ suc (i - first) = omega arith in
    let e : first + (i - first) ≡ i = omega arith in
    rw k (paste_turn d out (drop first (columns n)) first (i - first) i r (sym e) (omega arith) (simp (length-drop, length_columns) (omega arith)) eo
    (er ∙ sym (column_at n small i h) ∙ sym (get_or-drop first (columns n) (i - first) 0 ∙ ap (λ (j : ℕ). get_or (columns n) j 0) e)))

pub columns_done : (d out : List ℕ) (n first i : ℕ) → first ≤ 6 → 6 ≤ i → i ≤ 6 → out ≡ paste d first (drop first (columns n)) (i - first) → out ≡ put d first (drop first (columns n))
columns_done d out n first i h low high eo = paste_done d out (drop first (columns n)) first (i - first) (simp (length-drop, length_columns) (omega arith)) eo

-- a number below 100 has spaces in its front columns, so that it is written by those and the columns behind them
front_spaces : (n : ℕ) → n < 100 → replicate front_count 32 ++ drop front_count (columns n) ≡ columns n
front_spaces n h = rw (columns_are n (omega arith))
    (simp (lt-ltb n 100000 (omega arith), lt-ltb n 10000 (omega arith), lt-ltb n 1000 (omega arith), lt-ltb n 100 h))

pub field_parts : (d x y : List ℕ) (n : ℕ) → n < 100 → x ≡ written d (replicate front_count 32) → y ≡ put x front_count (drop front_count (columns n)) → y ≡ written d (columns n)
field_parts d x y n h ex ey = rw (ey, ex, put_written d (replicate front_count 32) (drop front_count (columns n)) front_count refl, front_spaces n h)
