-- Reading a line finds one just where the bytes are the fields of five numbers and a line feed: by induction on the fields that are left
-- (`rest_is`), each of which is a number's columns or is malformed. Then the turns of the loops that read and write a line.
-- Assumes nothing.
use Rattle.std.proofs.Common.{ℕ, zero, suc, ◌+◌, ◌-◌, ◌*◌, ◌≤◌, ◌<◌, ◌≡◌, refl, sym, ap, ◌∙◌, subst, true, false, List, [], ◌∷◌, ◌++◌, append_assoc, append-nil, length, get_or, take, drop, set, length-append, length-set, take-take, drop-drop, get_or-take, get_or-drop, take-add, take_at, drop_at, drop-cons, eqb, lit<, add-zero, add-one, arith, eq-eqb, ne_eqb, eqb-true}
use Rattle.std.proofs.lemmas.List.{take_all, take_more_set, drop-take}
use Rattle.std.proofs.lemmas.Option.{none-some}
use lib.ListN.{get_or-eq_default}
use lib.Seq.{set_at, append_snoc}
use borrow.Author.Tests.{eqb-false}
use borrow.Rule.Slice.PartMut.{put_mid}
use Rattle.finite.proofs.Tables.{replicate_at}
use Rattle.finite.proofs.Cases.{by_bool, by_eq}
use Rattle.columns.specs.Fields.{columns, six, spells, field_at, FieldIs}
use Rattle.columns.specs.Writing.{written, put}
use Rattle.text_lines.specs.Lines.{field_count, line_length, fields_of, line_of, lines_text, Small, Reading, malformed, end_at, and_then, rest_at, line_at, LineIs, told_at, SaysLine, LineRead}
use Rattle.columns.specs.declared.Cursor.{Cursor}
use Rattle.std.specs.Prelude.{Option, Some, None}
use Rattle.columns.proofs.Columns.{length_columns}
use Rattle.columns.proofs.Fields.{field_is, columns_spelled, spelled_columns, one_number}
use Rattle.columns.proofs.Writing.{lent, put_written, length_written}

-- the bytes of fields and of a line
length_fields : (k : ℕ) (ns : List ℕ) → length (fields_of k ns) ≡ 6 * k
unfolding fields_of
length_fields zero ns = refl
length_fields (suc k) ns = rw (length-append, length_columns, length_fields k ns) (omega arith)

pub length_line : (ns : List ℕ) → length (line_of ns) ≡ line_length
unfolding line_of
length_line ns = rw (length-append, length_fields field_count ns)

-- and of some lines, one after the other
pub length_lines_text : (l : List (List ℕ)) → length (lines_text l) ≡ line_length * length l
unfolding lines_text
length_lines_text [] = refl
length_lines_text (ns ∷ l) = rw (length-append, length_line ns, length_lines_text l) (omega arith)

pub lines_text_append : (l k : List (List ℕ)) → lines_text (l ++ k) ≡ lines_text l ++ lines_text k
unfolding lines_text
lines_text_append [] k = refl
lines_text_append (ns ∷ l) k = rw (lines_text_append l k) (sym (append_assoc (line_of ns) (lines_text l) (lines_text k)))

-- the first field and the others
fields_head : (k : ℕ) (ns : List ℕ) → fields_of (suc k) ns ≡ columns (get_or ns 0 0) ++ fields_of k (drop 1 ns)
unfolding fields_of
fields_head zero ns = sym (append-nil (columns (get_or ns 0 0)))
fields_head (suc k) ns =
    let e : get_or (drop 1 ns) k 0 ≡ get_or ns (suc k) 0 = get_or-drop 1 ns k 0 ∙ ap (λ (j : ℕ). get_or ns j 0) (omega arith) in
    rw (fields_head k ns, e) (append_assoc (columns (get_or ns 0 0)) (fields_of k (drop 1 ns)) (columns (get_or ns (suc k) 0)))

-- numbers that have fields, one by one
small_cons : (n : ℕ) (ns : List ℕ) → n < 1000000 → Small ns → Small (n ∷ ns)
small_cons n ns h s = record { small = at }
  where
    at : (i : ℕ) → get_or (n ∷ ns) i 0 < 1000000
    at zero = h
    at (suc i) = s.small i

small_tail : (ns : List ℕ) → Small ns → Small (drop 1 ns)
small_tail [] s = s
small_tail (n ∷ ns) s = record { small = λ i. s.small (suc i) }

small_nil : Small []
small_nil = record { small = λ i. lit< tt }

pub small_of_five : (a b c d e : ℕ) → a < 1000000 → b < 1000000 → c < 1000000 → d < 1000000 → e < 1000000 → Small (a ∷ b ∷ c ∷ d ∷ e ∷ [])
small_of_five a b c d e ha hb hc hd he = small_cons a _ ha (small_cons b _ hb (small_cons c _ hc (small_cons d _ hd (small_cons e _ he small_nil))))

-- six bytes, then m bytes
more : (s p r : List ℕ) (at m : ℕ) → six s at ≡ p → take m (drop (at + 6) s) ≡ r → take (6 + m) (drop at s) ≡ p ++ r
more s p r at m ep er = take-add 6 m (drop at s) ∙ rw (drop-drop, ep, er)

front : (s r : List ℕ) (at m n : ℕ) → take (6 + m) (drop at s) ≡ columns n ++ r → six s at ≡ columns n
front s r at m n e = sym (take-take 6 (6 + m) (drop at s) (omega arith)) ∙ ap (λ (l : List ℕ). take 6 l) e ∙ take_at (columns n) r 6 (length_columns n)

back : (s r : List ℕ) (at m n : ℕ) → take (6 + m) (drop at s) ≡ columns n ++ r → take m (drop (at + 6) s) ≡ r
back s r at m n e = rw (← drop-drop 6 at s, ← drop-take 6 m (drop at s), e) (drop_at (columns n) r 6 (length_columns n))

-- a byte that is not 0 stands within the text
one_byte : (s : List ℕ) (q : ℕ) → get_or s q 0 ≡ 10 → take 1 (drop q s) ≡ 10 ∷ []
one_byte [] q e = absurd (omega arith)
one_byte (x ∷ xs) zero e = ap (λ (b : ℕ). b ∷ []) e
one_byte (x ∷ xs) (suc q) e = one_byte xs q e

-- the fields of the first k numbers, and the line feed
abbrev rest : ℕ → List ℕ → List ℕ
rest k ms = fields_of k ms ++ (10 ∷ [])

rest_head : (k : ℕ) (ms : List ℕ) → rest (suc k) ms ≡ columns (get_or ms 0 0) ++ rest k (drop 1 ms)
rest_head k ms = rw (fields_head k ms) (append_assoc (columns (get_or ms 0 0)) (fields_of k (drop 1 ms)) (10 ∷ []))

six_more : (k : ℕ) → 6 * suc k + 1 ≡ 6 + (6 * k + 1)
six_more k = omega arith

-- what is left of a line, k fields and the line feed, is that of the numbers found, which follow ns; or it is no such line
abbrev EndIs : ℕ → List ℕ → ℕ → List ℕ → List ℕ → Option Cursor → Type 0
EndIs k s at ns l (Some c) = (ms : List ℕ) × (l ≡ ns ++ ms) × Small ms × (take (6 * k + 1) (drop at s) ≡ rest k ms) × (c.at ≡ at + (6 * k + 1))
EndIs k s at ns l None = (ms : List ℕ) → Small ms → take (6 * k + 1) (drop at s) ≡ rest k ms → ⊥

abbrev RestIs : ℕ → List ℕ → ℕ → List ℕ → Reading → Type 0
RestIs k s at ns r = EndIs k s at ns r.line r.end

end_is : (s : List ℕ) (at : ℕ) (ns : List ℕ) → RestIs 0 s at ns (end_at s at ns)
unfolding end_at malformed fields_of
end_is s at ns = by_bool (eqb (get_or s at 0) 10) (λ e. rw e ([], sym (append-nil ns), small_nil, one_byte s at (eqb-true _ _ e), refl)) (λ e. rw e (none e))
  where
    none : eqb (get_or s at 0) 10 ≡ false → (ms : List ℕ) → Small ms → take (6 * 0 + 1) (drop at s) ≡ 10 ∷ [] → ⊥
    none e ms h x = eqb-false _ _ e (ap (λ (k : ℕ). get_or s k 0) (sym (add-zero at)) ∙ sym (get_or-take 1 (drop at s) 0 0 (lit< tt) ∙ get_or-drop at s 0 0) ∙ ap (λ (b : List ℕ). get_or b 0 0) x)

-- one field more
field_more : (k : ℕ) (s : List ℕ) (at : ℕ) (ns : List ℕ) (n : ℕ) → n < 1000000 → spells (six s at) n ≡ true → (r : Reading)
    → RestIs k s (at + 6) (ns ++ (n ∷ [])) r → RestIs (suc k) s at ns r
field_more k s at ns n h e r = go r.end
  where
    go : (d : Option Cursor) → EndIs k s (at + 6) (ns ++ (n ∷ [])) r.line d → EndIs (suc k) s at ns r.line d
    go (Some c) (ms, el, sm, et, ec) = (
      n ∷ ms,
      el ∙ append_assoc ns (n ∷ []) ms,
      small_cons n ms h sm,
      rw (six_more k, rest_head k (n ∷ ms)) (more s (columns n) (rest k ms) at (6 * k + 1) (spelled_columns (six s at) n e) et),
      omega (arith, ec),
    )
    go None none = λ ms sm et. none (drop 1 ms) (small_tail ms sm) (back s (rest k (drop 1 ms)) at (6 * k + 1) (get_or ms 0 0) (rw (six_more k, rest_head k ms) at et))

no_field : (k : ℕ) (s : List ℕ) (at : ℕ) (ns : List ℕ) → FieldIs s at None → RestIs (suc k) s at ns malformed
unfolding malformed
no_field k s at ns none ms sm et =
    none (get_or ms 0 0) (sm.small 0) (columns_spelled (six s at) (get_or ms 0 0) (front s (rest k (drop 1 ms)) at (6 * k + 1) (get_or ms 0 0) (rw (six_more k, rest_head k ms) at et)))

rest_is : (k : ℕ) (s : List ℕ) (at : ℕ) (ns : List ℕ) → RestIs k s at ns (rest_at k s at ns)
unfolding rest_at
rest_is zero s at ns = end_is s at ns
rest_is (suc k) s at ns = go (field_at s at) (field_is s at) (λ q n. rest_is k s q (ns ++ (n ∷ [])))
  where
    go : (r : Option (ℕ × Cursor)) → FieldIs s at r → ((q n : ℕ) → RestIs k s q (ns ++ (n ∷ [])) (rest_at k s q (ns ++ (n ∷ []))))
        → RestIs (suc k) s at ns (and_then r (λ n c. rest_at k s c.at (ns ++ (n ∷ []))))
    go (Some (n, c)) (h, e, q) ih = rw q (field_more k s at ns n h e (rest_at k s (at + 6) (ns ++ (n ∷ []))) (ih (at + 6) n))
    go None f ih = no_field k s at ns f

-- a line is found just where there is one
pub line_is : (s : List ℕ) (at : ℕ) → LineIs s at (line_at s at).line (line_at s at).end
unfolding line_at line_of
line_is s at = go (line_at s at).end (rest_is field_count s at [])
  where
    go : (d : Option Cursor) → EndIs field_count s at [] (line_at s at).line d → LineIs s at (line_at s at).line d
    go (Some c) (ms, el, sm, et, ec) = rw el (sm, et, ec)
    go None none = none

-- two lists of numbers with the same line have the same fields
one_fields : (k : ℕ) (ms ns : List ℕ) → Small ms → Small ns → fields_of k ms ≡ fields_of k ns → (i : ℕ) → i < k → get_or ms i 0 ≡ get_or ns i 0
unfolding fields_of
one_fields zero ms ns sm sn e i l = absurd (omega arith)
one_fields (suc k) ms ns sm sn e i l =
    let front-m : take (6 * k) (fields_of k ms ++ columns (get_or ms k 0)) ≡ fields_of k ms = take_at (fields_of k ms) (columns (get_or ms k 0)) (6 * k) (length_fields k ms) in
    let front-n : take (6 * k) (fields_of k ns ++ columns (get_or ns k 0)) ≡ fields_of k ns = take_at (fields_of k ns) (columns (get_or ns k 0)) (6 * k) (length_fields k ns) in
    let back-m : drop (6 * k) (fields_of k ms ++ columns (get_or ms k 0)) ≡ columns (get_or ms k 0) = drop_at (fields_of k ms) (columns (get_or ms k 0)) (6 * k) (length_fields k ms) in
    let back-n : drop (6 * k) (fields_of k ns ++ columns (get_or ns k 0)) ≡ columns (get_or ns k 0) = drop_at (fields_of k ns) (columns (get_or ns k 0)) (6 * k) (length_fields k ns) in
    by_eq i k
    (λ q. rw q (one_number (columns (get_or ms k 0)) (get_or ms k 0) (get_or ns k 0) (sm.small k) (sn.small k) (columns_spelled _ _ refl)
    (columns_spelled _ _ (sym back-m ∙ ap (λ (x : List ℕ). drop (6 * k) x) e ∙ back-n))))
    (λ q. one_fields k ms ns sm sn (sym front-m ∙ ap (λ (x : List ℕ). take (6 * k) x) e ∙ front-n) i (omega arith))

pub one_line : (ms ns : List ℕ) → Small ms → Small ns → line_of ms ≡ line_of ns → (i : ℕ) → i < field_count → get_or ms i 0 ≡ get_or ns i 0
unfolding line_of
one_line ms ns sm sn e = one_fields field_count ms ns sm sn
    (sym (take_at (fields_of field_count ms) (10 ∷ []) (6 * field_count) (length_fields field_count ms)) ∙ ap (λ (x : List ℕ). take (6 * field_count) x) e
    ∙ take_at (fields_of field_count ns) (10 ∷ []) (6 * field_count) (length_fields field_count ns))

-- how a line ends after its last field
pub line_feed : (s : List ℕ) (at : ℕ) → get_or s at 0 ≡ 10 → Some (record { at = at + 1 }) ≡ (end_at s at []).end
unfolding end_at
line_feed s at e = rw (eq-eqb _ _ e)

pub no_line_feed : (s : List ℕ) (at : ℕ) → (get_or s at 0 ≡ 10 → ⊥) → None ≡ (end_at s at []).end
unfolding end_at malformed
no_line_feed s at d = rw (ne_eqb _ _ d)

pub past_end : (s : List ℕ) (at : ℕ) → length s ≤ at → None ≡ (end_at s at []).end
past_end s at l = no_line_feed s at (λ q. omega (arith, get_or-eq_default s 0 {n = at} l))

-- the numbers do not change how it ends
end_after : (s : List ℕ) (at : ℕ) (ns : List ℕ) (c : Cursor) → (end_at s at []).end ≡ Some c → end_at s at ns ≡ record { line = ns; end = Some c }
unfolding end_at malformed
end_after s at ns c e = by_bool (eqb (get_or s at 0) 10) (λ t. rw t (ap (λ (d : Option Cursor). record { line = ns; end = d }) (rw t at e))) (λ t. absurd (none-some _ (rw t at e)))

no_end : (s : List ℕ) (at : ℕ) (ns : List ℕ) → (end_at s at []).end ≡ None → end_at s at ns ≡ malformed
unfolding end_at
no_end s at ns e = by_bool (eqb (get_or s at 0) 10) (λ t. absurd (none-some _ (sym (rw t at e)))) (λ t. rw t)

-- the loop that reads, at the cursor q: the first i numbers of the line stand in front, the rest of the line follows
pub record Read (s : List ℕ) (start q i : ℕ) (line : List ℕ) : Type 0 where
  pub long : length line ≡ field_count
  pub rest_of : line_at s start ≡ rest_at (field_count - i) s q (take i line)

pub read_start : (s : List ℕ) (start : ℕ) (line : List ℕ) → length line ≡ field_count → Read s start start 0 line
unfolding line_at
read_start s start line l = record { long = l; rest_of = refl }

module _ {s line : List ℕ} {start q i : ℕ} (x : Read s start q i line) where
  pub read_turn : (n : ℕ) (r : Option (ℕ × Cursor)) (c : Cursor) → i < field_count → r ≡ field_at s q → r ≡ Some (n, c) → Read s start c.at (i + 1) (set line i n)
  unfolding rest_at
  read_turn n r c h e ec =
      let k : field_count - i ≡ suc (field_count - (i + 1)) = omega arith in
      record {
        long = length-set line i n ∙ x.long;
        rest_of = x.rest_of ∙ rw (k, ← e, ec, take_more_set line i n (omega (arith, x.long)));
      }

  -- a field that is malformed
  pub read_stop : (t : Option (ℕ × Cursor)) → i < field_count → t ≡ field_at s q → t ≡ None → line_at s start ≡ malformed
  unfolding rest_at
  read_stop t h et en =
      let k : field_count - i ≡ suc (field_count - (i + 1)) = omega arith in
      x.rest_of ∙ rw (k, ← et, en)

  read_all : i ≤ field_count → field_count ≤ i → line_at s start ≡ end_at s q line
  unfolding rest_at
  read_all a b = let k : i ≡ field_count = omega arith in let w : take field_count line ≡ line = take_all field_count line (omega (arith, x.long)) in x.rest_of ∙ rw (k, w)

  pub read_unended : (t : Option Cursor) → i ≤ field_count → field_count ≤ i → t ≡ (end_at s q []).end → t ≡ None → line_at s start ≡ malformed
  read_unended t a b et em = read_all a b ∙ no_end s q line (sym et ∙ em)

  pub read_done : (t : Option Cursor) (c : Cursor) → i ≤ field_count → field_count ≤ i → t ≡ (end_at s q []).end → t ≡ Some c → line_at s start ≡ record { line = line; end = Some c }
  read_done t c a b et ec = read_all a b ∙ end_after s q line c (sym et ∙ ec)

-- the turn of the loop that writes: the part from the next field on is lent, and comes back with the field written
pub write_turn : (d out y line : List ℕ) (at i : ℕ) → at ≡ 6 * i → i < field_count → line_length ≤ length d → length out ≡ length d
    → out ≡ written d (fields_of i line) → y ≡ written (take (length out - at) (drop at out)) (columns (get_or line i 0))
    → put_mid at (length out - at) out y ≡ written d (fields_of (i + 1) line)
unfolding fields_of
write_turn d out y line at i ea h room eo e ey =
    let step : put out at (columns (get_or line i 0)) ≡ written d (fields_of i line ++ columns (get_or line i 0)) =
    rw e (put_written d (fields_of i line) (columns (get_or line i 0)) at (ea ∙ sym (length_fields i line))) in
    lent out y at (columns (get_or line i 0)) (omega arith) ey ∙ step ∙ rw (add-one i)

pub write_room : (d out line : List ℕ) (i : ℕ) → i ≤ field_count → line_length ≤ length d → out ≡ written d (fields_of i line) → length out ≡ length d
write_room d out line i h room e = ap length e ∙ length_written d (fields_of i line) (omega (arith, length_fields i line))

pub write_done : (d out line : List ℕ) (i : ℕ) → i ≤ field_count → field_count ≤ i → line_length ≤ length d
    → out ≡ written d (fields_of i line) → set out (6 * field_count) 10 ≡ written d (line_of line)
unfolding written line_of
write_done d out line i a b room e =
    let k : i ≡ field_count = omega arith in
    let n : length (fields_of field_count line) ≡ 6 * field_count = length_fields field_count line in
    rw (e, k, length-append, n, drop-cons d (6 * field_count) 0 (omega arith), set_at (fields_of field_count line) _ (drop line_length d) 10 (6 * field_count) n)
    (sym (append_snoc (fields_of field_count line) 10 (drop line_length d)))

-- every line that is read has its number of fields, each of a number below 1,000,000, and a malformed one has zeros
length_rest : (k : ℕ) (s : List ℕ) (at : ℕ) (ns : List ℕ) → length ns + k ≡ field_count → length (rest_at k s at ns).line ≡ field_count
unfolding rest_at end_at malformed
length_rest zero s at ns e = by_bool (eqb (get_or s at 0) 10) (λ t. rw t (omega arith)) (λ t. rw t)
length_rest (suc k) s at ns e = go (field_at s at) (λ q n. length_rest k s q (ns ++ (n ∷ [])) (rw length-append (omega arith)))
  where
    go : (r : Option (ℕ × Cursor)) → ((q n : ℕ) → length (rest_at k s q (ns ++ (n ∷ []))).line ≡ field_count)
        → length (and_then r (λ n c. rest_at k s c.at (ns ++ (n ∷ [])))).line ≡ field_count
    go (Some (n, c)) ih = ih c.at n
    go None ih = refl

pub length_read : (s : List ℕ) (at : ℕ) → length (line_at s at).line ≡ field_count
unfolding line_at
length_read s at = length_rest field_count s at [] refl

malformed_rest : (k : ℕ) (s : List ℕ) (at : ℕ) (ns : List ℕ) → (rest_at k s at ns).end ≡ None → rest_at k s at ns ≡ malformed
unfolding rest_at end_at
malformed_rest zero s at ns e = by_bool (eqb (get_or s at 0) 10) (λ t. absurd (none-some _ (sym (rw t at e)))) (λ t. rw t)
malformed_rest (suc k) s at ns e = go (field_at s at) (λ q n. malformed_rest k s q (ns ++ (n ∷ []))) e
  where
    go : (r : Option (ℕ × Cursor)) → ((q n : ℕ) → (rest_at k s q (ns ++ (n ∷ []))).end ≡ None → rest_at k s q (ns ++ (n ∷ [])) ≡ malformed)
        → (and_then r (λ n c. rest_at k s c.at (ns ++ (n ∷ [])))).end ≡ None → and_then r (λ n c. rest_at k s c.at (ns ++ (n ∷ []))) ≡ malformed
    go (Some (n, c)) ih d = ih c.at n d
    go None ih d = refl

pub malformed_zero : (s : List ℕ) (at i : ℕ) → (line_at s at).end ≡ None → get_or (line_at s at).line i 0 ≡ 0
unfolding line_at malformed
malformed_zero s at i e = rw (malformed_rest field_count s at [] e) (replicate_at field_count i)

pub small_read : (s : List ℕ) (at : ℕ) → Small (line_at s at).line
small_read s at = go (line_at s at).end refl (line_is s at)
  where
    go : (d : Option Cursor) → (line_at s at).end ≡ d → LineIs s at (line_at s at).line d → Small (line_at s at).line
    go (Some c) e h = h.0
    go None e h = record { small = λ i. omega (arith, malformed_zero s at i e) }

-- for the reader: what it returns, computed and by cases
line_says : (s : List ℕ) (at : ℕ) (ns : List ℕ) (d : Option Cursor) → LineIs s at ns d → SaysLine s at (told_at ns d)
line_says s at ns (Some c) h = h
line_says s at ns None h = h

line_read : (s : List ℕ) (at : ℕ) → LineRead s at (told_at (line_at s at).line (line_at s at).end)
line_read s at = record { is = refl; says = line_says s at (line_at s at).line (line_at s at).end (line_is s at) }

pub line_told : (s : List ℕ) (at : ℕ) (line : List ℕ) (c : Cursor) → line_at s at ≡ record { line = line; end = Some c } → LineRead s at (Some (line, c))
line_told s at line c e = subst (λ (r : Reading). LineRead s at (told_at r.line r.end)) e (line_read s at)

pub no_line_told : (s : List ℕ) (at : ℕ) → line_at s at ≡ malformed → LineRead s at None
unfolding malformed
no_line_told s at e = subst (λ (r : Reading). LineRead s at (told_at r.line r.end)) e (line_read s at)
