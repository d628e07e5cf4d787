-- The turns of the loops that write lines one after the other: a line put behind those written so far is one line more (`lines_turn`), and as
-- many lines as pass the test take that many times 31 bytes (`length_lines`).
-- Assumes nothing.
use Rattle.std.proofs.Common.{◌≡◌, ℕ, zero, suc, ◌+◌, ◌-◌, ◌*◌, ◌≤◌, ◌<◌, Bool, true, false, cond, List, [], ◌++◌, length, length-append, Option, Some, IfSome, refl, sym, ap, ◌∙◌, subst, arith, add-one}
use Rattle.finite.specs.Tests.{tally}
use Rattle.finite.specs.Range.{count}
use Rattle.finite.proofs.Sum.{sum_suc, sum_more, sum_range_le, sum_zero_range}
use Rattle.columns.specs.Writing.{put, written}
use Rattle.text_lines.specs.Lines.{line_length, line_of, Small}
use Rattle.text_lines.proofs.Lines.{length_line, small_of_five}
use Rattle.columns.proofs.Writing.{put_put, put_written, put_nil, put_front, length_put}
use Rattle.topology.specs.Networks.{is_reticulation}
use Rattle.topology.specs.Lines.{network}
use Rattle.layout.specs.inner.Parts.{top}
use Rattle.layout.specs.inner.Tree.{lateral}
use Rattle.layout.proofs.Numbered.{secondary_in}
use Rattle.layout.specs.declared.lines.Lines.{Lines}
use Rattle.layout.specs.declared.tree.Tree.{Tree}
use Rattle.layout.specs.declared.parts.Parts.{Parts}
use Rattle.layout.specs.declared.results.Placed.{Placed}
use Rattle.report.specs.declared.Totals.{Totals}
use Rattle.report.specs.declared.Tabled.{Tabled}
use Rattle.report.specs.inner.Tables.{has_secondary, reticulation_in, reticulation_numbers, node_line, gene_numbers, SmallNode, SmallNodes, SmallGene}
use Rattle.report.specs.inner.Written.{line_bytes, Telling, Told}
use Rattle.finite.proofs.Cases.{by_bool}
use Rattle.finite.proofs.Tests.{tally_le}
use Rattle.report.specs.Reports.{five_of, totals_lines, lines_where, always, reticulation_fields, gene_fields, report_of, report_length, SmallFive, SmallTotals, Appended, Extended}

-- five numbers that have fields
pub small_five : (a b c d e : ℕ) (ns : List ℕ) → ns ≡ five_of a b c d e → SmallFive a b c d e → Small ns
small_five a b c d e ns q h = rw q (small_of_five a b c d e h.one h.two h.three h.four h.five)

-- the two lines of totals
module _ (t : Totals) (h : SmallTotals t) where
  pub first_small : Small (five_of t.cost t.duplications t.transfers t.losses t.trials)
  first_small = small_five _ _ _ _ _ _ refl (record { one = h.cost; two = h.duplications; three = h.transfers; four = h.losses; five = h.trials })

  pub second_small : Small (five_of t.whole t.nodes t.genes t.reticulations t.components)
  second_small = small_five _ _ _ _ _ _ refl (record { one = h.whole; two = h.nodes; three = h.genes; four = h.reticulations; five = h.components })

pub totals_written : (d e f : List ℕ) (next r : ℕ) (t : Totals) → (e ≡ put d 0 (line_of (five_of t.cost t.duplications t.transfers t.losses t.trials))) × (next ≡ line_length)
    → (f ≡ put e next (line_of (five_of t.whole t.nodes t.genes t.reticulations t.components))) × (r ≡ next + line_length) → (f ≡ written d (totals_lines t)) × (r ≡ 2 * line_length)
unfolding totals_lines
totals_written d e f next r t a b =
    let one : List ℕ = line_of (five_of t.cost t.duplications t.transfers t.losses t.trials) in
    let two : List ℕ = line_of (five_of t.whole t.nodes t.genes t.reticulations t.components) in
    let q : put e next two ≡ put d 0 (one ++ two) = rw a.0 (put_put d 0 next one two (omega arith) (omega (arith, a.1, length_line (five_of t.cost t.duplications t.transfers t.losses t.trials)))) in
    (b.0 ∙ q ∙ put_front d (one ++ two), omega (arith, b.1, a.1))

-- the bytes of some lines
length_where : (test : Bool) (fields : List ℕ) → length (cond test (line_of fields) []) ≡ line_length * tally test
length_where true fields = length_line fields
length_where false fields = refl

pub length_lines : (test : ℕ → Bool) (fields : ℕ → List ℕ) (k : ℕ) → length (lines_where test fields k) ≡ line_length * count k test
unfolding lines_where count
length_lines test fields zero = rw (sum_zero_range (λ v. tally (test v)))
length_lines test fields (suc k) =
    rw (length-append, length_lines test fields k, length_where (test (suc k)) (fields (suc k)), sum_suc k (λ v. tally (test v))) (omega arith)

pub count_always : (k : ℕ) → count k always ≡ k
unfolding count
count_always zero = sum_zero_range _
count_always (suc k) = sum_suc k _ ∙ omega (arith, count_always k)

-- one line more
module _ (test : ℕ → Bool) (fields : ℕ → List ℕ) where
  pub lines_start : (d : List ℕ) (start : ℕ) → Extended d d start start test fields 0
  unfolding lines_where count
  lines_start d start = record { bytes = put_nil d start; after = omega (arith, sum_zero_range (λ v. tally (test v))) }

  pub lines_turn : (d e f : List ℕ) (start next r k : ℕ) → start ≤ length d → Extended d e start next test fields k → Appended e f next r (test (k + 1)) (fields (k + 1))
      → Extended d f start r test fields (k + 1)
  unfolding lines_where count
  lines_turn d e f start next r k room l a =
      let more : List ℕ = cond (test (k + 1)) (line_of (fields (k + 1))) [] in
      let q : put e next more ≡ put d start (lines_where test fields k ++ more) =
      rw l.bytes (put_put d start next (lines_where test fields k) more room (l.after ∙ rw (length_lines test fields k))) in
      let w : lines_where test fields k ++ more ≡ lines_where test fields (k + 1) = rw (add-one k) in
      record {
        bytes = a.bytes ∙ q ∙ ap (put d start) w;
        after = omega (arith, a.after, l.after, sum_more k (λ v. tally (test v)));
      }

  pub lines_done : (d e : List ℕ) (start r k n : ℕ) → k ≤ n → n ≤ k → Extended d e start r test fields k → Extended d e start r test fields n
  lines_done d e start r k n a b l = let q : k ≡ n = omega arith in rw q at l

  -- there is room for the next line, and writing keeps the length
  pub lines_room : (d e : List ℕ) (start next k n : ℕ) → k < n → start + line_length * count n test ≤ length d → Extended d e start next test fields k
      → next + line_length * tally (test (k + 1)) ≤ length d
  unfolding count
  lines_room d e start next k n h room l = omega (arith, l.after, sum_more k (λ v. tally (test v)), sum_range_le n (k + 1) (λ v. tally (test v)) (omega arith))

  pub lines_length : (d e : List ℕ) (start next k n : ℕ) → k ≤ n → start + line_length * count n test ≤ length d → Extended d e start next test fields k → length e ≡ length d
  unfolding count
  lines_length d e start next k n h room l = ap length l.bytes ∙ length_put d start (lines_where test fields k)
      (omega (arith, length_lines test fields k, sum_range_le n k (λ v. tally (test v)) h))

-- what is told of a number in turn
module _ (t : Telling) {d e : List ℕ} {start next v n : ℕ} {line : Option (List ℕ)} (low : 1 ≤ v) (high : v ≤ n)
    (x : Extended d e start next t.test t.fields (v - 1)) (a : Told t v line) where
  at_v : v - 1 + 1 ≡ v
  at_v = omega arith

  told_length : length (line_bytes line) ≡ line_length * tally (t.test v)
  told_length = rw a.is (by_bool (t.test v) (λ y. rw y (length_line (t.fields v))) (λ y. rw y))

  told_bytes : line_bytes line ≡ cond (t.test v) (line_of (t.fields v)) []
  told_bytes = rw a.is (by_bool (t.test v) (λ y. rw y) (λ y. rw y))

  pub told_room : {l : ℕ} → start + line_length * count n t.test ≤ length d → l ≡ length d → (next + length (line_bytes line) ≤ l) × IfSome line Small
  told_room room q = (omega (arith, rw at_v at (lines_room t.test t.fields d e start next (v - 1) n (omega arith) room x), told_length), a.small)

  pub told_turn : {f : List ℕ} {r : ℕ} → start ≤ length d → (f ≡ put e next (line_bytes line)) × (r ≡ next + length (line_bytes line)) → Extended d f start r t.test t.fields v
  told_turn {f} {r} room w = rw at_v at (lines_turn t.test t.fields d e f start next r (v - 1) room x
      (rw at_v (record { bytes = rw (← told_bytes) w.0; after = w.1 ∙ rw told_length })))

pub told_after : (t : Telling) {d e : List ℕ} {start next : ℕ} (v : ℕ) → Extended d e start next t.test t.fields v → Extended d e start next t.test t.fields (v + 1 - 1)
told_after t {d} {e} {start} {next} v x = let q : v ≡ v + 1 - 1 = omega arith in subst (λ (k : ℕ). Extended d e start next t.test t.fields k) q x

-- the numbers of a node's line and of a gene's have fields
pub small_node : (tree : Tree) (parts : Parts) (v : ℕ) → v ≤ 127 → SmallNode tree parts v → Small (reticulation_numbers tree parts v)
small_node tree parts v u s = small_five _ _ _ _ _ _ refl (record {
  one = omega arith;
  two = s.taken;
  three = omega (arith, tally_le (lateral tree v));
  four = omega (arith, s.top_row);
  five = s.count;
})

pub small_gene : (results : List Placed) (g : ℕ) → g ≤ 127 → SmallGene results g → Small (gene_numbers results g)
small_gene results g u s = small_five _ _ _ _ _ _ refl (record {
  one = omega arith;
  two = omega (arith, s.place);
  three = omega (arith, s.event);
  four = omega (arith, s.transfers, s.losses);
  five = omega (arith, s.transfers, s.losses);
})

-- at a node the column is read
pub reticulation_at : (lines : Lines) (v : ℕ) → 1 ≤ v → v ≤ lines.header.nodes → has_secondary lines v ≡ reticulation_in lines v
unfolding has_secondary is_reticulation network
reticulation_at lines v low high = rw (secondary_in lines.header.nodes lines.nodes v low high)

-- the rows that the line of a node is read from
pub node_rows : (n : ℕ) (tree : Tree) (parts : Parts) (v : ℕ) → SmallNodes n tree parts → 1 ≤ v → v ≤ n → top parts v ≤ 127
node_rows n tree parts v s low high = (s.each v low high).top_row

-- what the two closures tell
module _ (t : Tabled) where
  abbrev lines : Lines
  lines = t.lines.now

  abbrev pub node_lines : Telling
  node_lines = record { test = reticulation_in lines; fields = reticulation_numbers t.tree.now t.parts.now }

  abbrev pub gene_lines : Telling
  gene_lines = record { test = always; fields = gene_numbers t.results.now }

  pub node_told : (v : ℕ) {line : Option (List ℕ)} → 1 ≤ v → v ≤ lines.header.nodes → line ≡ node_line lines t.tree.now t.parts.now v → Told node_lines v line
  unfolding node_line
  node_told v low high e = record {
    is = e ∙ rw (reticulation_at lines v low high);
    small = rw e (by_bool (has_secondary lines v)
        (λ y. rw y (small_node t.tree.now t.parts.now v (omega (arith, lines.within.few_nodes)) (t.small_nodes.each v low high)))
        (λ y. rw y tt));
  }

  pub gene_told : (g : ℕ) {line : Option (List ℕ)} → 1 ≤ g → g ≤ lines.header.genes → line ≡ Some (gene_numbers t.results.now g) → Told gene_lines g line
  gene_told g low high e = record { is = e; small = rw e (small_gene t.results.now g (omega (arith, lines.within.few_genes)) (t.small_genes.each g low high)) }

-- a line for each gene: as many as there are genes
pub room_always : (start m l : ℕ) → start + line_length * m ≤ l → start + line_length * count m always ≤ l
room_always start m l h = rw (count_always m) h

-- the three parts of the report, one after the other
module _ (t : Totals) (n m : ℕ) (test : ℕ → Bool) (nodes genes : ℕ → List ℕ) (d e f g : List ℕ) (next last r : ℕ)
    (a : (e ≡ written d (totals_lines t)) × (next ≡ 2 * line_length)) (b : Extended e f next last test nodes n) (c : Extended f g last r always genes m) where
  length_totals : length (totals_lines t) ≡ 2 * line_length
  unfolding totals_lines
  length_totals = rw (length-append, length_line (five_of t.cost t.duplications t.transfers t.losses t.trials), length_line (five_of t.whole t.nodes t.genes t.reticulations t.components))

  nodes_written : f ≡ written d (totals_lines t ++ lines_where test nodes n)
  nodes_written = b.bytes ∙ rw a.0 (put_written d (totals_lines t) (lines_where test nodes n) next (a.1 ∙ sym length_totals))

  pub report_bytes : g ≡ written d (totals_lines t ++ lines_where test nodes n ++ lines_where always genes m)
  report_bytes = c.bytes ∙ rw nodes_written (put_written d (totals_lines t ++ lines_where test nodes n) (lines_where always genes m) last
      (rw (length-append, length_totals, length_lines test nodes n) (omega (arith, a.1, b.after))))

  pub report_end : r ≡ line_length * (2 + count n test + m)
  report_end = omega (arith, c.after, b.after, a.1, count_always m)

-- there is room for each part
pub totals_room : (n m l : ℕ) (test : ℕ → Bool) → report_length n m test ≤ l → 2 * line_length ≤ l
unfolding report_length
totals_room n m l test h = omega arith

pub nodes_room : (n m l next k : ℕ) (test : ℕ → Bool) → report_length n m test ≤ l → next ≡ 2 * line_length → k ≡ l → next + line_length * count n test ≤ k
unfolding report_length
nodes_room n m l next k test h e q = omega arith

pub genes_room : (n m l next last k : ℕ) (test : ℕ → Bool) → report_length n m test ≤ l → next ≡ 2 * line_length → last ≡ next + line_length * count n test → k ≡ l
    → last + line_length * m ≤ k
unfolding report_length
genes_room n m l next last k test h e q p = omega arith

pub length_report : (t : Totals) (n m : ℕ) (reticulation : ℕ → Bool) (taken second top counts seat code moved lost : ℕ → ℕ)
    → length (report_of t n m reticulation taken second top counts seat code moved lost) ≡ report_length n m reticulation
unfolding report_of report_length totals_lines
length_report t n m reticulation taken second top counts seat code moved lost =
    rw (
      length-append,
      length-append,
      length-append,
      length_line (five_of t.cost t.duplications t.transfers t.losses t.trials),
      length_line (five_of t.whole t.nodes t.genes t.reticulations t.components),
      length_lines reticulation (reticulation_fields taken second top counts) n,
      length_lines always (gene_fields seat code moved lost) m,
      count_always m,
    ) (omega arith)

-- reports with the same numbers at each node and each gene are the same
lines_same : (test test₂ : ℕ → Bool) (f g : ℕ → List ℕ) (k : ℕ) → ((v : ℕ) → 1 ≤ v → v ≤ k → test v ≡ test₂ v) → ((v : ℕ) → 1 ≤ v → v ≤ k → f v ≡ g v)
    → lines_where test f k ≡ lines_where test₂ g k
unfolding lines_where
lines_same test test₂ f g zero e h = refl
lines_same test test₂ f g (suc k) e h = rw (lines_same test test₂ f g k (λ v l u. e v l (omega arith)) (λ v l u. h v l (omega arith)), e (suc k) (omega arith) (omega arith), h (suc k) (omega arith) (omega arith))

pub report_same : (t t₂ : Totals) (n m : ℕ) (test test₂ : ℕ → Bool) (a b c h a₂ b₂ c₂ h₂ p e r l p₂ e₂ r₂ l₂ : ℕ → ℕ) → t ≡ t₂ → ((v : ℕ) → 1 ≤ v → v ≤ n → test v ≡ test₂ v)
    → ((v : ℕ) → 1 ≤ v → v ≤ n → reticulation_fields a b c h v ≡ reticulation_fields a₂ b₂ c₂ h₂ v) → ((g : ℕ) → 1 ≤ g → g ≤ m → gene_fields p e r l g ≡ gene_fields p₂ e₂ r₂ l₂ g)
    → report_of t n m test a b c h p e r l ≡ report_of t₂ n m test₂ a₂ b₂ c₂ h₂ p₂ e₂ r₂ l₂
unfolding report_of
report_same t t₂ n m test test₂ a b c h a₂ b₂ c₂ h₂ p e r l p₂ e₂ r₂ l₂ et ev fv fg =
    rw (et, lines_same test test₂ _ _ n ev fv, lines_same always always _ _ m (λ v _ _. refl) fg)
