-- The outcome of each way out of the call. A refusal leaves both buffers as they were; the tests before it failed, so it is the first that applies. The genes
-- that the reader put into the columns are those of the tree that the text is of, so a family that no refusal applies to has its report written.
-- Assumes nothing.
use Rattle.std.proofs.Common.{ℕ, ◌≤◌, ◌≡◌, ◌≢◌, refl, sym, ap, ◌∙◌, subst, ⊎_elim, true, false, List, length, arith, Result, Ok, Err}
use Rattle.finite.specs.Refusals.{verdict}
use Rattle.finite.proofs.Cases.{by_bool}
use Rattle.topology.specs.Lines.{GeneLines}
use Rattle.layout.specs.Lines.{nodes_of, genes_in}
use Rattle.layout.specs.Headers.{costs, WithinLimits, FewLines}
use Rattle.layout.specs.declared.Header.{Header}
use Rattle.layout.specs.declared.lines.GeneColumns.{GeneColumns}
use Rattle.layout.specs.declared.lines.Lines.{Lines}
use Rattle.refusals.specs.declared.Refusal.{Refusal}
use Rattle.refusals.specs.Numbers.{number}
use Rattle.sheet.specs.Sheets.{nodes, whole, formed, node_columns, refusal3, HeadedIs, ReadInto, LinesRead}
use Rattle.sheet.proofs.Refusals.{reading_3}
use Rattle.gene_tree.specs.Refusals.{gene_refusals}
use Rattle.newick.specs.Answers.{Says, Promise}
use Rattle.newick.specs.Reading.{answer_of, lines_read}
use Rattle.newick.proofs.Answers.{lines_read_is}
use Rattle.newick.proofs.Writing.{some_gene}
use Rattle.family.specs.Families.{Contents}
use Rattle.family.specs.Buffers.{least_words, least_bytes}
use Rattle.family.specs.inner.Stages.{Written}
use Rattle.score.proofs.Outcomes.{HeaderIs, header_is, nodes_are, stamps_small}
use Rattle.answer.specs.Outcome.{Outcome}
use Rattle.score_newick.specs.Sheets.{refusal4, refusal5}
use Rattle.score_newick.specs.Refusals.{curator_refusals, contents_of, refusal}
use Rattle.score_newick.specs.inner.Stages.{bare, HeaderRead, Ready, contents_by, OutcomeBy, OutcomeOf}
use Rattle.score_newick.proofs.Readings.{reading_4, four_passes, passes_four, passes_five}
use Rattle.score_newick.proofs.Refusals.{refusal_3, refusal_4, refusal_5, refusal_later}

-- the header is refused
module _ (s text : List ℕ) (b w : ℕ) (space : least_words ≤ w) (room : least_bytes ≤ b) where
  pub header_refused : (r : Refusal) → HeadedIs s (Err r) → refusal s text b w ≡ number r
  header_refused r h = ⊎_elim
      (λ q. refusal_3 s text b w space room ((reading_3 s).1 q.1) ∙ ap number (sym q.0))
      (λ q. let three : refusal3 s ≡ false = by_bool (refusal3 s) (λ t. absurd ((reading_3 s).0 t q.1.numbers q.1.line)) (λ f. f) in
      let four : refusal4 s ≡ true = (reading_4 s three).1 (record { numbers = q.1.numbers; line = q.1.line; beyond = λ x. q.1.beyond x.0 }) in
      refusal_4 s text b w space room three four ∙ ap number (sym q.0)) h

-- behind a header that is accepted
module _ (s text : List ℕ) (h : Header) (k : HeaderIs s h) (b w : ℕ) (space : least_words ≤ w) (room : least_bytes ≤ b) where
  -- its m is another number than 1
  pub genes_refused : h.genes ≢ 1 → refusal s text b w ≡ 4
  genes_refused d = refusal_4 s text b w space room k.three
      (by_bool (refusal4 s) (λ t. t) (λ e. absurd (d (ap (λ (x : Header). x.genes) k.header ∙ (four_passes s e).1))))

  module _ (one : h.genes ≡ 1) where
    four : refusal4 s ≡ false
    four = passes_four s (subst WithinLimits k.header k.limited) (sym (ap (λ (x : Header). x.genes) k.header) ∙ one)

    -- the length is another than it tells without gene lines
    pub length_refused : whole s h.nodes 0 ≡ false → refusal s text b w ≡ 5
    unfolding refusal5
    length_refused e =
        let f : whole s (nodes s) 0 ≡ false = subst (λ (y : Header). whole s y.nodes 0 ≡ false) k.header e in
        refusal_5 s text b w space room k.three four (rw f refl)

    -- what reading the lines comes to
    module _ {x : Result Lines Refusal} (read : LinesRead s (bare h) x) where
      lines_read_as : {y : Result Lines Refusal} → x ≡ y → LinesRead s (bare h) y
      lines_read_as e = subst (LinesRead s (bare h)) e read

      pub lines_refused : (r : Refusal) → x ≡ Err r → refusal s text b w ≡ number r
      unfolding refusal5
      lines_refused r z =
          let q = lines_read_as z in
          let e : formed s (nodes s) 0 ≡ false = subst (λ (y : Header). formed s y.nodes 0 ≡ false) k.header q.0 in
          refusal_5 s text b w space room k.three four (rw e refl) ∙ ap number (sym q.1)

      module _ (lines : Lines) (z : x ≡ Ok lines) where
        abbrev q : LinesRead s (bare h) (Ok lines)
        q = lines_read_as z

        pub ready : Ready lines b w
        ready = record {
          limits = let l = k.limited in rw q.1 (omega (arith, l.some_node, l.few_nodes, l.duplication, l.transfer, l.loss));
          room = room;
          space = space;
          stamps = let e : lines.nodes ≡ node_columns s (nodes s) = q.2 ∙ ap (λ (y : Header). node_columns s y.nodes) k.header in
              rw (q.1, e, k.header) (stamps_small s h k);
        }

        contents_are : contents_by lines text ≡ contents_of s text
        contents_are = rw (q.1, q.2, k.header) (rw (nodes_are s h k))

        -- the outcome of the lines is the sheet's
        pub five_passed : (d e u t : List ℕ) (r : Result ℕ Refusal) → b ≡ length d → w ≡ length u → OutcomeBy lines text d e u t r → OutcomeOf s text d e u t r
        five_passed d e u t r eb ew o =
            let five : refusal5 s ≡ false = passes_five s (subst (λ (y : Header). formed s y.nodes 0 ≡ true) k.header q.0) in
            let v = refusal_later s text b w space room k.three four five in
            rw (← eb, ← ew, v) (subst (λ (X : Contents). Outcome (verdict (curator_refusals text X)) X d e u t r) contents_are o)

-- lines that are read into, after a header that is accepted and the length that it tells: reading comes to a
module _ (s : List ℕ) (h : Header) (b w : ℕ) (H : HeaderRead s h b w) where
  accepted_is : HeaderIs s H.accepted
  accepted_is = header_is s H.accepted H.header

  pub few_lines : FewLines h
  few_lines = let l = accepted_is.limited in rw H.bared (record { few_nodes = l.few_nodes; few_genes = omega arith })

  read_as : (x : Result Lines Refusal) → LinesRead s h x → LinesRead s (bare H.accepted) x
  read_as x read = subst (λ (y : Header). LinesRead s y x) H.bared read

  module _ (text : List ℕ) (l : Lines) {a : Result Unit Refusal} (R : ReadInto s h l a) where
    pub not_read_into : (r : Refusal) → a ≡ Err r → refusal s text b w ≡ number r
    not_read_into r q = lines_refused s text H.accepted accepted_is b w H.space H.room H.one (read_as (Err r) (subst (ReadInto s h l) q R)) r refl

    module _ (done : Unit) (q : a ≡ Ok done) where
      read_ok : LinesRead s (bare H.accepted) (Ok l)
      read_ok = read_as (Ok l) (subst (ReadInto s h l) q R)

      pub ready_into : Ready l b w
      ready_into = ready s text H.accepted accepted_is b w H.space H.room H.one read_ok l refl

      pub five_passed_into : (d e u t : List ℕ) (r : Result ℕ Refusal) → b ≡ length d → w ≡ length u → OutcomeBy l text d e u t r → OutcomeOf s text d e u t r
      five_passed_into = five_passed s text H.accepted accepted_is b w H.space H.room H.one read_ok l refl

-- a text that the reader took
module _ (text : List ℕ) (before after : GeneColumns) {r : Result ℕ Refusal} (p : Promise text before after r) (m : ℕ) (e : r ≡ Ok m) where
  says : Says text before after (Ok m)
  says = subst (λ (x : Result ℕ Refusal). Says text before after x) e p.says

  pub answer_is : Ok m ≡ answer_of text
  answer_is = sym e ∙ p.answer_is

  pub genes_read : genes_in m after ≡ lines_read text
  genes_read = says.1 ∙ sym (lines_read_is text says.0.tree says.0.has_text)

  pub some_genes : 1 ≤ m
  some_genes = omega (arith, some_gene says.0.tree, says.0.count)

  pub few_genes : m ≤ 127
  few_genes = says.0.few

  -- what the lines say with these genes
  module _ (lines : Lines) where
    pub contents_read : record { nodes = nodes_of lines; genes = genes_in m after; costs = costs lines.header } ≡ contents_by lines text
    contents_read = ap with_genes genes_read
      where
        with_genes : GeneLines → Contents
        with_genes K = record { nodes = nodes_of lines; genes = K; costs = costs lines.header }

    pub verdict_read : verdict (gene_refusals (nodes_of lines) (genes_in m after)) ≡ verdict (gene_refusals (nodes_of lines) (lines_read text))
    verdict_read = ap (λ (K : GeneLines). verdict (gene_refusals (nodes_of lines) K)) genes_read

    pub written_read : {d e u t : List ℕ} {n : ℕ} → Written (record { nodes = nodes_of lines; genes = genes_in m after; costs = costs lines.header }) d e u t n
        → Written (contents_by lines text) d e u t n
    written_read {d} {e} {u} {t} {n} w = subst (λ (X : Contents). Written X d e u t n) contents_read w
