-- The outcome of each way out of a call on a sheet. A refusal leaves both buffers as they were; the tests before it failed, so it is the first that applies;
-- and a sheet that none applies to has its piece written.
-- Assumes nothing.
use Rattle.std.proofs.Common.{◌≡◌, ℕ, ◌+◌, ◌≤◌, List, length, true, false, not, refl, sym, ap, ◌∙◌, subst, arith, Result, Ok, Err, IsErrAnd}
use Rattle.finite.specs.Tables.{at, zeros, filled, within}
use Rattle.finite.specs.Refusals.{verdict}
use Rattle.finite.proofs.Tables.{within_same, filled_in, zeros_long}
use Rattle.finite.proofs.Cases.{by_bool}
use Rattle.std.proofs.lemmas.Bool.{not-false}
use Rattle.topology.specs.Lines.{network}
use Rattle.topology.specs.Networks.{Sound}
use Rattle.layout.specs.Lines.{nodes_in, genes_in, nodes_of, genes_of}
use Rattle.layout.specs.Headers.{WithinLimits, FewLines}
use Rattle.layout.specs.declared.Header.{Header}
use Rattle.layout.specs.declared.lines.NodeColumns.{NodeColumns}
use Rattle.layout.specs.declared.lines.Lines.{Lines}
use Rattle.network.specs.Refusals.{network_refusals}
use Rattle.network.specs.inner.Accepted.{NoOthers}
use Rattle.network.proofs.Acceptance as Acceptance
use Rattle.components.specs.Refusals.{component_refusals}
use Rattle.components.specs.inner.Filling.{Dated}
use Rattle.gene_tree.specs.Refusals.{gene_refusals}
use Rattle.sheet.specs.Sheets.{header_in, nodes, genes, line_no, limits, refusal3, refusal4, refusal5, header_of, cell, whole, formed, node_columns, gene_columns, ReadInto, LinesRead}
use Rattle.refusals.specs.declared.Refusal.{Refusal}
use Rattle.refusals.specs.declared.Refusal.TheVariants.{NoHeader, BeyondLimits}
use Rattle.refusals.specs.Numbers.{number, refused}
use Rattle.refusals.proofs.Numbers.{some, handed_on}
use Rattle.sheet.proofs.Limits.{limits_is}
use Rattle.sheet.proofs.Refusals.{cell_small}
use Rattle.family.specs.Families.{Contents}
use Rattle.family.specs.Buffers.{least_words}
use Rattle.family.specs.inner.Stages.{contents_by, Overwritten}
use Rattle.score.specs.Contents.{node_lines, gene_lines, contents_of}
use Rattle.score.specs.Refusals.{first_refusals, curator_refusals}
use Rattle.answer.specs.Outcome.{OutcomeWriting}
use Rattle.answer.proofs.Answers.{refuses, reports}
use Rattle.score.specs.inner.Stages.{HeaderRead, HeaderBy, LinesOf, ReadBy, Ready, OutcomeBy, OutcomeOf}
use Rattle.score.proofs.Refusals.{network_refuses, component_refuses, genes_refuse, early, later, refusal_3, refusal_4, refusal_5, refusal_none, buffers_pass}

-- reading refuses, or comes to lines
module _ {least b w : ℕ} {s : List ℕ} where
  pub unread : (r : Refusal) → verdict (first_refusals least s b w) ≡ number r → ReadBy least s b w (Err r)
  unread r e = record { told = sym e; lines = λ l q. absurd (apart q) }
    where
      apart : {l : Lines} {r : Refusal} → ◌≡◌ {A = Result Lines Refusal} (Err r) (Ok l) → ⊥
      apart q = cc

  read_lines : (l : Lines) → verdict (first_refusals least s b w) ≡ 0 → LinesOf s l → ReadBy least s b w (Ok l)
  read_lines l e p = record { told = sym e; lines = λ k q. subst (LinesOf s) (alike q) p }
    where
      alike : {k l : Lines} → ◌≡◌ {A = Result Lines Refusal} (Ok k) (Ok l) → k ≡ l
      alike q = cc

-- what an accepted header says
pub record HeaderIs (s : List ℕ) (h : Header) : Type 0 where
  pub three : refusal3 s ≡ false
  pub four : refusal4 s ≡ false
  pub header : h ≡ header_in s
  pub limited : WithinLimits h

no_header : {A : Type 0} {h : Header} {r : Refusal} → Ok h ≡ Err r → A
no_header e = let z : ◌≡◌ {A = ℕ} 0 1 = cc in absurd (omega arith)

pub header_is : (s : List ℕ) (h : Header) → Ok h ≡ header_of s → HeaderIs s h
unfolding header_of refusal4
header_is s h e = by_bool (refusal3 s) (λ t. no_header (rw t at e)) (λ t.
    by_bool (not (limits (line_no s 0).line)) (λ f. no_header (rw (t, f) at e)) (λ f.
    let q : Ok h ≡ Ok (header_in s) = rw (t, f) at e in
    let z : h ≡ header_in s = kind q in
    record { three = t; four = f; header = z; limited = rw z (limits_is _ (not-false _ f)) }))
  where
    kind : {g h : Header} → ◌≡◌ {A = Result Header Refusal} (Ok g) (Ok h) → g ≡ h
    kind e = cc

-- what reading the header refuses, of a call that asks for so many bytes of result
pub header_refused : (least : ℕ) (s : List ℕ) (r : Refusal) → Err r ≡ header_of s → (b w : ℕ) → least ≤ b → least_words ≤ w → verdict (first_refusals least s b w) ≡ number r
unfolding header_of
header_refused least s r e b w lb lw = by_bool (refusal3 s)
    (λ t. let q : r ≡ NoHeader = kind (rw t at e) in refusal_3 least s b w lw lb t ∙ ap number (sym q))
    (λ t. by_bool (refusal4 s)
    (λ f. let q : r ≡ BeyondLimits = kind (rw (t, f) at e) in refusal_4 least s b w lw lb t f ∙ ap number (sym q))
    (λ f. no_header (sym (rw (t, f) at e))))
  where
    kind : {q : Refusal} → ◌≡◌ {A = Result Header Refusal} (Err r) (Err q) → r ≡ q
    kind e = cc

module _ (s : List ℕ) (h : Header) (k : HeaderIs s h) where
  few_nodes : nodes s ≤ 127
  few_nodes = subst (λ (x : Header). x.nodes ≤ 127) k.header k.limited.few_nodes

  few_genes : genes s ≤ 127
  few_genes = subst (λ (x : Header). x.genes ≤ 127) k.header k.limited.few_genes

  -- what 5 finds amiss, and where it finds nothing
  amiss : formed s h.nodes h.genes ≡ false → refusal5 s ≡ true
  unfolding refusal5
  amiss e = let f : formed s (nodes s) (genes s) ≡ false = rw k.header at e in rw f

  well : formed s h.nodes h.genes ≡ true → refusal5 s ≡ false
  unfolding refusal5
  well e = let f : formed s (nodes s) (genes s) ≡ true = rw k.header at e in rw f

  -- another length than the header tells is refused
  pub length_refused : whole s h.nodes h.genes ≡ false → (least b w : ℕ) → least ≤ b → least_words ≤ w → verdict (first_refusals least s b w) ≡ 5
  length_refused e least b w lb lw = let f : formed s h.nodes h.genes ≡ false = rw e refl in refusal_5 least s b w lw lb k.three k.four (amiss f)

  -- the columns that are read hold the sheet's lines
  node_field : (j : ℕ) → within (nodes s) (at (filled (nodes s) zeros (λ v. cell s v j))) ≡ within (nodes s) (λ v. cell s v j)
  node_field j = within_same (nodes s) _ _ (λ v a l. filled_in (nodes s) zeros (λ w. cell s w j) v a l (omega (arith, zeros_long, few_nodes)))

  gene_field : (j : ℕ) → within (genes s) (at (filled (genes s) zeros (λ g. cell s (nodes s + g) j))) ≡ within (genes s) (λ g. cell s (nodes s + g) j)
  gene_field j = within_same (genes s) _ _ (λ g a l. filled_in (genes s) zeros (λ w. cell s (nodes s + w) j) g a l (omega (arith, zeros_long, few_genes)))

  pub nodes_are : nodes_in (nodes s) (node_columns s (nodes s)) ≡ node_lines s
  unfolding nodes_in node_columns node_lines
  nodes_are = rw (node_field 1, node_field 2, node_field 3, node_field 4)

  genes_are : genes_in (genes s) (gene_columns s (nodes s) (genes s)) ≡ gene_lines s
  unfolding genes_in gene_columns gene_lines
  genes_are = rw (gene_field 1, gene_field 2)

  pub stamps_small : Dated (nodes s) (node_columns s (nodes s))
  unfolding node_columns
  stamps_small = record {
    small = λ v a l. omega (arith, filled_in (nodes s) zeros (λ w. cell s w 3) v a l (omega (arith, zeros_long, few_nodes)), cell_small s v 3);
  }

  module _ (lines : Lines) (R : LinesRead s h (Ok lines)) where
    header_same : lines.header ≡ header_in s
    header_same = R.1 ∙ k.header

    nodes_same : lines.nodes ≡ node_columns s (nodes s)
    nodes_same = R.2 ∙ ap (λ (x : Header). node_columns s x.nodes) k.header

    genes_same : lines.genes ≡ gene_columns s (nodes s) (genes s)
    genes_same = R.3 ∙ ap (λ (x : Header). gene_columns s x.nodes x.genes) k.header

    contents_are : contents_by lines ≡ contents_of s
    unfolding contents_of
    contents_are = rw (header_same, nodes_same, genes_same) (rw (nodes_are, genes_are))

    of_sheet : LinesOf s lines
    of_sheet = record { contents = contents_are; limits = subst WithinLimits (sym R.1) k.limited; stamps = rw (header_same, nodes_same) stamps_small }

  -- what reading the lines comes to
  pub lines_outcome : (least b w : ℕ) → least ≤ b → least_words ≤ w → (x : Result Lines Refusal) → LinesRead s h x → ReadBy least s b w x
  lines_outcome least b w lb lw (Ok lines) R = read_lines lines (refusal_none least s b w lw lb k.three k.four (well R.0)) (of_sheet lines R)
  lines_outcome least b w lb lw (Err r) R = unread r (refusal_5 least s b w lw lb k.three k.four (amiss R.0) ∙ ap number (sym R.1))

-- a network that passes 6 to 10 is sound
pub sound_in : (n : ℕ) (l : NodeColumns) → 0 ≡ verdict (network_refusals (nodes_in n l)) → Sound (network (nodes_in n l))
sound_in n l e = (Acceptance.accepted (nodes_in n l) (Acceptance.no_others n l) (sym e)).sound

-- a refusal that `?` hands on is the outcome where it is the first that applies
pub refused_by : (k : ℕ) (X : Contents) {piece : List ℕ} (d u : List ℕ) (x : Result ℕ Refusal) (r : Refusal) → IsErrAnd x (λ q. q ≡ r) → k ≡ number r → OutcomeWriting k X piece d d u u x
refused_by k X d u x r h e = rw (handed_on x r h) (refuses k r X d u e)

-- the curators' checks of a call that writes a piece, one after the other: the refusal of one is the outcome where those before it have passed, and what is
-- written is where all have
module _ (piece : Contents → List ℕ) (lines : Lines) (d u : List ℕ) where
  abbrev alone : NoOthers (nodes_of lines)
  alone = Acceptance.no_others lines.header.nodes lines.nodes

  pub by_network : (x : Result ℕ Refusal) (r : Refusal) → IsErrAnd x (λ q. q ≡ r) → number r ≡ verdict (network_refusals (nodes_of lines)) → OutcomeBy piece lines d d u u x
  by_network x r h e = refused_by _ _ d u x r h (network_refuses (contents_by lines) alone r e)

  module _ (network : 0 ≡ verdict (network_refusals (nodes_of lines))) where
    pub by_components : (x : Result ℕ Refusal) (r : Refusal) → IsErrAnd x (λ q. q ≡ r) → number r ≡ verdict (component_refusals (nodes_of lines)) → OutcomeBy piece lines d d u u x
    by_components x r h e = refused_by _ _ d u x r h (component_refuses (contents_by lines) alone (sym network) r e)

    module _ (component : 0 ≡ verdict (component_refusals (nodes_of lines))) where
      pub by_genes : (x : Result ℕ Refusal) (r : Refusal) → IsErrAnd x (λ q. q ≡ r) → number r ≡ verdict (gene_refusals (nodes_of lines) (genes_of lines)) → OutcomeBy piece lines d d u u x
      by_genes x r h e = refused_by _ _ d u x r h (genes_refuse (contents_by lines) alone (sym network) (sym component) (number r) e)

      pub by_none : 0 ≡ verdict (gene_refusals (nodes_of lines) (genes_of lines)) → (e t : List ℕ) (b : ℕ) → Overwritten (contents_by lines) (piece (contents_by lines)) d e u t b
          → OutcomeBy piece lines d e u t (Ok b)
      by_none n e t b w = reports _ _ d e u t b (genes_refuse (contents_by lines) alone (sym network) (sym component) 0 n) w

-- a call on a sheet s that asks for so many bytes of result, and writes a piece of what it scores: reading the lines comes to a
module _ (least : ℕ) (piece : Contents → List ℕ) (s d u : List ℕ) {a : Result Lines Refusal} (S : ReadBy least s (length d) (length u) a) where
  pub not_read : (r : Refusal) → a ≡ Err r → (x : Result ℕ Refusal) → IsErrAnd x (λ q. q ≡ r) → OutcomeOf least piece s d d u u x
  not_read r q x h = refused_by _ (contents_of s) d u x r h (early least s _ _ (number r) (some r) (sym S.told ∙ ap refused q))

  module _ (lines : Lines) (q : a ≡ Ok lines) where
    abbrev first_none : verdict (first_refusals least s (length d) (length u)) ≡ 0
    first_none = sym S.told ∙ ap refused q

    pub ready : Ready least lines (length d) (length u)
    ready =
        let p = buffers_pass least s (length d) (length u) first_none in
        let l = S.lines lines q in
        record { limits = l.limits; stamps = l.stamps; room = p.1; space = p.0 }

    -- the outcome of the lines is the sheet's
    pub lines_scored : (e t : List ℕ) (x : Result ℕ Refusal) → OutcomeBy piece lines d e u t x → OutcomeOf least piece s d e u t x
    lines_scored e t x o = rw (later least s (length d) (length u) first_none)
        (subst (λ (X : Contents). OutcomeWriting (verdict (curator_refusals X)) X (piece X) d e u t x) (S.lines lines q).contents o)

-- an accepted header has few lines
pub few_lines : (least : ℕ) (s : List ℕ) (h : Header) (b w : ℕ) → HeaderRead least s h b w → FewLines h
few_lines least s h b w H = let l = (header_is s h H.header).limited in record { few_nodes = l.few_nodes; few_genes = l.few_genes }

-- what the answer of the header says, by cases
module _ (least : ℕ) (s : List ℕ) (b w : ℕ) {a : Result Header Refusal} (H : HeaderBy least s b w a) where
  pub not_headed_by : (r : Refusal) → a ≡ Err r → number r ≡ verdict (first_refusals least s b w)
  not_headed_by r q = subst (HeaderBy least s b w) q H

  pub headed_by : (h : Header) → a ≡ Ok h → HeaderRead least s h b w
  headed_by h q = subst (HeaderBy least s b w) q H

-- a call on a sheet s whose header is refused, and one whose header is accepted, with lines that are read into: reading comes to a
module _ (least : ℕ) (piece : Contents → List ℕ) (s d u : List ℕ) where
  pub not_headed : {a : Result Header Refusal} → HeaderBy least s (length d) (length u) a → (r : Refusal) → a ≡ Err r → (x : Result ℕ Refusal) → IsErrAnd x (λ q. q ≡ r) → OutcomeOf least piece s d d u u x
  not_headed H r q x h = refused_by _ (contents_of s) d u x r h (early least s _ _ (number r) (some r) (sym (not_headed_by least s _ _ H r q)))

  module _ (h : Header) (H : HeaderRead least s h (length d) (length u)) where
    read_as : (x : Result Lines Refusal) → LinesRead s h x → ReadBy least s (length d) (length u) x
    read_as x read = lines_outcome s h (header_is s h H.header) least _ _ H.room H.space x read

    module _ (l : Lines) {a : Result Unit Refusal} (R : ReadInto s h l a) where
      pub not_read_into : (r : Refusal) → a ≡ Err r → (x : Result ℕ Refusal) → IsErrAnd x (λ q. q ≡ r) → OutcomeOf least piece s d d u u x
      not_read_into r q x i = not_read least piece s d u (read_as (Err r) (subst (ReadInto s h l) q R)) r refl x i

      module _ (done : Unit) (q : a ≡ Ok done) where
        as_lines : ReadBy least s (length d) (length u) (Ok l)
        as_lines = read_as (Ok l) (subst (ReadInto s h l) q R)

        pub ready_into : Ready least l (length d) (length u)
        ready_into = ready least piece s d u as_lines l refl

        pub scored_into : (e t : List ℕ) (x : Result ℕ Refusal) → OutcomeBy piece l d e u t x → OutcomeOf least piece s d e u t x
        scored_into e t x o = lines_scored least piece s d u as_lines l refl e t x o
