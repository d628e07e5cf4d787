-- Genes in turn. A gene's last step is taken at a node, so where it sends children the gene has them, and they start where they have histories; and the
-- lines of the genes so far are a first part of all lines.
-- Assumes nothing.
use Rattle.std.proofs.Common.{◌≡◌, refl, sym, ap, ◌∙◌, subst, List, ◌++◌, ℕ, zero, suc, ◌+◌, ◌-◌, ◌*◌, ◌≤◌, ◌<◌, arith, length, length-append, set, Some, None}
use mathlib.Core.Option.{some}
use Rattle.std.proofs.lemmas.Option.{none-some}
use Rattle.finite.specs.Tables.{at, zeros}
use Rattle.columns.specs.Writing.{put}
use Rattle.columns.proofs.Writing.{put_nil, put_put}
use Rattle.text_lines.specs.Lines.{line_length, lines_text}
use Rattle.text_lines.proofs.Lines.{length_lines_text, lines_text_append}
use Rattle.layout.specs.inner.Genes.{left, right, gene_tree}
use Rattle.histories.specs.Histories.{Family, Gene, tip, pair, least, overall}
use Rattle.histories.specs.Families.{family_of}
use Rattle.histories.proofs.Accepted.{gene_pair, inner_is}
use Rattle.histories.proofs.Small.{overall_exists}
use Rattle.tellings.specs.Steps.{Step, Line, numbered, listing}
use Rattle.tellings.specs.Chosen.{Onward, ends, splits, goes, onward, choice, chosen_start, chosen_steps, history_lines}
use Rattle.tellings.specs.inner.Walks.{MayStart, walk, leave, settle, starts}
use Rattle.tellings.proofs.Turns.{some_one, ends_splits, goes_splits, splits_one, Taken, takes_end, takes_parts, takes_move, taken, ready as may_start}
use Rattle.finite.proofs.Sum.{sum_range_le}
use Rattle.tellings.proofs.Listing.{numbered_length, listing_length}
use Rattle.tellings.proofs.Rising.{up_less, rising}
use Rattle.whole_network.specs.declared.source.Source.{Source}
use Rattle.whole_network.specs.inner.Stages.{header, family}
use Rattle.whole_network.proofs.Ready.{ready}
use Rattle.history_steps.specs.inner.StepChoices.{step_of, parted_to}
use Rattle.history_lines.specs.declared.LastStep.{LastStep}
use Rattle.history_steps.specs.inner.Tables.{Tabled}
use Rattle.history_lines.specs.inner.Lines.{WalkWritten, Sends, Known, gene_lines, RoomFor, GeneWritten}
use Rattle.history_lines.proofs.Walks.{nodes_few}

-- where no children are sent, the table of starts stays
pub settle_stays : (K : Gene) (o : Onward) (t : List ℕ) → parted_to o ≡ None → t ≡ settle K o t
unfolding settle parted_to
settle_stays (tip s) o t e = refl
settle_stays (pair a b) ends t e = refl
settle_stays (pair a b) (splits p q) t e = absurd (none-some (p, q) (sym e))
settle_stays (pair a b) (goes w) t e = refl

pub parts_to : (o : Onward) (p q : ℕ) → parted_to o ≡ Some (p, q) → o ≡ splits p q
unfolding parted_to
parts_to ends p q e = absurd (none-some (p, q) e)
parts_to (splits x y) p q e = let z : ◌≡◌ {A = ℕ × ℕ} (x, y) (p, q) = cc in rw (ap (λ (a : ℕ × ℕ). a.0) z, ap (λ (a : ℕ × ℕ). a.1) z)
parts_to (goes w) p q e = absurd (none-some (p, q) e)

pub genes_high : (f : Source) {g : ℕ} → g ≤ (header f).genes → g ≤ (family f).genes
unfolding family_of gene_tree
genes_high f l = l

-- the lines of a gene whose start is known are those of its walk
module _ (F : Family) (g : ℕ) (t : List ℕ) where
  pub walk_room : (l place : ℕ) → Known F (g - 1) t → RoomFor F g l place → place + line_length * length (walk F g (at t g)) ≤ l
  walk_room l place k r = omega (arith, r, numbered_length F g 0 (walk F g (at (starts F (g - 1)) g)), ap (λ (x : List ℕ). length (walk F g (at x g))) k)

  pub gene_written : (d e : List ℕ) (place : ℕ) {w : LastStep} → Known F (g - 1) t → WalkWritten F g (at t g) d place e w → GeneWritten F g d place e w.next
  gene_written d e place k w = record {
    bytes = w.bytes ∙ ap (λ (x : List ℕ). put d place (lines_text (numbered F g 0 (walk F g (at x g))))) k;
    after = omega (arith, w.next, numbered_length F g 0 (walk F g (at (starts F (g - 1)) g)), ap (λ (x : List ℕ). length (walk F g (at x g))) k);
  }

-- the lines of the genes up to i are written, and the starts of their children known
pub record Appending (F : Family) (d : List ℕ) (place i : ℕ) (t e : List ℕ) (next : ℕ) : Type 0 where
  pub known : Known F i t
  pub bytes : e ≡ put d place (lines_text (listing F (chosen_steps F) i))
  pub after : next ≡ place + line_length * length (listing F (chosen_steps F) i)

-- a table of starts after one gene more, and the lines of one gene more
turned : (F : Family) (g : ℕ) → 1 ≤ g → settle (F.gene g) (leave F g (at (starts F (g - 1)) g)) (starts F (g - 1)) ≡ starts F g
unfolding starts
turned F zero l = absurd (omega arith)
turned F (suc z) l = let n : suc z - 1 ≡ z = omega arith in rw n

listed : (F : Family) (h : ℕ → List Line) (g : ℕ) → 1 ≤ g → listing F h (g - 1) ++ numbered F g 0 (h g) ≡ listing F h g
unfolding listing
listed F h zero l = absurd (omega arith)
listed F h (suc z) l = let n : suc z - 1 ≡ z = omega arith in rw n

lines_le : (F : Family) (h : ℕ → List Line) (k m : ℕ) → k ≤ m → length (listing F h k) ≤ length (listing F h m)
lines_le F h k m l = rw (listing_length F h k, listing_length F h m) (sum_range_le m k (λ x. length (h x)) l)

module _ (f : Source) where
  abbrev F : Family
  F = family f

  -- a gene that sends children has two
  module _ (g : ℕ) (s : Step) (S : Sends f g s) (p q : ℕ) (e : parted_to (onward s) ≡ Some (p, q)) where
    sent : onward s ≡ splits p q
    sent = parts_to (onward s) p q e

    gene : F.gene g ≡ pair (left f.genes.now g) (right f.genes.now g)
    unfolding gene_tree
    gene = gene_pair _ _ _ _ g (S.inner p q sent)

    pub settle_sent : (t : List ℕ) → set (set t (left f.genes.now g) p) (right f.genes.now g) q ≡ settle (F.gene g) (onward s) t
    unfolding settle
    settle_sent t = rw (gene, sent)

    pub left_row : left f.genes.now g ≤ 127
    unfolding family_of gene_tree
    left_row = omega (arith, (ready f).graded.left_in g _ _ gene, f.lines.now.within.few_genes)

    pub right_row : right f.genes.now g ≤ 127
    unfolding family_of gene_tree
    right_row = omega (arith, (ready f).graded.right_in g _ _ gene, f.lines.now.within.few_genes)

    pub ends_low : (p ≤ 127) × (q ≤ 127)
    ends_low = S.nodes p q sent

  module _ (s : List ℕ) (T : Tabled f s) where
    few : F.genes ≤ 127
    unfolding family_of gene_tree
    few = f.lines.now.within.few_genes

    pub whole : (c : ℕ) × (overall F ≡ some c) × (c < 1000000)
    whole = overall_exists _ _ _ _ f.accepted

    -- a gene's last step sends children that it has, to nodes
    module _ (g v : ℕ) {d e : List ℕ} {place : ℕ} {t : LastStep} (W : WalkWritten F g v d place e t) where
      pub sends : Sends f g (step_of t.step)
      unfolding gene_tree
      sends = by (taken F (ready f).graded T.levels g W.node W.may)
        where
          same_step : {u : Step} → choice F (least F) g W.node ≡ some u → u ≡ step_of t.step
          same_step is = some_one (sym is ∙ W.chosen)

          by : Taken F (ready f).graded T.levels g W.node → Sends f g (step_of t.step)
          by (takes_end u is m o) = record {
            inner = λ p q k. absurd (ends_splits (sym o ∙ ap onward (same_step is) ∙ k));
            nodes = λ p q k. absurd (ends_splits (sym o ∙ ap onward (same_step is) ∙ k));
          }
          by (takes_parts u {a} {b} {p = x} {q = y} is m n o l r) = record {
            inner = λ p q k. (inner_is _ _ _ _ f.accepted g a b n).0;
            nodes = λ p q k. let z : splits x y ≡ splits p q = sym o ∙ ap onward (same_step is) ∙ k in
                (omega (arith, l.high, splits_one z, nodes_few f), omega (arith, r.high, splits_one z, nodes_few f));
          }
          by (takes_move u is m o l h) = record {
            inner = λ p q k. absurd (goes_splits (sym o ∙ ap onward (same_step is) ∙ k));
            nodes = λ p q k. absurd (goes_splits (sym o ∙ ap onward (same_step is) ∙ k));
          }

    module _ (g : ℕ) (lg : 1 ≤ g) (ug : g ≤ F.genes) where
      -- its start is known when its turn comes
      pub start_may : (t : List ℕ) → Known F (g - 1) t → MayStart F g (at t g)
      start_may t k = rw k (may_start F (ready f).graded T.levels T.lineage few whole.0 whole.1 (g - 1) g (omega arith) lg ug (omega (arith, up_less F (ready f).graded T.lineage few g lg)))

      -- and after it those of its children are
      pub known_then : (t u : List ℕ) (o : Onward) → Known F (g - 1) t → leave F g (at t g) ≡ o → u ≡ settle (F.gene g) o t → Known F g u
      known_then t u o k l e = e ∙ ap (λ (x : Onward). settle (F.gene g) x t) (sym l) ∙ ap (λ (x : List ℕ). settle (F.gene g) (leave F g (at x g)) x) k ∙ turned F g lg

  -- all lines, and those of the first i genes
  abbrev Lines : ℕ → List (List ℕ)
  Lines i = listing F (chosen_steps F) i

  module _ (s : List ℕ) (T : Tabled f s) (g : ℕ) (lg : 1 ≤ g) (ug : g ≤ F.genes) where
    -- a gene's lines are those of the chosen history
    gene_is : gene_lines F g ≡ numbered F g 0 (chosen_steps F g)
    gene_is = ap (numbered F g 0) (sym (rising F (ready f).graded T.lineage (few s T) (whole s T).0 (whole s T).1 g lg ug))

    -- they come behind those of the genes before it
    lines_more : Lines (g - 1) ++ gene_lines F g ≡ Lines g
    lines_more = ap (λ (l : List (List ℕ)). Lines (g - 1) ++ l) gene_is ∙ listed F (chosen_steps F) g lg

    -- and are a part of all
    lines_within : length (Lines (g - 1)) + length (gene_lines F g) ≤ length (history_lines F)
    unfolding history_lines
    lines_within = omega (arith, ap length lines_more, length-append (Lines (g - 1)) (gene_lines F g), lines_le F (chosen_steps F) g F.genes ug)

    module _ (d : List ℕ) (place : ℕ) (room : place + line_length * length (history_lines F) ≤ length d) (t e : List ℕ) (next : ℕ) where
      module _ (A : Appending F d place (g - 1) t e next) where
        pub gene_room : (l : ℕ) → l ≡ length d → RoomFor F g l next
        gene_room l q = omega (arith, A.after, lines_within)

        pub gene_turn : (u h : List ℕ) (r : ℕ) → Known F g u → GeneWritten F g e next h r → Appending F d place g u h r
        gene_turn u h r k w = record {
          known = k;
          bytes = w.bytes ∙ rw A.bytes (put_put d place next (lines_text (Lines (g - 1))) (lines_text (gene_lines F g)) (omega (arith, room)) (omega (arith, A.after, length_lines_text (Lines (g - 1)))))
              ∙ ap (put d place) (sym (lines_text_append (Lines (g - 1)) (gene_lines F g)) ∙ ap lines_text lines_more);
          after = omega (arith, w.after, A.after, ap length lines_more, length-append (Lines (g - 1)) (gene_lines F g));
        }

-- before the first gene, after one more, and when all are passed
pub genes_begun : (F : Family) (d : List ℕ) (place r : ℕ) → r ≡ chosen_start F → Appending F d place 0 (set zeros 1 r) d place
unfolding starts listing lines_text
genes_begun F d place r e = record { known = rw e; bytes = put_nil d place; after = omega arith }

pub genes_after : {F : Family} {d : List ℕ} {place g : ℕ} {t e : List ℕ} {next : ℕ} → Appending F d place g t e next → Appending F d place (g + 1 - 1) t e next
genes_after {F} {d} {place} {g} {t} {e} {next} a = let q : g ≡ g + 1 - 1 = omega arith in subst (λ (i : ℕ). Appending F d place i t e next) q a

pub genes_done : (f : Source) {d : List ℕ} {place i : ℕ} {t e : List ℕ} {next : ℕ} → i ≡ (header f).genes → Appending (family f) d place i t e next
    → (e ≡ put d place (lines_text (history_lines (family f)))) × (next ≡ place + line_length * length (history_lines (family f)))
unfolding history_lines family_of gene_tree
genes_done f {d} {place} q a = (
  a.bytes ∙ ap (λ (i : ℕ). put d place (lines_text (listing (family f) (chosen_steps (family f)) i))) q,
  a.after ∙ ap (λ (i : ℕ). place + line_length * length (listing (family f) (chosen_steps (family f)) i)) q,
)
