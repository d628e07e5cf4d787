-- The promise of a call on a sheet follows from its outcome (crate answer): its refusals' tests tell their conditions, their numbers go up to 13, and a
-- sheet that none applies to is admitted to the theorems.
-- Assumes nothing.
use Rattle.std.proofs.Common.{ℕ, ◌≤◌, ◌≡◌, List, length, arith}
use Rattle.finite.specs.Refusals.{least_report, verdict}
use Rattle.finite.proofs.Refusals.{Low, verdict_low}
use Rattle.std.proofs.lemmas.Bool.{not-false}
use Rattle.layout.specs.Headers.{WithinLimits}
use Rattle.sheet.specs.Sheets.{header_in, refusal4}
use Rattle.sheet.proofs.Limits.{limits_is}
use Rattle.shapes.specs.Refusals.{shape_refusals, after_eight}
use Rattle.network.specs.Refusals.{after_six, network_refusals}
use Rattle.network.specs.inner.Accepted.{NoOthers}
use Rattle.network.proofs.Acceptance.{none_outside}
use Rattle.components.specs.Refusals.{component_refusals}
use Rattle.gene_tree.specs.Refusals.{gene_refusals, species_refusals}
use Rattle.acceptance.specs.inner.Admitted.{Admitted}
use Rattle.std.specs.Prelude.{Result}
use Rattle.refusals.specs.declared.Refusal.{Refusal}
use Rattle.family.specs.Buffers.{least_bytes}
use Rattle.family.specs.Families.{Contents}
use Rattle.family.specs.Reports.{report_in}
use Rattle.family.proofs.Reported.{report_least}
use Rattle.answer.proofs.Promises as Call
use Rattle.score.specs.Contents.{node_lines, gene_lines, contents_of}
use Rattle.score.specs.Refusals.{buffer_refusals, text_refusals, first_refusals, curator_refusals, refusals_of}
use Rattle.score.specs.Outcome.{PromiseOfSheet, Promise}
use Rattle.score.specs.inner.Stages.{OutcomeOf}
use Rattle.score.proofs.Refusals.{all_tells, text_passes, all_pass, none_passes}

-- a number that is no node has no parents
pub no_others : (s : List ℕ) → NoOthers (contents_of s).nodes
unfolding contents_of node_lines
no_others s = none_outside _ _ _ _ _

-- a sheet that no refusal of a call applies to, whatever result the call asks for
module _ (least : ℕ) (s : List ℕ) (b w : ℕ) (e : verdict (refusals_of least s b w) ≡ 0) where
  within : WithinLimits (header_in s)
  unfolding refusal4
  within = limits_is _ (not-false _ (text_passes least s b w (all_pass least s b w e).0).1)

  pub admitted : Admitted (contents_of s).nodes (contents_of s).genes (contents_of s).costs
  unfolding contents_of node_lines gene_lines
  admitted =
      let p = none_passes (contents_of s) (no_others s) (all_pass least s b w e).1 in
      record {
        limits = within;
        others = no_others s;
        network = p.network;
        component = p.component;
        genes = p.genes;
      }

-- a refusal's number is at most 13
pub all_low : (least : ℕ) (s : List ℕ) (b w : ℕ) → Low 13 (refusals_of least s b w)
unfolding Low refusals_of first_refusals buffer_refusals text_refusals curator_refusals network_refusals after_six shape_refusals after_eight component_refusals gene_refusals species_refusals
all_low least s b w = (omega arith, (omega arith, (omega arith, (omega arith, (omega arith, (omega arith, (omega arith, (omega arith, (omega arith, (omega arith, (omega arith, (omega arith, (omega arith, tt)))))))))))))

-- of a call that writes a piece of the length of a report at least
pub promise_of_sheet : (least : ℕ) (piece : Contents → List ℕ) → ((X : Contents) → Admitted X.nodes X.genes X.costs → least_report ≤ length (piece X))
    → (s d e u t : List ℕ) (r : Result ℕ Refusal) → OutcomeOf least piece s d e u t r → PromiseOfSheet least piece s d e u t r
promise_of_sheet least piece long s d e u t r o =
    let b : ℕ = length d in
    let w : ℕ = length u in
    let X : Contents = contents_of s in
    let rs = refusals_of least s b w in
    Call.promise_writing 13 rs X (all_tells least s b w (no_others s)) (verdict_low 13 rs (all_low least s b w)) (admitted least s b w) (piece X) (λ z. long X (admitted least s b w z)) d e u t r o

pub promise : (s d e u t : List ℕ) (r : Result ℕ Refusal) → OutcomeOf least_bytes report_in s d e u t r → Promise s d e u t r
promise = promise_of_sheet least_bytes report_in report_least
