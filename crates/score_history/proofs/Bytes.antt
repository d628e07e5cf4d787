-- What is written of contents that are admitted: the lines are those of the first of all cheapest histories, which has 16,129 lines at most, and a report
-- fits the least result of the plain call.
-- Assumes nothing.
use Rattle.std.proofs.Common.{◌+◌, ◌≤◌, length, length-append, arith}
use Rattle.text_lines.proofs.Lines.{length_lines_text}
use Rattle.acceptance.specs.inner.Admitted.{Admitted}
use Rattle.tellings.specs.Chosen.{history_lines}
use Rattle.tellings.specs.Shown.{HistoryShown}
use Rattle.tellings.proofs.Admitted.{history_shown}
use Rattle.family.specs.Families.{Contents, family_in}
use Rattle.family.specs.Reports.{report_in}
use Rattle.family.proofs.Reported.{report_least, report_most}
use Rattle.score_history.specs.Outcome.{history_in, bytes_in}

module _ (X : Contents) (admitted : Admitted X.nodes X.genes X.costs) where
  pub shown : HistoryShown (family_in X) (history_lines (family_in X))
  unfolding family_in
  shown = history_shown X.nodes X.genes X.costs admitted

  pub history_bytes : length (report_in X) + length (history_in X) ≤ 505951
  history_bytes = omega (arith, report_most X admitted, length_lines_text (history_lines (family_in X)), shown.few)

  pub few : length (bytes_in X) ≤ 505951
  few = omega (arith, length-append (report_in X) (history_in X), history_bytes)

  pub long : 93 ≤ length (bytes_in X)
  long = omega (arith, length-append (report_in X) (history_in X), report_least X admitted)
