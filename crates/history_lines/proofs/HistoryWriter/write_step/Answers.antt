-- The step chosen is the choice, and its line is written.
-- Assumes nothing.
use Rattle.std.proofs.Common.{arith, ap, ◌∙◌}
use Rattle.columns.specs.Writing.{put}
use Rattle.text_lines.specs.Lines.{line_of}
use Rattle.histories.specs.Families.{family_of}
use Rattle.layout.specs.Lines.{nodes_in}
use Rattle.whole_network.proofs.Ready.{within}
use Rattle.history_lines.proofs.HistoryWriter.write_step.Goals as goal

pub line-line-requires : goal.line-line-requires
unfolding family_of nodes_in
line-line-requires c = let f = c.args.self.source.now in
    (within f, omega (arith, c.requires.1.high, f.lines.now.within.few_genes), c.requires.3, omega (arith, c.requires.2.high, f.lines.now.within.few_nodes))

pub returns : goal.returns
unfolding family_of
returns c = record {
  chosen = c.choose-step.ensures;
  bytes = c.append_line.ensures.0 ∙ ap (λ l. put c.args.res.now c.args.at (line_of l)) c.line-line.ensures.0;
  next = c.append_line.ensures.1;
}
