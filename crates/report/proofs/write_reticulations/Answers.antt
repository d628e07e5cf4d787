-- A line for each node that is a reticulation: its numbers have fields (proofs/Writing).
-- Assumes nothing.
use Rattle.std.proofs.Common.{rules}
use Rattle.report.proofs.Writing.{node_lines, node_told}
use Rattle.report.proofs.write_reticulations.Goals as goal

pub write_lines-requires-clause-told : goal.write_lines-requires-clause-told
write_lines-requires-clause-told c = let t = c.args.tabled.now in
    (node_lines t, (λ v line low high k. node_told t v low high (search rules)), c.requires)

pub returns : goal.returns
returns c = let t = c.args.tabled.now in c.write_lines.ensures (node_lines t) (λ v line low high k. node_told t v low high (search rules))
