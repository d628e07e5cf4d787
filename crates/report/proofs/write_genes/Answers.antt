-- A line for each gene: its numbers have fields (proofs/Writing).
-- Assumes nothing.
use Rattle.std.proofs.Common.{rules}
use Rattle.report.proofs.Writing.{gene_lines, gene_told, room_always}
use Rattle.report.proofs.write_genes.Goals as goal

pub write_lines-requires-clause-told : goal.write_lines-requires-clause-told
write_lines-requires-clause-told c = let t = c.args.tabled.now in
    (gene_lines t, (λ v line low high k. gene_told t v low high (search rules)), room_always _ _ _ c.requires)

pub returns : goal.returns
returns c = let t = c.args.tabled.now in c.write_lines.ensures (gene_lines t) (λ v line low high k. gene_told t v low high (search rules))
