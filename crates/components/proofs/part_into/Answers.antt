-- `components::part_into` meets its contract. The ranks are those of the lines, and nothing is counted yet in a table that was lent blank.
-- Assumes nothing.
use Rattle.std.proofs.Common.{rules}
use Rattle.components.specs.inner.Filling.{rank_at}
use Rattle.components.proofs.Filling.{ranked, parted_start}
use Rattle.components.proofs.part_into.Goals as goal

pub invariant_of-climbs : goal.invariant_of-climbs
invariant_of-climbs c = record {
  ranked = ranked c.args.network _ c.requires.blank _ (c.fill.ensures (rank_at c.args.network.lines.now.nodes) (λ v r low high k. search rules));
}

pub counts-requires : goal.counts-requires
counts-requires c =
    parted_start c.args.network _ c.requires.blank _ _ (c.fill.ensures (rank_at c.args.network.lines.now.nodes) (λ v r low high k. search rules)) c.tops.ensures
