-- The chain counts by the definition of finite.
-- Assumes nothing.
use Rattle.std.proofs.Common.{refl, rules}
use Rattle.finite.specs.Tests.{same}
use Rattle.finite.proofs.Upto.{count_upto}
use Rattle.tables.proofs.count_some.Goals as goal

pub returns : goal.returns
unfolding same
returns c = count_upto _ _ c.count.ensures.ran c.filter.ensures.source c.filter.ensures.closure refl (λ x b q k. search rules)
