-- The products of a total: each is at most 99 times 16,129.
-- Assumes nothing.
use Rattle.std.proofs.Common.{◌*◌, ◌≤◌, mul-le-mul}
use Rattle.layout.specs.declared.Header.{Header}
use Rattle.mapping.specs.inner.Evaluation.{Counted}
use Rattle.mapping.specs.declared.Score.{Score}

module _ (h : Header) (s : Score) (c : Counted h s) where
  pub transfers_fit : h.transfer * s.transfers ≤ 99 * 16129
  transfers_fit = mul-le-mul c.limits.transfer c.transfers

  pub losses_fit : h.loss * s.losses ≤ 99 * 16129
  losses_fit = mul-le-mul c.limits.loss c.losses
