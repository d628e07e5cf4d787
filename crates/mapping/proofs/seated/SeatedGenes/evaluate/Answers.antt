-- The goals of `evaluate` that are left: see Invariants.antt for the idea.
use Rattle.std.proofs.Common.{arith}
use Rattle.mapping.proofs.Evaluating.{upto_start, counted, scored, evaluated}
use Rattle.mapping.proofs.seated.SeatedGenes.evaluate.Goals as goal

pub loop-k-init : goal.loop-k-init
loop-k-init c = upto_start c.args.self.family c.requires c.default-s.ensures

pub total-requires : goal.total-requires
total-requires c = counted c.args.self.family (omega arith) c.loop-k.invariant

pub returns : goal.returns
returns c = let F = c.args.self.family in let i = c.loop-k.invariant in
    record { score = scored F (omega arith) i c.total.ensures; evaluated = evaluated F (omega arith) i }
