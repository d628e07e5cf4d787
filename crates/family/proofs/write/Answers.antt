-- A family that passes the refusals is accepted by the whole-network cost, over the genes built from its lines.
-- Assumes nothing.
use Rattle.family.proofs.Reports.{whole_ready}
use Rattle.family.proofs.write.Goals as goal

pub invariant_of-lay_into : goal.invariant_of-lay_into
invariant_of-lay_into c = record { sound = c.args.network.sound }

pub invariant_of-source : goal.invariant_of-source
invariant_of-source c = record { accepted = whole_ready c.args.network _ _ c.requires.0 c.requires.1 _ c.build_into.ensures; laid = c.lay_into.ensures }
