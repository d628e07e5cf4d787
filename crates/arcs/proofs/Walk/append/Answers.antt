-- `arcs::Walk::append` meets its contract. A node without a place is not counted, so there is a place left for it.
-- Assumes nothing.
use Rattle.arcs.proofs.Walks.{appended}
use Rattle.arcs.proofs.Walk.append.Goals as goal

pub returns : goal.returns
returns c = λ N W D. appended W D c.if-self-v-ne0.false (c.requires.1 c.if-self-v-ne0.false) c.requires.0
