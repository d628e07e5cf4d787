-- A leaf gene is seated, another gene is left as it is; either way the leaf genes up to this one are seated (proofs/Evaluating).
-- Assumes nothing.
use Rattle.mapping.proofs.Evaluating.{leaves_skip, leaves_next}
use Rattle.mapping.proofs.seat_leaf.Goals as goal

pub seat-requires : goal.seat-requires
seat-requires c = let s = c.requires in (s.1, s.2 c.if-g-k-eq0.true)

pub returns-then-g-k-eq0 : goal.returns-then-g-k-eq0
returns-then-g-k-eq0 c = let s = c.requires in leaves_next _ s.0 s.3 s.1 c.seat.ensures

pub returns-else-g-k-eq0 : goal.returns-else-g-k-eq0
returns-else-g-k-eq0 c = let s = c.requires in leaves_skip _ s.0 s.3 c.if-g-k-eq0.false
