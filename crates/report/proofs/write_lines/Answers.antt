-- The goals of `write_lines` that are left: see Invariants.antt for the idea.
use Rattle.std.proofs.Common.{arith}
use Rattle.report.proofs.Writing.{lines_start, lines_done, told_room, told_turn, told_after}
use Rattle.report.proofs.write_lines.Goals as goal
use Rattle.report.proofs.write_lines.Goals.{else-loop-v-test, then-loop-v-test+else-v-n}

pub loop-v-init : goal.loop-v-init
loop-v-init g c = (omega arith, λ t h. lines_start _ _ _ _)

pub append-next-requires : goal.append-next-requires
append-next-requires g c = let l = c.loop-v in
    let s = c.requires.told in
    let u = c.loop-v-test.true in
    let x = l.invariant.1 s.0 s.1 in
    let r = told_room s.0 l.auto.v u x (s.1 _ _ l.auto.v u c.line.ensures) s.2 l.auto.res in
    (omega (arith, r.0, x.after), r.1)

pub loop-v-preserved : goal.loop-v-preserved
loop-v-preserved g c = let l = c.loop-v in
    let u = c.loop-v-test.true in
    (omega arith, λ t h. told_after t _ (told_turn t l.auto.v u (l.invariant.1 t h) (h _ _ l.auto.v u c.line.ensures) (omega (arith, c.requires.told.2)) c.append-next.ensures))

pub returns : goal.returns
returns g c t h = let l = c.loop-v in
    elim c.loop-v-test.branch [
      | else-loop-v-test w ↦ rw (w.res-is, w.next-is) (lines_done _ _ _ _ _ _ _ _ (omega arith) (omega arith) (l.invariant.1 t h))
      | then-loop-v-test+else-v-n w ↦ let u = w.loop-v-test.true in
          rw (w.res-is, w.next-is)
          (lines_done _ _ _ _ _ _ _ _ u (omega arith) (told_turn t l.auto.v u (l.invariant.1 t h) (h _ _ l.auto.v u w.line.ensures) (omega (arith, c.requires.told.2)) w.append-next.ensures))
    ]
