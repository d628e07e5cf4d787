-- The goals of `scan` that are left: see Invariants.antt for the idea.
use Rattle.std.proofs.Common.{rules, ◌≡◌, ◌+◌, ◌-◌, true, false, get_or, arith, below_more}
use Rattle.columns.specs.inner.Scans.{fitting}
use Rattle.columns.proofs.Scans.{blank_number, blank_fits, misfit, all_fit, turn_bound, scan_turn}
use Rattle.columns.proofs.scan.Goals as goal

pub loop-i-init : goal.loop-i-init
loop-i-init c = let a = c.args in
    record { small = search rules; worth = blank_number a.s.now a.at a.first (search rules) c.requires.2; fit = blank_fits a.s.now a.at a.first (search rules) c.requires.2 }

pub returns-then-not-fits : goal.returns-then-not-fits
returns-then-not-fits c = let l = c.loop-i in
    let a = c.args in
    let unfit : fitting (get_or a.s.now (a.at + l.i) 0) l.n (5 - l.i) ≡ false = search rules in
    misfit a.s.now a.at l.i (search rules) (rw l.invariant.worth at unfit)

pub loop-i-preserved : goal.loop-i-preserved
loop-i-preserved c = let l = c.loop-i in
    let a = c.args in
    let fit : fitting (get_or a.s.now (a.at + l.i) 0) l.n (5 - l.i) ≡ true = search rules in
    record {
      small = let t = turn_bound _ _ _ _ _ fit c.from.ensures (search rules) c.worth.ensures in omega arith;
      worth = scan_turn a.s.now a.at l.n l.i c.from.result c.worth.result (search rules) l.invariant.worth fit c.from.ensures c.worth.ensures;
      fit = below_more _ l.i l.invariant.fit (rw l.invariant.worth at fit);
    }

pub returns : goal.returns
returns c = let l = c.loop-i in
    let a = c.args in
    all_fit a.s.now a.at l.n l.i (search rules) (search rules) (search rules) l.invariant.worth l.invariant.fit
