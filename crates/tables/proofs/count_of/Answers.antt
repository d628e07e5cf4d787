-- The goals of `count_of` that are left: see Invariants.antt for the idea.
use Rattle.std.proofs.Common.{◌≡◌, ◌≤◌, sym, rules, arith}
use Rattle.finite.specs.Range.{children}
use Rattle.finite.proofs.Tests.{not_same}
use Rattle.finite.proofs.Count.{count_zero, children_start, children_turn, children_done}
use Rattle.tables.proofs.Passes.{entries_many, entry_is}
use Rattle.tables.proofs.count_of.Goals as goal

pub loop-p-init : goal.loop-p-init
loop-p-init c = (omega arith, children_start _ _)

pub overflow_add-count : goal.overflow_add-count
overflow_add-count c = let e = entries_many c.args.n c.args.parents.now c.requires c.told-parents in
    omega (arith, e, c.requires, c.loop-p.invariant.0, c.loop-p-test.true, c.one_if-count.ensures.1)

pub loop-p-preserved : goal.loop-p-preserved
loop-p-preserved c = let e = entries_many c.args.n c.args.parents.now c.requires c.told-parents in
    let i = c.loop-p.invariant in
    (omega (arith, i.0, c.one_if-count.ensures.1), children_turn _ _ _ _ _ _ i.1 (entry_is c.args.n c.args.parents.now c.loop-p.p-index (omega (arith, e, c.loop-p-test.true))) c.one_if-count.ensures.0)

pub returns : goal.returns
returns c = let same_x : c.in-Ok.x ≡ c.args.x = search rules in
    let e = entries_many c.args.n c.args.parents.now c.requires c.told-parents in
    let within : c.loop-p.p-index ≤ c.args.n = omega (arith, e, c.loop-p.auto.p-index-end) in
    (rw (← same_x) (children_done _ _ c.args.n c.loop-p.p-index _ within (omega (arith, e, c.loop-p-test.false)) c.loop-p.invariant.1), omega (arith, within, c.loop-p.invariant.0))

pub returns-in_default : goal.returns-in_default
unfolding children
returns-in_default c = (sym (count_zero _ _ (λ v low high. not_same (λ e. let small = c.fits-parents v in c.in_default.ensures (omega (arith, small, e))))), omega arith)
