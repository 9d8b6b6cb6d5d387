-- `test_dates` meets its contract: what is left to find, with what is found, is all.
use mathlib.Core.Path.{sym, ap, ap₂, ◌∙◌}
use mathlib.Core.Bool.{true, false}
use Prim.Native.Nat.{ℕ, ◌≤◌}
use native.Mathlib.Omega.{arith}
use lib.ListN.{length}
use Rattle.laid.specs.Listed.{in_row}
use Rattle.laid.proofs.Dates.{dates_between_lem, none_left, count_first, most_between}
use Rattle.laid.proofs.days.test_dates.Goals as goal
use Rattle.laid.proofs.days.test_dates.Goals.{else-is_working, then-is_working}

pub loop-date-init : goal.loop-date-init
loop-date-init c = (omega arith, omega arith, omega arith)

pub is_working-requires : goal.is_working-requires
is_working-requires c = omega (arith, c.requires.start, c.requires.reach)

pub overflow_add-working : goal.overflow_add-working
overflow_add-working c =
    omega (arith, c.requires.latest, most_between (in_row c.args.row c.args.base c.args.days.now) c.args.first c.args.last, c.loop-date.invariant.2)

pub overflow_add-tested : goal.overflow_add-tested
overflow_add-tested c =
    omega (arith, c.requires.latest, c.loop-date.invariant.1)

pub loop-date-preserved : goal.loop-date-preserved
loop-date-preserved c =
    let l = c.loop-date in
    let p = in_row c.args.row c.args.base c.args.days.now in
    let is = c.is_working.ensures in
    let test : l.date ≤ c.args.last = omega arith in
    elim c.if-is_working.branch [ then-is_working w ↦ (omega (arith, l.invariant.0), omega (arith, l.invariant.1), omega (arith, w.working-is, l.invariant.2, count_first p l.date c.args.last true test (sym is ∙ w.if-is_working.true))) | else-is_working w ↦ (omega (arith, l.invariant.0), omega (arith, l.invariant.1), omega (arith, w.working-is, l.invariant.2, count_first p l.date c.args.last false test (sym is ∙ w.if-is_working.false))) ]

pub returns : goal.returns
returns c =
    let l = c.loop-date in
    let p = in_row c.args.row c.args.base c.args.days.now in
    ap₂ (λ (t w : ℕ). record { tested = t; working = w })
    (omega (arith, l.invariant.1, dates_between_lem c.args.first c.args.last))
    (omega (arith, l.invariant.2, ap length (none_left p l.date c.args.last (omega arith))))
