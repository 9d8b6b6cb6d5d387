-- `walk_days` meets its contract: the dates up to the date, and those behind them, are all dates of the span.
use Prim.Native.Nat.{◌+◌, ◌-◌, ◌≤◌}
use mathlib.Core.Path.{◌∙◌}
use native.Mathlib.Omega.{arith}
use Rattle.laid.specs.Listed.{in_row}
use Rattle.laid.proofs.Dates.{dates_between_lem, most_between}
use Rattle.planned.proofs.Walking.{few_tested, walked_parts}
use Rattle.planned.proofs.walk.walk_days.Goals as goal
use Rattle.planned.proofs.walk.walk_days.Goals.{After-test_dates-early}

pub test_dates-early-requires : goal.test_dates-early-requires
test_dates-early-requires c =
    let p = c.requires in
    let until = c.min-until.ensures in
    record { start = p.start; reach = omega (arith, p.reach, until); latest = omega (arith, p.latest, until) }

-- no more work than are tested, and no more are tested than there are
early_most :
    (c : After-test_dates-early) → let early = c.test_dates-early.result in let first = c.args.first in
    (early.working ≤ early.tested) × (early.tested ≤ c.min-until.result + 1 - first)
early_most c =
    let a = c.args in
    let until = c.min-until.result in
    let n = dates_between_lem a.first until in
    rw c.test_dates-early.ensures (omega (arith, n, most_between (in_row a.row a.base a.days.now) a.first until), omega (arith, n))

pub overflow_add-first : goal.overflow_add-first
overflow_add-first c =
    omega (arith, c.ranges.first, c.requires.latest, early_most (goal.at.overflow_add-first c).After-test_dates-early, c.min-until.ensures)

pub test_dates-late-requires : goal.test_dates-late-requires
test_dates-late-requires c =
    let p = c.requires in
    let until = c.min-until.ensures in
    record { start = omega (arith, p.start); reach = omega (arith, p.reach, until); latest = omega (arith, p.latest, until) }

pub joined-requires : goal.joined-requires
joined-requires c =
    let a = c.args in
    let until = c.min-until in
    let early = c.test_dates-early in (
      few_tested a.row a.base a.days.now a.first until.result early.ensures (omega (arith, c.requires.latest, until.ensures)),
      few_tested a.row a.base a.days.now _ _ c.test_dates-late.ensures (omega (arith, c.requires.latest, until.ensures)),
    )

pub returns : goal.returns
returns c =
    let a = c.args in
    let until = c.min-until in
    c.joined.ensures
    ∙ walked_parts a.row a.base a.days.now a.date a.first a.last until.result until.ensures c.test_dates-early.ensures c.test_dates-late.ensures
