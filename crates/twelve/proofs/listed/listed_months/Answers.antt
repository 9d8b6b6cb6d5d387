-- `listed_months` meets its contract: the months of the first and the last point.
use native.Mathlib.Omega.{arith}
use Rattle.twelve.specs.Listed.{IsPoint}
use Rattle.twelve.proofs.Spanned.{months_order, are_listed, none_listed}
use Rattle.twelve.proofs.listed.listed_months.Goals as goal
use Rattle.twelve.proofs.listed.listed_months.Goals.{In-Some}

pub returns-in_default : goal.returns-in_default
returns-in_default c = none_listed _ _ c.in_default.ensures

-- the first point is one
begins : (c : In-Some) → IsPoint c.args.table.now c.args.reach c.in-Some.first
begins c =
    let first = c.in-Some.ensures in
    record { from = first.0.from; to = first.1; here = first.0.here first.1 }

pub last_point-last-requires : goal.last_point-last-requires
last_point-last-requires c = record { has_reach = c.requires.has_reach; point = begins (goal.at.last_point-last-requires c).In-Some }

pub month_at-month-requires : goal.month_at-month-requires
month_at-month-requires c =
    let w = c.requires in
    let p = begins (goal.at.month_at-month-requires c).In-Some in
    (w.days_value, omega (arith, w.has_reach.least, w.has_reach.reaches.latest, p.from, p.to))

pub month_at-requires : goal.month_at-requires
month_at-requires c =
    let w = c.requires in
    let p = c.last_point-last.ensures.point in
    (w.days_value, omega (arith, w.has_reach.least, w.has_reach.reaches.latest, p.from, p.to))

pub returns : goal.returns
returns c =
    are_listed c.in-Some.ensures.0 c.last_point-last.ensures (begins (goal.at.returns c).In-Some) _ _ c.month_at-month.ensures.month c.month_at.ensures.month c.month_at.ensures.below

pub first_point-requires : goal.first_point-requires
first_point-requires c = c.requires.has_reach

pub overflow_add-result : goal.overflow_add-result
overflow_add-result c = omega (arith, c.month_at.ensures.below)

pub overflow_sub-result : goal.overflow_sub-result
overflow_sub-result c =
    let p = begins (goal.at.overflow_sub-result c).In-Some in
    omega (arith, months_order c.in-Some.ensures.0 c.last_point-last.ensures p _ _ c.month_at-month.ensures.month c.month_at.ensures.month)
