-- `lay_plan` meets its contract: the days of the calendars, then the leaves' budgets over their spans.
use native.Mathlib.Omega.{arith}
use Rattle.planned.proofs.Reaching.{reach_calendars, reach_tabled}
use Rattle.curve.proofs.Curving.{asked_planned}
use borrow.Author.Rules.{rules}
use Rattle.curve.proofs.lay_plan.Goals as goal

pub fill_all-requires : goal.fill_all-requires
fill_all-requires c =
    let s = c.requires in
    record { to_bound = s.asked.reached.covers.most; from_in_bounds = s.known_in_bounds; every = reach_calendars s.asked.reached }

pub overflow_add-width : goal.overflow_add-width
overflow_add-width c = omega (arith, c.requires.asked.reached.covers.most)

pub overflow_sub-width : goal.overflow_sub-width
overflow_sub-width c = omega (arith, c.requires.asked.reached.covers.ahead)

pub lay_leaves-requires : goal.lay_leaves-requires
lay_leaves-requires c =
    let s = c.requires in
    reach_tabled s.asked.reached (omega (arith, s.known_in_bounds, c.fill_all.auto.days))

pub returns : goal.returns
returns c =
    let s = c.requires in
    asked_planned s.asked (omega (arith, s.known_in_bounds, c.fill_all.auto.days)) c.fill_all.ensures c.lay_leaves.ensures
