-- `vary_in` meets its contract: the schedule, the working days, the costs, then minutes and costs.
use native.Mathlib.Omega.{arith}
use mathlib.Core.Path.{refl}
use Rattle.format.specs.InRange.{InRange}
use Rattle.format.specs.Verdict.{content}
use Rattle.format.proofs.Theorems.{content_in_range}
use Rattle.tree.proofs.Figured.{rolled_long}
use Rattle.variances.proofs.Varying.{lines_tables, lines_dated, calendars_ranged, lines_named, days_are, days_tables, days_count, days_timed, rows_are}
use borrow.Author.Rules.{rules}
use Rattle.variances.proofs.vary_in.Goals as goal
use Rattle.variances.proofs.vary_in.Goals.{Start}

range : (s : Start) → InRange (content s.args.book.now)
range s = content_in_range s.args.book.now s.requires.plan_of.accepted

pub count_days-requires : goal.count_days-requires
count_days-requires c =
    let s = (goal.at.count_days-requires c).Start in
    let b = content s.args.book.now in
    let e = c.fill_schedule.ensures in
    let f = s.requires.out_value in
    record { every = calendars_ranged s.requires.plan_of; tables = lines_tables b _ e f; by_index = lines_named s.requires.plan_of e f; dated = lines_dated b _ e f (range s) }

pub settle_rows-requires : goal.settle_rows-requires
settle_rows-requires c =
    let s = (goal.at.settle_rows-requires c).Start in
    let b = content s.args.book.now in
    let e = c.fill_schedule.ensures in
    let days = days_are s.requires.plan_of e s.requires.out_value c.count_days.ensures in record {
      tables = (days_tables b _ e refl (range s) days, omega (arith, rolled_long b c.rolled_costs.ensures, days_count b _ e refl (range s) days));
      timed = days_timed b _ e refl (range s) days;
    }

pub returns : goal.returns
returns c =
    let s = (goal.at.returns c).Start in
    let e = c.fill_schedule.ensures in
    let days = days_are s.requires.plan_of e s.requires.out_value c.count_days.ensures in
    rows_are (content s.args.book.now) _ e refl (range s) days c.rolled_costs.ensures c.settle_rows.ensures
