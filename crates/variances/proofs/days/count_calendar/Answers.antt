-- `count_calendar` meets its contract: the table counts the calendar's working dates.
use native.Mathlib.Omega.{arith}
use mathlib.Core.Path.{◌∙◌}
use Rattle.sections.specs.Sections.{calendar_of}
use Rattle.model.specs.Variances.{working_between}
use Rattle.variances.proofs.Counting.{counted_in}
use Rattle.variances.proofs.Dating.{calendar_counted, calendar_unused}
use Rattle.variances.proofs.days.count_calendar.Goals as goal

pub count_rows-requires : goal.count_rows-requires
count_rows-requires c =
    let room = c.requires.bounded in record {
      tables = c.requires.tables;
      by_index = c.requires.by_index;
      counted =
          counted_in (calendar_of c.args.book.now c.args.calendar) c.fill_counts.ensures
          room.0.most (omega (arith, room.1.counts_room, c.counts-1.given));
    }

pub returns-then-is_used : goal.returns-then-is_used
returns-then-is_used c =
    let a = c.args in
    c.count_rows.ensures
    ∙ calendar_counted a.schedule.now a.out.now a.number (calendar_of a.book.now a.calendar) c.fill_counts.ensures c.requires.by_index

pub returns-else-is_used : goal.returns-else-is_used
returns-else-is_used c =
    let a = c.args in
    calendar_unused a.schedule.now a.out.now a.number (working_between (calendar_of a.book.now a.calendar)) c.requires.tables (c.is_used.ensures c.if-is_used.false)
