-- `count_calendars` meets its contract: one calendar a turn.
use native.Mathlib.Omega.{arith}
use mathlib.Core.Path.{◌≡◌, refl, ◌∙◌, subst}
use lib.ListN.{get_or}
use Rattle.format.specs.Book.{Calendar}
use Rattle.format.specs.Format.{calendar}
use Rattle.format.specs.InRange.{CalendarInRange}
use Rattle.sections.specs.Sections.{elements, alike_in, calendar_of}
use Rattle.model.specs.Lookup.{no_calendar}
use Rattle.calendar.proofs.Parts.{read_length, reading_none, reading_is, reading_more}
use Rattle.variances.proofs.Dating.{below_none, below_length, below_tables, below_reaches, below_more, below_all}
use Rattle.variances.proofs.days.count_calendars.Goals as goal
use Rattle.variances.proofs.days.count_calendars.Goals.{After-read_calendar-calendar}

pub loop-k-init : goal.loop-k-init
loop-k-init c = (reading_none _ _ _ _, refl, refl, below_none _ c.requires.tables)

is_next : (c : After-read_calendar-calendar) (d : Calendar) →
    get_or (alike_in calendar c.args.book.now c.args.list) c.loop-k.k d ≡ calendar_of c.args.book.now c.read_calendar-calendar.result
unfolding elements
is_next c d = reading_is calendar _ _ _ c.loop-k.invariant.0 c.loop-k-test.true c.read_calendar-calendar.ensures d

pub count_calendar-requires : goal.count_calendar-requires
unfolding elements
count_calendar-requires c =
    let loop = c.loop-k in
    let a = c.args in
    let x = calendar_of a.book.now c.read_calendar-calendar.result in
    record {
      calendar_in_range = subst CalendarInRange (is_next (goal.at.count_calendar-requires c).After-read_calendar-calendar x) (c.requires.every loop.k x (omega (arith, c.loop-k-test.true, read_length calendar a.book.now a.list.count a.list.first)));
      tables = below_tables loop.invariant.3;
      by_index = below_reaches loop.invariant.3 c.requires.by_index_2;
      bounded = (c.requires.bounded.0, record { days_room = omega (arith, c.requires.bounded.1.days_room, loop.invariant.1); counts_room = omega (arith, c.requires.bounded.1.counts_room, loop.invariant.2) });
    }

pub loop-k-preserved : goal.loop-k-preserved
unfolding elements
loop-k-preserved c =
    let loop = c.loop-k in (
      reading_more calendar _ _ _ loop.invariant.0 c.loop-k-test.true c.read_calendar-calendar.ensures,
      c.days-1.given ∙ loop.invariant.1,
      c.counts-1.given ∙ loop.invariant.2,
      below_more loop.invariant.3 (is_next (goal.at.loop-k-preserved c).After-read_calendar-calendar no_calendar) c.count_calendar.ensures,
    )

pub shape_of-days : goal.shape_of-days
shape_of-days c = c.loop-k.invariant.1

pub shape_of-counts : goal.shape_of-counts
shape_of-counts c = c.loop-k.invariant.2

pub shape_of-out : goal.shape_of-out
shape_of-out c = below_length c.loop-k.invariant.3

pub returns : goal.returns
unfolding elements
returns c =
    below_all c.loop-k.invariant.3 c.requires.by_index c.loop-k-test.false
