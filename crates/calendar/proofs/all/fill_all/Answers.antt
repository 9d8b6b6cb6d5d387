-- `fill_all` meets its contract: each calendar that is read has its part.
use Prim.Native.Nat.{◌+◌, ◌*◌, ◌-◌, ◌≤◌}
use mathlib.Core.Path.{◌≡◌, refl, ◌∙◌, subst}
use native.Mathlib.Omega.{arith}
use lib.ListN.{length, get_or}
use Rattle.format.specs.Codec.{alike}
use Rattle.format.specs.Book.{Calendar}
use Rattle.format.specs.Format.{calendar}
use Rattle.format.specs.InRange.{CalendarInRange}
use Rattle.sections.specs.Sections.{elements, alike_in, calendar_of}
use Rattle.calendar.proofs.Parts.{part_length, part_kept, parts_room, shown_none, shown_more, read_length, reading_none, reading_is, reading_more}
use Rattle.calendar.proofs.all.fill_all.Goals as goal
use Rattle.calendar.proofs.all.fill_all.Goals.{After-read_calendar-calendar}

pub returns-then-to-from : goal.returns-then-to-from
returns-then-to-from c = record { at = λ k x h date f t. absurd (omega arith) }

pub loop-i-init : goal.loop-i-init
loop-i-init c =
    let s = c.args in
    let all = ((alike s.calendars.count calendar).read s.book.now s.calendars.first).0 in
    (reading_none _ _ _ _, refl, shown_none all s.from s.to s.days.now)

-- the next part is within the table
room : (c : After-read_calendar-calendar) →
    c.loop-i.i * (c.args.to + 1 - c.args.from) + (c.args.to + 1 - c.args.from) ≤ length c.loop-i.days
room c =
    let l = c.loop-i in
    omega (arith, l.invariant.1, parts_room (c.args.to + 1 - c.args.from) c.loop-i-test.true)

pub overflow_mul-at : goal.overflow_mul-at
overflow_mul-at c = omega (arith, room (goal.at.overflow_mul-at c).After-read_calendar-calendar)

pub overflow_add-at : goal.overflow_add-at
overflow_add-at c = omega (arith, room (goal.at.overflow_add-at c).After-read_calendar-calendar)

pub slice_bounds-fill_days-end : goal.slice_bounds-fill_days-end
slice_bounds-fill_days-end c = omega (arith, room (goal.at.slice_bounds-fill_days-end c).After-read_calendar-calendar)

-- the calendar that is read is the next one of the list
is_next : (c : After-read_calendar-calendar) (d : Calendar) →
    get_or (alike_in calendar c.args.book.now c.args.calendars) c.loop-i.i d ≡ calendar_of c.args.book.now c.read_calendar-calendar.result
unfolding elements
is_next c d = reading_is calendar _ _ _ c.loop-i.invariant.0 c.loop-i-test.true c.read_calendar-calendar.ensures d

pub fill_days-requires : goal.fill_days-requires
unfolding elements
fill_days-requires c =
    let l = c.loop-i in
    let s = c.args in
    let x = calendar_of s.book.now c.read_calendar-calendar.result in
    let r = room (goal.at.fill_days-requires c).After-read_calendar-calendar in
    record {
      to_bound = c.requires.to_bound;
      from_in_bounds = omega (arith, part_length l.days (l.i * (s.to + 1 - s.from)) (s.to + 1 - s.from) r);
      calendar_in_range =
          subst (λ (y : Calendar). CalendarInRange y) (is_next (goal.at.fill_days-requires c).After-read_calendar-calendar x)
          (c.requires.every l.i x (omega (arith, read_length calendar s.book.now s.calendars.count s.calendars.first)));
    }

pub loop-i-preserved : goal.loop-i-preserved
unfolding elements
loop-i-preserved c =
    let l = c.loop-i in
    let s = c.args in
    let width = s.to + 1 - s.from in
    let before = l.i * width in
    let all = ((alike s.calendars.count calendar).read s.book.now s.calendars.first).0 in
    let now = (goal.at.loop-i-preserved c).After-read_calendar-calendar in
    let r = room now in
    let ys = c.fill_days.new.days in
    let long = c.fill_days.auto.days ∙ part_length l.days before width r in (
      reading_more calendar _ _ _ l.invariant.0 c.loop-i-test.true c.read_calendar-calendar.ensures,
      part_kept l.days ys before width r long ∙ l.invariant.1,
      shown_more all s.from s.to l.i before l.days ys _ (calendar_of s.book.now c.read_calendar-calendar.result) refl (omega (arith, r)) long
          (is_next now) c.fill_days.ensures l.invariant.2,
    )

pub returns : goal.returns
unfolding elements
returns c =
    let l = c.loop-i in
    let s = c.args in
    record { at = λ k x h date f t. l.invariant.2 k x (omega (arith, c.loop-i-test.false, read_length calendar s.book.now s.calendars.count s.calendars.first)) date f t }
