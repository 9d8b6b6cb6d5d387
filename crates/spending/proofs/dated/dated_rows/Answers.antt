-- `dated_rows` meets its contract: by the smallest tables that are enough.
use native.Mathlib.Omega.{arith}
use Rattle.book.proofs.Plan.{calendars_most}
use Rattle.spending.proofs.Asking.{asked_plan, short_days, full_dates}
use Rattle.spending.proofs.dated.dated_rows.Goals as goal

pub overflow_add-asked : goal.overflow_add-asked
overflow_add-asked c = let a = c.requires.asked in omega (arith, a.covers.ahead, a.covers.most)

pub sized_rows-requires : goal.sized_rows-requires
sized_rows-requires c =
    let s = c.requires in
    record { asked = s.asked; charged = s.charged; room = (short_days s.asked 256 (omega (arith, c.if-asked.true)), omega (arith, c.if-asked.true)); most = (omega arith, omega arith) }

pub fits_small-requires : goal.fits_small-requires
fits_small-requires c = let a = c.requires.asked in (a.covers.ahead, a.covers.most, calendars_most (asked_plan a))

pub sized_rows-requires-then-fits_small : goal.sized_rows-requires-then-fits_small
sized_rows-requires-then-fits_small c =
    let s = c.requires in
    let small = c.fits_small.ensures c.if-fits_small.true in
    record { asked = s.asked; charged = s.charged; room = (small.days, omega (arith, small.dates)); most = (omega arith, omega arith) }

pub sized_rows-requires-2 : goal.sized_rows-requires-2
sized_rows-requires-2 c =
    let s = c.requires in
    let dates = full_dates s.asked in
    record { asked = s.asked; charged = s.charged; room = (short_days s.asked 36525 dates, omega (arith, dates)); most = (omega arith, omega arith) }
