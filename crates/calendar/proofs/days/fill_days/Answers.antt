-- `fill_days` meets its contract: the week and the region, overlaid with the calendar's lists.
use native.Mathlib.Omega.{arith}
use Rattle.sections.specs.Sections.{calendar_of}
use Rattle.calendar.proofs.Overlays.{shows_working}
use Rattle.calendar.proofs.days.fill_days.Goals as goal

pub returns : goal.returns
unfolding calendar_of
returns c =
    shows_working (calendar_of c.args.book.now c.args.calendar) c.requires.calendar_in_range c.args.from c.args.to
    (omega (arith, c.fill_usual.auto.days))
    c.fill_usual.ensures
    c.overlay_days.ensures
    c.overlay_days-2.ensures
    c.overlay_exceptions.ensures
