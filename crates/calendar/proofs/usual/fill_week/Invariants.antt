-- `fill_week` meets its contract: each date passed has its entry.
use Prim.Native.Nat.{ℕ, ◌≤◌, ◌<◌}
use mathlib.Core.Path.{◌≡◌}
use lib.IntN.{pos}
use lib.ListN.{length}
use Rattle.dates.specs.Date.{weekday_of}
use Rattle.model.specs.Calendar.{works_on}
use Rattle.calendar.specs.Tables.{entry, one}
use Rattle.calendar.proofs.usual.fill_week.Given as goal

abbrev pub invariant-loop-date : goal.invariant-loop-date
invariant-loop-date l =
    (length l.days ≡ length l.initial.days) × ((e : ℕ) → l.from ≤ e → e < l.date → entry l.from l.days e ≡ one (works_on l.week (weekday_of (pos e))))
