-- `free_holidays` meets its contract: what is left of the years, taken off, leaves what all of them leave.
use mathlib.Core.Path.{◌≡◌}
use mathlib.Core.List.{foldl}
use lib.ListN.{length}
use Rattle.calendar.specs.Tables.{freed}
use Rattle.calendar.proofs.Freed.{holidays_up_to}
use Rattle.calendar.proofs.usual.free_holidays.Given as goal

abbrev pub invariant-loop-n : goal.invariant-loop-n
invariant-loop-n l =
    (length l.days ≡ length l.initial.days) × (foldl (freed l.from) l.days (holidays_up_to l.last l.n) ≡ foldl (freed l.from) l.initial.days (holidays_up_to l.last l.initial.n))
