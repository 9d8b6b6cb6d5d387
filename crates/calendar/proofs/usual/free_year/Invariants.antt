-- `free_year` meets its contract: what is left of the year's holidays, taken off, leaves what all of them leave.
use Prim.Native.Nat.{◌≤◌}
use mathlib.Core.Path.{◌≡◌}
use mathlib.Core.List.{foldl}
use lib.ListN.{length, drop}
use Rattle.holidays.specs.Year.{holidays_in}
use Rattle.calendar.specs.Tables.{freed}
use Rattle.calendar.proofs.usual.free_year.Given as goal

abbrev pub invariant-loop-k : goal.invariant-loop-k
invariant-loop-k l =
    (l.k ≤ 13) × (length l.days ≡ length l.initial.days) × (foldl (freed l.base) l.days (drop l.k (holidays_in l.year)) ≡ foldl (freed l.base) l.initial.days (holidays_in l.year))
