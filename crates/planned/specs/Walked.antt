-- The walk over the dates of a span, by a row of the table of days.
use Rattle.std.specs.Prelude.{ℕ, ◌+◌, ◌≤◌, cond, List, eqb, leb, length}
use Rattle.model.specs.declared.DayWalk.{DayWalk}
use Rattle.model.specs.Days.{dates_between}
use Rattle.model.specs.Walk.{counts_of}
use Rattle.calendar.specs.Tables.{one}
use Rattle.laid.specs.declared.days.Tested.{Tested}
use Rattle.laid.specs.Listed.{listed_between}

-- the listed days of the span, those of them up to the date, and the dates tested
unfoldable pub walked_in : ℕ → ℕ → List ℕ → ℕ → ℕ → ℕ → DayWalk
walked_in row base days date first last = counts_of date (listed_between row base days first last) (length (dates_between first last))

-- ---- in two stretches, the second behind the first

-- what both found: of the days those of the first stretch are up to the date
abbrev pub both_of : Tested → Tested → DayWalk
both_of early late = record { listed = early.working + late.working; up_to = early.working; tested = early.tested + late.tested }

-- where no date works, the first is listed alone
abbrev pub or_first : ℕ → ℕ → DayWalk → DayWalk
or_first date first w = cond (eqb w.listed 0) record { listed = 1; up_to = one (leb first date); tested = w.tested } w

-- as many as there are dates, at the most
pub record Few (t : Tested) : Type 0 where
  pub tested : t.tested ≤ 47482
  pub working : t.working ≤ 47482
