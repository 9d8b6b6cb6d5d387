-- The days of the calendars in one table, row after row: a row lists its calendar's days.
use Prim.Native.Nat.{ℕ, ◌+◌, ◌*◌, ◌-◌, ◌≤◌, ◌<◌}
use mathlib.Core.Path.{◌≡◌, ap, ◌∙◌}
use mathlib.Core.List.{List}
use native.Mathlib.Omega.{arith}
use lib.Dec.{eqb}
use lib.ListN.{length, get_or}
use Rattle.format.specs.Book.{Calendar}
use Rattle.model.specs.Lookup.{no_calendar}
use Rattle.model.specs.Calendar.{is_working}
use Rattle.model.specs.Days.{working_days, or_alone, day_list}
use Rattle.calendar.specs.Tables.{ShowsAll}
use Rattle.laid.specs.Listed.{in_row, worked_between, listed_between}
use Rattle.laid.proofs.Dates.{keep_alike}
use Rattle.bydate.proofs.Pointing.{is_one}

module _ {calendars : List Calendar} {base end : ℕ} {days : List ℕ} (w : ShowsAll calendars base end days) (k : ℕ) (h : k < length calendars) (first last : ℕ) (f : base ≤ first) (t : last ≤ end) where
  -- a calendar's row of the table has its working dates
  pub row_worked : worked_between (k * (end + 1 - base)) base days first last ≡ working_days (get_or calendars k no_calendar) first last
  unfolding working_days
  row_worked =
      keep_alike (in_row (k * (end + 1 - base)) base days) (is_working (get_or calendars k no_calendar)) first last
      (λ d a b. ap (λ (n : ℕ). eqb n 1) (w.at k no_calendar h d (omega arith) (omega arith)) ∙ is_one (is_working (get_or calendars k no_calendar) d))

  -- and lists its days
  pub row_listed : listed_between (k * (end + 1 - base)) base days first last ≡ day_list (get_or calendars k no_calendar) first last
  unfolding day_list
  row_listed = ap (or_alone first) row_worked
