-- The spending month by month, each from its first day.
use Rattle.std.specs.Prelude.{ℕ, ◌+◌, ◌-◌, List, map, pos}
use Rattle.format.specs.Book.{Book}
use Rattle.gregorian.specs.Calendar.{civil}
use Rattle.dates.specs.Date.{day_count}
use Rattle.model.specs.Amounts.{Dated, on, points}
use Rattle.model.specs.Costs.{spending}

-- the first day of a date's month
unfoldable pub month_start : ℕ → ℕ
month_start date = date + 1 - (civil (day_count (pos date))).day

-- an amount, put on the first day of its month
abbrev pub in_month : Dated → Dated
in_month x = on (month_start x.day) x.amount

-- each month that has a point, and what falls on its days, added up in date order
unfoldable pub spending_by_month : Book → List Dated
spending_by_month book = points (map in_month (spending book))
