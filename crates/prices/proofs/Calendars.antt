-- Where a table counts a calendar's working dates, the dates at which it goes up make the calendar's day lists.
use Prim.Native.Nat.{ℕ, ◌≤◌}
use mathlib.Core.Path.{◌≡◌, ap}
use mathlib.Core.List.{List}
use Rattle.format.specs.Book.{Calendar}
use Rattle.model.specs.Calendar.{is_working}
use Rattle.model.specs.Days.{or_alone, day_list}
use Rattle.calendar.specs.Tables.{Counts}
use Rattle.calendar.proofs.Spans.{counts_working}
use Rattle.prices.specs.Span.{rises_between}

pub rises_listed :
    (c : Calendar) (lo hi : ℕ) (counts : List ℕ) → Counts (is_working c) lo hi counts → (first last : ℕ) → lo ≤ first → last ≤ hi →
    or_alone first (rises_between lo counts first last) ≡ day_list c first last
unfolding day_list
rises_listed c lo hi counts t first last a b = ap (or_alone first) (counts_working c lo hi counts t first last a b)
