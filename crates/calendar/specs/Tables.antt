-- Tables over a stretch of dates: which dates work, and running counts of them.
use Rattle.std.specs.Prelude.{ℕ, ◌+◌, ◌*◌, ◌-◌, ◌≤◌, ◌<◌, ◌≡◌, Bool, true, false, not, cond, ◌&&◌, List, [], ◌∷◌, eqb, leb, ltb, pos, negsuc, length, get_or, set, Option, Some, None, ℤ}
use Rattle.format.specs.declared.Region.{Region}
use Rattle.format.specs.Book.{Calendar}
use Rattle.dates.specs.Date.{weekday_of}
use Rattle.lists.specs.Lists.{span, keep}
use Rattle.model.specs.Calendar.{is_region_holiday, works_on, is_working}

-- the week, where no holiday of the region falls on the date
abbrev pub usual : ℕ → Region → ℕ → Bool
usual week region date = not (is_region_holiday region date) && works_on week (weekday_of (pos date))

-- a date's entry in a table whose first date is the base
abbrev pub entry : ℕ → List ℕ → ℕ → ℕ
entry base table date = get_or table (date - base) 0

abbrev pub one : Bool → ℕ
one true = 1
one false = 0

-- ---- tables of days: 1 where the date works, 0 where not

-- the table, from its first date on, says what p says of each date up to another, both included
pub record Shows (p : ℕ → Bool) (from to : ℕ) (days : List ℕ) : Type 0 where
  pub at : (date : ℕ) → from ≤ date → date ≤ to → entry from days date ≡ one (p date)

-- what a table says of a date
abbrev pub works : ℕ → List ℕ → ℕ → Bool
works base days date = eqb (entry base days date) 1

-- the table with one date set; a date outside it sets nothing
unfoldable pub marked : ℕ → ℕ → Bool → List ℕ → List ℕ
marked base date working days = cond (leb base date) (set days (date - base) (one working)) days

-- the table with one day set as not worked
unfoldable pub freed : ℕ → List ℕ → Option ℤ → List ℕ
freed base days None = days
freed base days (Some (negsuc n)) = days
freed base days (Some (pos date)) = marked base date false days

-- the table with the date of each element set, in their order
unfoldable pub overlaid : {A : Type 0} → ℕ → (A → ℕ) → (A → Bool) → List A → List ℕ → List ℕ
overlaid base day working [] days = days
overlaid base day working (x ∷ xs) days = overlaid base day working xs (marked base (day x) (working x) days)

-- ---- tables of running counts

-- from the table's first date on, at each date up to the one after another, how many dates before it p keeps
pub record Counts (p : ℕ → Bool) (from to : ℕ) (counts : List ℕ) : Type 0 where
  pub at : (date : ℕ) → from ≤ date → date ≤ to + 1 → entry from counts date ≡ length (keep p (span from (date - from)))

-- the dates at which a table of counts goes up
abbrev pub steps : ℕ → List ℕ → ℕ → Bool
steps base counts date = ltb (entry base counts date) (entry base counts (date + 1))

-- where it goes up, it goes up by one, and it never goes down
pub record Rises (base from to : ℕ) (counts : List ℕ) : Type 0 where
  pub by : (date : ℕ) → from ≤ date → date ≤ to → entry base counts (date + 1) ≡ entry base counts date + one (steps base counts date)

-- ---- the days of many calendars

-- calendar after calendar, each from one date to another: what it says of each date
pub record ShowsAll (calendars : List Calendar) (from to : ℕ) (days : List ℕ) : Type 0 where
  pub at :
      (k : ℕ) (c : Calendar) → k < length calendars → (date : ℕ) → from ≤ date → date ≤ to →
      get_or days (k * (to + 1 - from) + (date - from)) 0 ≡ one (is_working (get_or calendars k c) date)
