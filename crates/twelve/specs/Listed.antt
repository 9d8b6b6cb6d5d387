-- The first and the last point of a table by date, and the months from the one to the other.
use Rattle.std.specs.Prelude.{ℕ, ◌+◌, ◌≤◌, ◌<◌, ◌≡◌, true, false, List, pos}
use Rattle.lists.specs.Lists.{span}
use Rattle.months.specs.Months.{january2000}
use Rattle.model.specs.TwelveMonths.{Monthly, month_sum, months}
use Rattle.bydate.specs.Pointed.{is_marked}
use Rattle.twelve.specs.declared.Reach.{Reach}
use Rattle.twelve.specs.declared.listed.Listed.{Listed}

-- a date of the reach has a point
pub record IsPoint (table : List ℕ) (reach : Reach) (date : ℕ) : Type 0 where
  pub from : reach.from ≤ date
  pub to : date ≤ reach.to
  pub here : is_marked reach.base table date ≡ true

-- no date before r has a point, and r has one, if it is of the reach
pub record IsFirst (table : List ℕ) (reach : Reach) (r : ℕ) : Type 0 where
  pub from : reach.from ≤ r
  pub none : (date : ℕ) → reach.from ≤ date → date < r → is_marked reach.base table date ≡ false
  pub here : r ≤ reach.to → is_marked reach.base table r ≡ true

-- r has a point, and no date after it
pub record IsLast (table : List ℕ) (reach : Reach) (r : ℕ) : Type 0 where
  pub point : IsPoint table reach r
  pub none : (date : ℕ) → r < date → date ≤ reach.to → is_marked reach.base table date ≡ false

-- the number of month k of those from `first` on
abbrev pub month_at : ℕ → ℕ → ℕ
month_at first k = january2000 + (first + k)

-- that of the month before month i of the table: December 1999 for month 0
abbrev pub month_before : ℕ → ℕ
month_before i = 143999 + i

-- nothing falls in a month before `first`
abbrev pub StartsAt : List Monthly → ℕ → Type 0
StartsAt xs first = (m : ℕ) → m < january2000 + first → month_sum xs m ≡ pos 0

abbrev pub listed_from : ℕ → ℕ → Listed
listed_from first count = record { first = first; count = count }

-- these are the months from the first to the last listed
pub record AreListed (xs : List Monthly) (r : Listed) : Type 0 where
  pub most : r.first + r.count ≤ 1200
  pub spanned : months xs ≡ span (january2000 + r.first) r.count
  pub starts : StartsAt xs r.first
