-- The points of a table by date between two dates, by month.
use Rattle.std.specs.Prelude.{ℕ, ◌*◌, ◌^◌, ◌≤◌, List, ℤ, nat_abs}
use Rattle.integer.specs.Sums.{ints, total}
use Rattle.model.specs.Amounts.{Dated, amounts}
use Rattle.model.specs.TwelveMonths.{Monthly, monthly}
use Rattle.bydate.specs.Pointed.{points_in, Reaches}
use Rattle.twelve.specs.declared.Reach.{Reach}

-- the table has each date of the reach, which are dates of a book
pub record HasReach (table : List ℕ) (reach : Reach) : Type 0 where
  pub reaches : Reaches reach.base table reach.from reach.to
  pub least : 10957 ≤ reach.from

abbrev pub points_of : List ℕ → Reach → List Dated
points_of table reach = points_in reach.base table reach.from reach.to

abbrev pub monthly_in : List ℕ → Reach → List Monthly
monthly_in table reach = monthly (points_of table reach)

-- amounts added up without bound
abbrev pub exact_sum : List Dated → ℤ
exact_sum xs = total ints (amounts xs)

-- at most n times what the points of a table may come to: 47,482 numbers of 64 bits add up to less than 2^79
unfoldable pub IsWithin : ℕ → ℤ → Type 0
IsWithin n z = nat_abs z ≤ n * 2 ^ 79
