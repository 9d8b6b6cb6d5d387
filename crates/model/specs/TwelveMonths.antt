-- Twelve-month spending, for buyers who hold a yearly credit line: document 02, request 4. Sums are of whole numbers without bound.
use Rattle.std.specs.Prelude.{ℕ, ◌-◌, Bool, not, cond, ◌&&◌, List, map, eqb, leb, ltb, ℤ}
use Rattle.std.specs.Int.Signed.{le_z, lt_z}
use Rattle.format.specs.Book.{Book}
use Rattle.integer.specs.Sums.{ints, sum, total}
use Rattle.lists.specs.Lists.{any, span, keep}
use Rattle.months.specs.Months.{month_number, first_day, january2000}
use Rattle.money.specs.Exact.{is_word}
use Rattle.model.specs.Amounts.{Dated}
use Rattle.model.specs.Costs.{spending_between}

-- ---- amounts by month

-- an amount that falls in a month, by the month's number
pub record Monthly : Type 0 where
  pub month : ℕ
  pub amount : ℤ

abbrev pub falling : ℕ → ℤ → Monthly
falling m x = record { month = m; amount = x }

-- each point in the month of its day
unfoldable pub monthly : List Dated → List Monthly
monthly xs = map (λ (x : Dated). falling (month_number x.day) x.amount) xs

-- what falls in a month; 0 in one that is not listed
unfoldable pub month_sum : List Monthly → ℕ → ℤ
month_sum xs m = total ints (map (λ (x : Monthly). x.amount) (keep (λ (x : Monthly). eqb x.month m) xs))

-- a month's sum and those of the eleven before it
unfoldable pub twelve_sum : List Monthly → ℕ → ℤ
twelve_sum xs m = sum ints (λ (k : ℕ). month_sum xs (m - k)) 12

-- ---- the months from the first to the last listed

-- a listed month is not after it, and one is not before it
unfoldable pub is_spanned : List Monthly → ℕ → Bool
is_spanned xs m = any (λ (x : Monthly). leb x.month m) xs && any (λ (x : Monthly). leb m x.month) xs

-- of the 1,200 months that dates of a book fall in
unfoldable pub months : List Monthly → List ℕ
months xs = keep (is_spanned xs) (span january2000 1200)

-- ---- the largest sum

-- month k keeps month m from the mark: an earlier one by a sum as large, a later one by a larger sum
unfoldable pub outdoes : List Monthly → ℕ → ℕ → Bool
outdoes xs m k = cond (ltb k m) (le_z (twelve_sum xs m) (twelve_sum xs k)) (lt_z (twelve_sum xs m) (twelve_sum xs k))

-- it has the mark: none of the months keeps it from that
unfoldable pub is_largest : List Monthly → ℕ → Bool
is_largest xs m = not (any (outdoes xs m) (months xs))

-- ---- together

-- a month's first day, its twelve-month sum, and whether it has the mark
pub record TwelveMonths : Type 0 where
  pub first : ℕ
  pub sum : ℤ
  pub largest : Bool

unfoldable pub twelve_months_to : List Monthly → ℕ → TwelveMonths
twelve_months_to xs m = record { first = first_day m; sum = twelve_sum xs m; largest = is_largest xs m }

-- for each month from the first to the last listed
unfoldable pub twelve_months_of : List Monthly → List TwelveMonths
twelve_months_of xs = map (twelve_months_to xs) (months xs)

-- each of these sums is a number of 64 bits
unfoldable pub are_words : List Monthly → Bool
are_words xs = not (any (λ (m : ℕ). not (is_word (twelve_sum xs m))) (months xs))

-- ---- of a book

-- the points of `spending` over all dates
unfoldable pub spending_months : Book → List Monthly
spending_months book = monthly (spending_between book 10957 47481)

-- document 02's twelve-month spending
unfoldable pub twelve_months : Book → List TwelveMonths
twelve_months book = twelve_months_of (spending_months book)
