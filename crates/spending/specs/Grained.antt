-- Points by day, by month or by twelve months: their rows, and what is answered with them.
use Rattle.std.specs.Prelude.{ℕ, Bool, true, List, map}
use Rattle.model.specs.Amounts.{Dated}
use Rattle.model.specs.TwelveMonths.{monthly, twelve_months_of, are_words}
use Rattle.answers.specs.Rows.{Rows, point_row, twelve_row}
use Rattle.answers.specs.Calls.{PutsIf}
use Rattle.bydate.specs.Months.{by_month}
use Rattle.spending.specs.declared.asked.Grain.{Grain}
use Rattle.spending.specs.declared.asked.Grain.TheVariants.{Day, Month, TwelveMonths}
use Rattle.answers.specs.Reply.{Reply}
use Rattle.format.specs.declared.Reason.TheVariants.{SumOutOfRange}

-- the points as they are, those of the months, each from its first day, or the sums of twelve months
unfoldable pub rows_by : Grain → List Dated → Rows
rows_by Day xs = map point_row xs
rows_by Month xs = map point_row (by_month xs)
rows_by TwelveMonths xs = map twelve_row (twelve_months_of (monthly xs))

-- these are numbers of 64 bits
unfoldable pub are_held : Grain → List Dated → Bool
are_held Day xs = true
are_held Month xs = true
are_held TwelveMonths xs = are_words (monthly xs)

-- r is answered with them where `out` is lent, and `after` is left in it
abbrev pub Writes : Grain → List Dated → List ℕ → Reply → List ℕ → Type 0
Writes grain xs out r after = PutsIf (are_held grain xs) SumOutOfRange (rows_by grain xs) out r after
