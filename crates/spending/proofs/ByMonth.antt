-- All the spending falls on the dates of a book, so that what is asked between the first and the last of them is all.
use Prim.Native.Nat.{ℕ, ◌≤◌}
use mathlib.Core.Path.{◌≡◌, ap, ap₂, ◌∙◌}
use mathlib.Core.Bool.{true, ◌&&◌}
use mathlib.Core.List.Memᴰ
use native.Mathlib.Omega.{arith}
use borrow.Author.Tests.{le-leb}
use Rattle.format.specs.Book.{Book}
use Rattle.format.specs.InRange.{InRange}
use Rattle.model.specs.Lookup.{no_activity, activity_at}
use Rattle.model.specs.Calendar.{calendar_of}
use Rattle.model.specs.Days.{planned_days, days_of}
use Rattle.model.specs.Amounts.{Dated, is_between, is_charged}
use Rattle.model.specs.Costs.{budget_by_day, spending, spending_between}
use Rattle.model.specs.Months.{spending_by_month}
use Rattle.lists.proofs.Lists.{keep_all}
use Rattle.model.proofs.Days.{day_list_within}
use Rattle.model.proofs.Points.{all_dates, spending_within}
use Rattle.answers.specs.Rows.{spending_by_month_rows}
use Rattle.bydate.specs.Months.{by_month}
use Rattle.spending.specs.declared.asked.Grain.TheVariants.{Month}
use Rattle.spending.specs.Grained.{rows_by}
use Rattle.spending.proofs.Within.{budget_day}

module _ (book : Book) (range : InRange book) where
  charged_date : (d : ℕ) → is_charged (budget_by_day book) d ≡ true → (10957 ≤ d) × (d ≤ 47481)
  unfolding days_of planned_days
  charged_date d =
      budget_day d book
      (λ i h m.
      let a = activity_at book i in
      let dates = range.activities i no_activity h in
      let within = day_list_within (calendar_of book a) a.early_start a.early_finish d m in
      (omega (arith, within.0, dates.early_start.first), omega (arith, within.1, dates.early_start.last, dates.early_finish.last)))

  pub spending_dates : spending_between book 10957 47481 ≡ spending book
  unfolding spending
  spending_dates =
      let xs = budget_by_day book in
      spending_within book 10957 47481
      ∙ keep_all (is_between 10957 47481) (spending book)
      (λ x m.
      let w = charged_date x.day ((all_dates xs x.day).0 (Memᴰ.map (λ (y : Dated). y.day) m)) in
      ap₂ ◌&&◌ (le-leb 10957 x.day w.0) (le-leb x.day 47481 w.1))

  -- by month it is the spending by month
  pub spending_months_lem : rows_by Month (spending_between book 10957 47481) ≡ spending_by_month_rows book
  unfolding rows_by by_month spending_by_month spending_by_month_rows
  spending_months_lem = ap (rows_by Month) spending_dates
