-- The dates of a month: up to its last one they have its first day, and after that a later one.
use Prim.Native.Nat.{ℕ, ◌+◌, ◌-◌, ◌≤◌, ◌<◌}
use mathlib.Core.Path.{◌≡◌, sym, ap, ◌∙◌}
use native.Mathlib.Omega.{arith}
use Rattle.months.specs.Months.{month_number, first_day, january2000}
use Rattle.months.proofs.Laws.{first_rises, month_start_lem, month_within, from_month, month_is, month_first}
use Rattle.model.specs.Months.{month_start}

-- the last day of a date's month
abbrev pub month_end : ℕ → ℕ
month_end date = first_day (month_number date + 1) - 1

module _ (date : ℕ) where
  pub start_is : month_start date ≡ first_day (month_number date)
  unfolding month_start
  start_is = month_start_lem date

  pub in_month_lem : date ≤ month_end date
  in_month_lem = omega (arith, month_within date)

pub same_month : (date d : ℕ) → date ≤ d → d ≤ month_end date → month_start d ≡ month_start date
same_month date d h l =
    let e = month_is (month_number date) d (omega (arith, month_within date)) (omega (arith, month_within date)) in
    start_is d ∙ ap first_day e ∙ sym (start_is date)

pub later_month : (date d : ℕ) → month_end date < d → month_start date < month_start d
later_month date d h =
    let n = from_month (month_number date + 1) d (omega (arith, month_within date)) in
    omega (arith, start_is date, start_is d, month_within date, first_rises (month_number date + 1) (month_number d) n)

-- a month by its place in the table: it is that of the date, and begins on `first`
pub record Here (date month first : ℕ) : Type 0 where
  pub number : january2000 + month ≡ month_number date
  pub begins : first ≡ month_start date

module _ {date month first : ℕ} (end : ℕ) (w : Here date month first) (e : end + 1 ≡ first_day (january2000 + month + 1)) where
  pub here_end : end ≡ month_end date
  here_end = omega (arith, e, ap (λ (m : ℕ). first_day (m + 1)) w.number)

  pub here_next : Here (end + 1) (month + 1) (end + 1)
  here_next =
      let m : january2000 + (month + 1) ≡ january2000 + month + 1 = omega arith in
      let n : january2000 + (month + 1) ≡ month_number (end + 1) = m ∙ sym (month_first (january2000 + month + 1) (omega arith)) ∙ ap month_number (sym e) in
      record { number = n; begins = e ∙ ap first_day (sym m ∙ n) ∙ sym (start_is (end + 1)) }
