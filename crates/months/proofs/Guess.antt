-- The month of a date by a first guess: it is the month or the one after it.
-- Assumes nothing.
use Prim.Native.Nat.{ℕ, ◌+◌, ◌-◌, ◌*◌, ◌/◌, ◌≤◌, ◌<◌}
use mathlib.Core.Path.{◌≡◌, sym, ap, ◌∙◌}
use mathlib.Core.Bool.{Bool}
use native.Mathlib.Omega.{arith}
use native.Mathlib.Nat.{le_trans, le_of_eq}
use lib.Dec.{eqb, eqb→eq}
use Rattle.gregorian.specs.Calendar.{is_leap, leap_day, month_length, days_to_month}
use Rattle.gregorian.proofs.Below.{at_below}
use Rattle.months.specs.Months.{month_number, first_day, january2000}
use Rattle.months.proofs.Laws.{month_within, from_month, before_month}
use Rattle.months.proofs.Table.{computed, first_computed, first_of_all, end_of_all}

-- the months of the dates in the range
pub months_in : (date : ℕ) → 10957 ≤ date → date ≤ 47481 → (january2000 ≤ month_number date) × (month_number date < january2000 + 1200)
months_in date h k = (from_month january2000 date (omega (arith, first_of_all)), before_month (january2000 + 1200) date (omega (arith, end_of_all)))

-- ---- the guess

-- as the code makes it: by the mean length of a month, 487 / 16 days, with two days more than have passed
abbrev pub guess : ℕ → ℕ
guess date = (date - 10955) * 16 / 487

-- at the first day of each month it is the month: a test that the checker computes
abbrev is_guessed : ℕ → Bool
is_guessed i = eqb (guess (computed (january2000 + i))) i

guessed : (i : ℕ) → i < 1201 → guess (first_day (january2000 + i)) ≡ i
unfolding days_to_month month_length leap_day is_leap
guessed i h = ap guess (first_computed (january2000 + i)) ∙ eqb→eq (guess (computed (january2000 + i))) i (at_below is_guessed 1201 tt i h)

-- and it never falls
guess_rises : (a b : ℕ) → a ≤ b → guess a ≤ guess b
guess_rises a b h = omega arith

pub guess_near : (date : ℕ) → 10957 ≤ date → date ≤ 47481 → (month_number date ≤ january2000 + guess date) × (january2000 + guess date ≤ month_number date + 1)
guess_near date h k =
    let r = months_in date h k in
    near (month_number date - january2000) (omega (arith, r)) (omega (arith, r)) (month_within date)
  where
    near : (i : ℕ) → i < 1200 → month_number date ≡ january2000 + i → (first_day (month_number date) ≤ date) × (date < first_day (month_number date + 1)) →
        (month_number date ≤ january2000 + guess date) × (january2000 + guess date ≤ month_number date + 1)
    near i l e w =
        let n : month_number date + 1 ≡ january2000 + (i + 1) = omega arith in
        let a : i ≤ guess date = le_trans (le_of_eq (sym (guessed i (omega arith)))) (guess_rises (first_day (january2000 + i)) date (omega (arith, w, ap first_day e))) in
        let b : guess date ≤ i + 1 = le_trans (guess_rises date (first_day (january2000 + (i + 1))) (omega (arith, w, ap first_day n))) (le_of_eq (guessed (i + 1) (omega arith))) in
        omega arith
