-- `month_at` meets its contract: the guess is the month or the one after it, and the table says which.
use Prim.Native.Nat.{◌+◌, ◌<◌}
use native.Mathlib.Omega.{arith}
use Rattle.months.specs.Months.{month_number, january2000}
use Rattle.months.proofs.Laws.{from_month, before_month}
use Rattle.months.proofs.Guess.{months_in, guess, guess_near}
use Rattle.months.proofs.month_at.Goals as goal
use Rattle.months.proofs.month_at.Goals.{Then-date-first_day}

pub returns-then-guess-eq1200 : goal.returns-then-guess-eq1200
returns-then-guess-eq1200 c = let (h, k) = c.requires.1 in omega (arith, c.if-guess-eq1200.true, guess_near _ h k, months_in _ h k)

-- before the guessed month
early : (c : Then-date-first_day) → month_number c.args.date < january2000 + guess c.args.date
early c = let date = c.args.date in before_month (january2000 + guess date) date (omega (arith, c.if-date-first_day.true, c.first_day.ensures))

pub overflow_sub-result : goal.overflow_sub-result
overflow_sub-result c = let (h, k) = c.requires.1 in omega (arith, early (goal.at.overflow_sub-result c).Then-date-first_day, months_in _ h k)

pub returns-then-date-first_day : goal.returns-then-date-first_day
returns-then-date-first_day c = let (h, k) = c.requires.1 in omega (arith, early (goal.at.returns-then-date-first_day c).Then-date-first_day, guess_near _ h k, months_in _ h k)

pub returns : goal.returns
returns c =
    let date = c.args.date in
    let (h, k) = c.requires.1 in
    let late = from_month (january2000 + guess date) date (omega (arith, c.if-date-first_day.false, c.first_day.ensures)) in
    omega (arith, late, guess_near _ h k, months_in _ h k)
