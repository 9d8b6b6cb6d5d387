-- `dates::weekday` meets its contract.
-- Assumes nothing.
use Rattle.std.specs.Prelude.{Some}
use Prim.Native.Nat.{ℕ, ◌+◌, ◌%◌}
use mathlib.Core.Path.{◌≡◌, ap, ◌∙◌}
use mathlib.Core.Bool.{true}
use native.Mathlib.Omega.{arith}
use mir.Facts.{to_z-of_z}
use Rattle.gregorian.specs.Calendar.{weekday_number}
use Rattle.dates.specs.Week.{named}
use Rattle.dates.specs.Date.{is_day, day_count, weekday_of}
use Rattle.gregorian.proofs.Counts.{tested}
use Rattle.dates.proofs.Counts.{day_within}
use Rattle.dates.proofs.weekday.Goals as goal
use Rattle.dates.proofs.weekday.Goals.{After-count_day, Else-not-is_day}

-- what the calls answer
is_day_lem : (c : Else-not-is_day) → is_day c.args.days ≡ true
is_day_lem c = tested is_day c.ranges.days c.is_day.ensures c.if-not-is_day.false

count : (c : After-count_day) → c.count_day.result ≡ day_count c.args.days
count c = c.count_day.ensures ∙ ap day_count (to_z-of_z c.ranges.days)

pub returns-then-not-is_day : goal.returns-then-not-is_day
unfolding weekday_of
returns-then-not-is_day c = rw (tested is_day c.ranges.days c.is_day.ensures c.if-not-is_day.true)

pub count_day-requires : goal.count_day-requires
count_day-requires c = ap is_day (to_z-of_z c.ranges.days) ∙ is_day_lem (goal.at.count_day-requires c).Else-not-is_day

pub overflow_add-count_day : goal.overflow_add-count_day
overflow_add-count_day c = let w = day_within _ (is_day_lem (goal.at.overflow_add-count_day c).Else-not-is_day) in omega (arith, count (goal.at.overflow_add-count_day c).After-count_day, w.upto)

pub returns : goal.returns
unfolding weekday_of weekday_number
returns c =
    rw (is_day_lem (goal.at.returns c).Else-not-is_day) (ap Some (c.at.ensures ∙ ap (λ (n : ℕ). named ((n + 5) % 7)) (count (goal.at.returns c).After-count_day)))
