-- The weekday of a date, without the years before it: what makes the definitions of the calendar quick to compute.
use Rattle.std.specs.Prelude.{Some}
use mathlib.Core.Path.{◌≡◌, ap}
use Prim.Native.Nat.{ℕ, ◌+◌, ◌%◌, ◌≤◌}
use native.Mathlib.Omega.{arith}
use borrow.Author.Tests.{le-leb}
use lib.IntN.{pos}
use Rattle.gregorian.specs.Count.{between, counted}
use Rattle.gregorian.specs.Calendar.{weekday_number}
use Rattle.dates.specs.Week.{named}
use Rattle.dates.specs.Date.{weekday_of}
use Rattle.dates.proofs.Counts.{epoch_is, is_day_lem}

-- 1 January 1970 was a Thursday; up to 31 December 9999
pub weekday_is : (date : ℕ) → date ≤ 2932896 → weekday_of (pos date) ≡ Some (named ((date + 3) % 7))
unfolding weekday_of between counted weekday_number
weekday_is date h =
    let e : (date + 4371953 + 5) % 7 ≡ (date + 3) % 7 = omega arith in
    rw (is_day_lem (pos date), le-leb date 2932896 h, epoch_is) (ap (λ (k : ℕ). Some (named k)) e)
