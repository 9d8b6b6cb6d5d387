-- `works_on_week` meets its contract: the weekday in closed form.
use Prim.Native.Nat.{ℕ, ◌+◌, ◌/◌, ◌%◌, ◌^◌, ◌<◌}
use mathlib.Core.Path.{◌≡◌, sym, ap}
use native.Mathlib.Omega.{arith}
use lib.Dec.{eqb}
use Rattle.gregorian.proofs.Below.{at_each}
use Rattle.dates.specs.Week.{named, index_of}
use Rattle.model.specs.Calendar.{works_on}
use Rattle.model.proofs.Calendar.{weekday_is}
use Rattle.calendar.proofs.usual.works_on_week.Goals as goal

index_named : (k : ℕ) → k < 7 → index_of (named k) ≡ k
index_named = at_each (λ (k : ℕ). index_of (named k) ≡ k) 7 (omega arith)

pub returns : goal.returns
unfolding works_on
returns c =
    let date = c.args.date in
    let week = c.args.week in
    rw (weekday_is date (omega arith)) (ap (λ (k : ℕ). eqb (week / 2 ^ k % 2) 1) (sym (index_named ((date + 3) % 7) (omega arith))))
