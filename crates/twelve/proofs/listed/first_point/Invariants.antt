-- `first_point` meets its contract: no date that it has passed has a point.
use Prim.Native.Nat.{ℕ, ◌≤◌, ◌<◌}
use mathlib.Core.Path.{◌≡◌}
use mathlib.Core.Bool.{false}
use Rattle.bydate.specs.Pointed.{is_marked}
use Rattle.twelve.proofs.listed.first_point.Given as goal

abbrev pub invariant-loop-date : goal.invariant-loop-date
invariant-loop-date l =
    (l.reach.from ≤ l.date) × ((d : ℕ) → l.reach.from ≤ d → d < l.date → is_marked l.reach.base l.table d ≡ false)
