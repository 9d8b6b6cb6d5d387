-- `last_point` meets its contract: no date that it has passed has a point, and the first one has.
use Prim.Native.Nat.{ℕ, ◌+◌, ◌≤◌, ◌<◌}
use mathlib.Core.Path.{◌≡◌}
use mathlib.Core.Bool.{false}
use Rattle.bydate.specs.Pointed.{is_marked}
use Rattle.twelve.proofs.listed.last_point.Given as goal

abbrev pub invariant-loop-date : goal.invariant-loop-date
invariant-loop-date l =
    (l.first < l.date) × (l.date ≤ l.reach.to + 1) × ((d : ℕ) → l.date ≤ d → d ≤ l.reach.to → is_marked l.reach.base l.table d ≡ false)
