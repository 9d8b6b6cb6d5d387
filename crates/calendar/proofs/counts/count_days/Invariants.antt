-- `count_days` meets its contract: n is the count before the date, and so is each entry passed.
use Prim.Native.Nat.{ℕ, ◌-◌, ◌≤◌, ◌<◌}
use mathlib.Core.Path.{◌≡◌}
use lib.ListN.{length}
use Rattle.lists.specs.Lists.{span, keep}
use Rattle.calendar.specs.Tables.{entry, works}
use Rattle.calendar.proofs.counts.count_days.Given as goal

abbrev pub invariant-loop-date : goal.invariant-loop-date
invariant-loop-date l =
    (length l.counts ≡ length l.initial.counts)
    × (l.n ≤ l.date - l.from)
    × (l.n ≡ length (keep (works l.from l.days) (span l.from (l.date - l.from))))
    × ((e : ℕ) → l.from ≤ e → e < l.date → entry l.from l.counts e ≡ length (keep (works l.from l.days) (span l.from (e - l.from))))
