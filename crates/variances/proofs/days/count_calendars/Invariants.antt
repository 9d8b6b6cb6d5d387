-- `count_calendars` meets its contract: one calendar a turn.
use mathlib.Core.Path.{◌≡◌}
use lib.ListN.{length}
use Rattle.format.specs.Codec.{alike}
use Rattle.format.specs.Format.{calendar}
use Rattle.calendar.proofs.Parts.{Reading}
use Rattle.variances.proofs.Dating.{Below}
use Rattle.variances.proofs.days.count_calendars.Given as goal

abbrev pub invariant-loop-k : goal.invariant-loop-k
invariant-loop-k l =
    Reading calendar l.book l.count l.initial.next l.k l.next
    × (length l.days ≡ length l.initial.days)
    × (length l.counts ≡ length l.initial.counts)
    × Below ((alike l.count calendar).read l.book l.initial.next).0 l.schedule l.initial.out l.k l.out
