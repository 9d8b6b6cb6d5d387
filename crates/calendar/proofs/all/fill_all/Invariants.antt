-- `fill_all` meets its contract: each calendar that is read has its part.
use mathlib.Core.Path.{◌≡◌}
use lib.ListN.{length}
use Rattle.format.specs.Codec.{alike}
use Rattle.format.specs.Format.{calendar}
use Rattle.calendar.proofs.Parts.{Shown, Reading}
use Rattle.calendar.proofs.all.fill_all.Given as goal

abbrev pub invariant-loop-i : goal.invariant-loop-i
invariant-loop-i l =
    Reading calendar l.book l.i-end l.initial.next l.i l.next
    × (length l.days ≡ length l.initial.days)
    × Shown ((alike l.i-end calendar).read l.book l.initial.next).0 l.from l.to l.i l.days
