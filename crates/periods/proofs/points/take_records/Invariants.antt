-- `take_records` meets its contract: one record a turn.
use Rattle.format.specs.Codec.{alike}
use Rattle.format.specs.Format.{period_record}
use Rattle.calendar.proofs.Parts.{Reading}
use Rattle.periods.proofs.Recording.{Recorded}
use Rattle.periods.proofs.points.take_records.Given as goal

abbrev pub invariant-loop : goal.invariant-loop
invariant-loop l =
    Reading (period_record l.periods l.activities) l.book l.count l.initial.next l.counter l.next
    × Recorded l.marks l.finishes ((alike l.count (period_record l.periods l.activities)).read l.book l.initial.next).0 l.initial.figures l.counter l.figures
