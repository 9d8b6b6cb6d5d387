-- `add_assignments` meets its contract: one assignment a turn.
use Rattle.format.specs.Codec.{alike}
use Rattle.format.specs.Format.{assignment}
use Rattle.calendar.proofs.Parts.{Reading}
use Rattle.earned.proofs.Adding.{Adding}
use Rattle.earned.proofs.units.add_assignments.Given as goal

abbrev pub invariant-loop : goal.invariant-loop
invariant-loop l =
    Reading (assignment l.activities l.resources) l.book l.count l.initial.next l.counter l.next × Adding ((alike l.count (assignment l.activities l.resources)).read l.book l.initial.next).0 l.activities l.counter l.out
