-- `take_lines` meets its contract: one line a turn.
use Rattle.format.specs.Codec.{alike}
use Rattle.format.specs.Format.{baseline_line}
use Rattle.calendar.proofs.Parts.{Reading}
use Rattle.baseline.proofs.Taking.{Taking}
use Rattle.baseline.proofs.lines.take_lines.Given as goal

abbrev pub invariant-loop : goal.invariant-loop
invariant-loop l =
    Reading (baseline_line l.activities) l.book l.end l.initial.next l.counter l.next × Taking l.last ((alike l.end (baseline_line l.activities)).read l.book l.initial.next).0 l.initial.out l.counter l.out
