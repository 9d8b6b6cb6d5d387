-- `add_entry` meets its contract: one period a turn.
use Rattle.todate.proofs.Adding.{Closed}
use Rattle.todate.proofs.add_entry.Given as goal

abbrev pub invariant-loop-p : goal.invariant-loop-p
invariant-loop-p l = Closed l.finishes l.period l.entry.earned l.entry.actual l.p l.initial.figures l.figures
