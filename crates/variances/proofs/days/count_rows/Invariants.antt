-- `count_rows` meets its contract: one activity a turn.
use Rattle.variances.specs.Days.{dated_under, counted_between}
use Rattle.variances.proofs.Changing.{Changing}
use Rattle.variances.proofs.days.count_rows.Given as goal

abbrev pub invariant-loop-i : goal.invariant-loop-i
invariant-loop-i l =
    Changing 5 (dated_under (counted_between l.reach.from l.counts) l.schedule l.number) l.n l.initial.out l.i l.out
