-- `put_numbers` meets its contract: one figure a turn.
use Rattle.flat.proofs.Mapped.{Mapped}
use Rattle.money.specs.Words.{bits}
use Rattle.rows.proofs.put_numbers.Given as goal

abbrev pub invariant-loop-i : goal.invariant-loop-i
invariant-loop-i l = Mapped bits l.figures l.i l.out
