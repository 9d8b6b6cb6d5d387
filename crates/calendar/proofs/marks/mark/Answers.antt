-- `mark` meets its contract: outside the table nothing is set.
use Prim.Native.Nat.{◌-◌}
use mathlib.Core.Path.{sym, ap}
use borrow.Author.Tests.{le-leb, lt-leb}
use lib.ListN.{set}
use lib.Seq.{set_out}
use Rattle.calendar.specs.Tables.{marked}
use Rattle.calendar.proofs.marks.mark.Goals as goal

pub returns-then-date-base : goal.returns-then-date-base
unfolding marked
returns-then-date-base c = rw (lt-leb c.args.base c.args.date c.if-date-base.true)

pub returns-then-i-days : goal.returns-then-i-days
unfolding marked
returns-then-i-days c =
    let s = c.args in
    rw (le-leb s.base s.date c.if-date-base.false) (ap (set s.days.now (s.date - s.base)) c.bit.ensures)

pub returns-else-i-days : goal.returns-else-i-days
unfolding marked
returns-else-i-days c =
    let s = c.args in
    rw (le-leb s.base s.date c.if-date-base.false) (sym (set_out _ _ _ c.if-i-days.false))
