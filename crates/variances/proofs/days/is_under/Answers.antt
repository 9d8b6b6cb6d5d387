-- `is_under` meets its contract: both tests.
use native.Mathlib.Omega.{arith}
use mathlib.Core.Path.{sym, ap}
use mathlib.Core.Bool.{Bool, ◌&&◌}
use lib.Dec.{eqb}
use lib.ListN.{get_or}
use borrow.Author.Tests.{lt-ltb, le-ltb}
use Rattle.variances.specs.Changed.{row_of}
use Rattle.activities.specs.Schedule.{entry_at}
use Rattle.variances.proofs.Dating.{mark_at}
use Rattle.variances.proofs.days.is_under.Goals as goal

pub returns-then-out-i-eq0 : goal.returns-then-out-i-eq0
returns-then-out-i-eq0 c =
    let a = c.args in
    sym
    (ap (λ (b : Bool). b && eqb (entry_at a.schedule.now a.i 1) a.number)
    (le-ltb 0 (get_or (row_of 5 a.out.now a.i) 0 0) (omega (arith, mark_at a.out.now a.i, c.if-out-i-eq0.true))))

pub returns : goal.returns
returns c =
    let a = c.args in
    sym
    (ap (λ (b : Bool). b && eqb (entry_at a.schedule.now a.i 1) a.number)
    (lt-ltb 0 (get_or (row_of 5 a.out.now a.i) 0 0) (omega (arith, mark_at a.out.now a.i, c.if-out-i-eq0.false))))
