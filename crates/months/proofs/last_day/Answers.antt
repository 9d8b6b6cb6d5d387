-- `last_day` meets its contract: the day before the next month's first day.
use mathlib.Core.Path.{◌≡◌, sym, ap, ◌∙◌}
use Prim.Native.Nat.{◌+◌}
use native.Mathlib.Omega.{arith}
use Rattle.months.specs.Months.{first_day, january2000}
use Rattle.months.proofs.Table.{end_of_all, first_least}
use Rattle.months.proofs.last_day.Goals as goal

pub returns-then-i-eq1199 : goal.returns-then-i-eq1199
returns-then-i-eq1199 c =
    let e : january2000 + 1200 ≡ january2000 + c.args.i + 1 = omega (arith, c.if-i-eq1199.true) in
    sym end_of_all ∙ ap first_day e

pub overflow_sub-result : goal.overflow_sub-result
overflow_sub-result c = omega (arith, c.first_day.ensures, first_least (january2000 + (c.args.i + 1)) (omega arith))

pub returns : goal.returns
returns c =
    let i = c.args.i in
    let e : january2000 + (i + 1) ≡ january2000 + i + 1 = omega arith in
    omega (arith, c.first_day.ensures, first_least (january2000 + (i + 1)) (omega arith), ap first_day e)
