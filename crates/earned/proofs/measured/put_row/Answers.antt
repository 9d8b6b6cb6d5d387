-- `put_row` meets its contract: five figures set one behind the other.
use native.Mathlib.Omega.{arith}
use lib.IntN.{pos}
use lib.ListN.{length-set}
use mir.Facts.{to_z-of_z}
use borrow.Author.Rules.{rules}
use Rattle.earned.proofs.Measuring.{five_set}
use Rattle.earned.proofs.measured.put_row.Goals as goal

pub returns : goal.returns
returns c =
    let a = c.args in
    rw (to_z-of_z c.ranges.budget, to_z-of_z c.ranges.value, to_z-of_z c.ranges.actual, to_z-of_z c.ranges.remaining)
    (five_set a.out.now a.at a.budget (pos 0) a.value a.actual a.remaining)

pub slice_set_of-out : goal.slice_set_of-out
slice_set_of-out c = simp length-set (omega arith)

pub bounds-out-at-2 : goal.bounds-out-at-2
bounds-out-at-2 c = simp length-set (omega arith)

pub bounds-out-at-3 : goal.bounds-out-at-3
bounds-out-at-3 c = simp length-set (omega arith)
