-- `reach` meets its contract: one row a turn.
use native.Mathlib.Omega.{arith}
use Rattle.flat.proofs.Cells.{row_inside}
use Rattle.variances.proofs.Reaching.{takes_none, takes_more, takes_end}
use Rattle.variances.proofs.stretch.reach.Goals as goal

pub loop-i-init : goal.loop-i-init
loop-i-init c = takes_none c.requires.bounded

pub overflow_mul-i : goal.overflow_mul-i
overflow_mul-i c = omega (arith, row_inside c.args.width c.loop-i-test.true)

pub overflow_add-i : goal.overflow_add-i
overflow_add-i c = omega (arith, row_inside c.args.width c.loop-i-test.true)

pub offset_bounds-table-i : goal.offset_bounds-table-i
offset_bounds-table-i c = omega (arith, row_inside c.args.width c.loop-i-test.true)

pub bounds-table-i : goal.bounds-table-i
bounds-table-i c = omega (arith, row_inside c.args.width c.loop-i-test.true)

pub loop-i-preserved : goal.loop-i-preserved
loop-i-preserved c = takes_more c.loop-i.invariant c.loop-i-test.true c.requires.are_dates c.widen-wide.ensures

pub returns : goal.returns
returns c = takes_end c.loop-i.invariant c.loop-i-test.false
