-- `settle_rows` meets its contract: one activity a turn.
use native.Mathlib.Omega.{arith}
use mathlib.Core.Path.{sym, ◌∙◌}
use Rattle.flat.proofs.Cells.{row_inside}
use Rattle.variances.proofs.Changing.{changing_none, changing_room, changing_cell, changing_more, changing_end}
use Rattle.variances.proofs.completion.settle_rows.Goals as goal

pub loop-i-init : goal.loop-i-init
loop-i-init c = changing_none _ _ _ _ c.requires.tables.0.rows

pub settle_row-requires : goal.settle_row-requires
settle_row-requires c =
    let loop = c.loop-i in
    let h = c.loop-i-test.true in record {
      i_in_bounds = (omega (arith, c.requires.tables.0.scheduled, row_inside 13 h), omega (arith, c.requires.tables.1, row_inside 3 h), changing_room loop.invariant h);
      minutes = (omega (arith, changing_cell loop.invariant 3 (omega arith), c.requires.timed.lines loop.i h), c.requires.timed.working loop.i h);
    }

pub loop-i-preserved : goal.loop-i-preserved
loop-i-preserved c = changing_more c.loop-i.invariant c.settle_row.ensures

pub shape_of-out : goal.shape_of-out
shape_of-out c = c.loop-i.invariant.long ∙ sym c.requires.tables.0.rows

pub returns : goal.returns
returns c = changing_end c.loop-i.invariant c.loop-i-test.false
