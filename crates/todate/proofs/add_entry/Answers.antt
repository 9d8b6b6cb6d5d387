-- `add_entry` meets its contract: one period a turn.
use native.Mathlib.Omega.{arith}
use Prim.Native.Nat.{◌*◌}
use mathlib.Core.Path.{refl, ◌∙◌}
use lib.IntN.{pos}
use lib.ListN.{length-set}
use Rattle.flat.proofs.Cells.{row_inside}
use Rattle.todate.proofs.Adding.{closed_none, closed_more, entered_all}
use Rattle.todate.proofs.add_entry.Goals as goal

pub loop-p-init : goal.loop-p-init
loop-p-init c = closed_none

pub add_to-requires : goal.add_to-requires
add_to-requires c =
    omega (arith, c.loop-p.invariant.changed.long, length-set c.args.figures.now (c.args.entry.period * 3) (pos 1), c.requires.1, row_inside 3 c.loop-p-test.true)

pub loop-p-preserved : goal.loop-p-preserved
loop-p-preserved c =
    closed_more c.loop-p.invariant c.add_to.ensures

pub shape_of-figures : goal.shape_of-figures
shape_of-figures c =
    c.loop-p.invariant.changed.long ∙ length-set c.args.figures.now (c.args.entry.period * 3) (pos 1)

pub returns : goal.returns
returns c =
    entered_all c.loop-p.invariant c.args.figures.now c.requires.1 c.requires.0 refl c.loop-p-test.false
