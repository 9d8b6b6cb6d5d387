-- `put_planned` meets its contract: one figure a turn.
use native.Mathlib.Omega.{arith}
use mathlib.Core.Path.{◌∙◌}
use mir.Syntax.{w64}
use Rattle.integer.specs.Linear.{back}
use Rattle.planned.proofs.Settling.{one_planned}
use Rattle.earned.proofs.Dating.{putting_none, putting_more, putting_end}
use Rattle.earned.proofs.dated.put_planned.Goals as goal

pub loop-i-init : goal.loop-i-init
loop-i-init c = putting_none _ _

pub planned_at-figure-requires : goal.planned_at-figure-requires
planned_at-figure-requires c = record { are_tabled = c.requires.are_tabled; i_in_bounds = c.loop-i-test.true }

pub loop-i-preserved : goal.loop-i-preserved
loop-i-preserved c =
    putting_more c.loop-i.invariant (omega (arith, c.loop-i-test.true, c.requires.out_len)) _ (back w64 c.planned_at-figure.result c.planned_at-figure.type_inv ∙ c.planned_at-figure.ensures)

pub shape_of-out : goal.shape_of-out
shape_of-out c = c.loop-i.invariant.long

pub returns : goal.returns
returns c =
    λ book d m. putting_end c.loop-i.invariant book c.args.date m (one_planned d c.args.date) (omega (arith, c.loop-i-test.false, c.requires.out_len, m.long))

pub overflow_add-width : goal.overflow_add-width
overflow_add-width c = omega (arith, c.requires.from_bound.1)

pub overflow_sub-width : goal.overflow_sub-width
overflow_sub-width c = c.requires.from_bound.0

pub overflow_mul-figure : goal.overflow_mul-figure
overflow_mul-figure c = omega (arith, c.loop-i-test.true, c.requires.are_tabled.most)

pub overflow_add-figure : goal.overflow_add-figure
overflow_add-figure c = omega (arith, c.loop-i-test.true, c.requires.are_tabled.most)

pub offset_bounds-out-i : goal.offset_bounds-out-i
offset_bounds-out-i c = omega (arith, c.loop-i-test.true, c.requires.are_tabled.most)

pub bounds-out-i : goal.bounds-out-i
bounds-out-i c = omega (arith, c.loop-i-test.true, c.loop-i.invariant.long, c.requires.out_len)
