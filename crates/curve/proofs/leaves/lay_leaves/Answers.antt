-- `lay_leaves` meets its contract: the loop keeps that with the activities that are left all are laid.
use mathlib.Core.Path.{ap}
use Prim.Native.Nat.{◌-◌}
use native.Mathlib.Omega.{arith}
use lib.IntN.{ℤ, pos}
use lib.ListN.{length, get_or}
use mir.Syntax.{w64}
use Rattle.integer.specs.Linear.{back}
use Rattle.model.specs.Amounts.{spread_over}
use Rattle.laid.specs.Listed.{listed_in}
use Rattle.laid.proofs.Laying.{Laying, laid_same}
use Rattle.planned.proofs.Tabling.{span_asked}
use Rattle.curve.specs.Budgeted.{budgets_laid}
use Rattle.curve.proofs.Planning.{laid_from, leaves_none, leaves_past, leaves_more, leaves_end, span_has}
use borrow.Author.Rules.{rules}
use Rattle.curve.proofs.leaves.lay_leaves.Goals as goal

pub loop-i-init : goal.loop-i-init
loop-i-init c = leaves_none _ _ _ _ _ _ _

pub bounds-marks-i : goal.bounds-marks-i
bounds-marks-i c = omega (arith, c.requires.most)

pub loop-i-preserved-then-marks-i-ne0 : goal.loop-i-preserved-then-marks-i-ne0
loop-i-preserved-then-marks-i-ne0 c =
    let s = c.args in
    leaves_past s.base s.width s.days.now s.marks.now s.listed.now s.budgets.now c.loop-i.invariant c.loop-i-test.true c.if-marks-i-ne0.true

pub overflow_mul-at : goal.overflow_mul-at
overflow_mul-at c = omega (arith, c.requires.most)

pub overflow_add-at : goal.overflow_add-at
overflow_add-at c = omega (arith, c.requires.most)

pub bounds-listed-at : goal.bounds-listed-at
bounds-listed-at c = omega (arith, c.requires.long)

pub bounds-listed-at-in-loop-i : goal.bounds-listed-at-in-loop-i
bounds-listed-at-in-loop-i c = omega (arith, c.requires.long)

pub overflow_add-at-in-loop-i : goal.overflow_add-at-in-loop-i
overflow_add-at-in-loop-i c = omega (arith, c.requires.most)

pub bounds-listed-at-in-loop-i-2 : goal.bounds-listed-at-in-loop-i-2
bounds-listed-at-in-loop-i-2 c = omega (arith, c.requires.long)

pub span_of-span-requires : goal.span_of-span-requires
span_of-span-requires c =
    let s = span_asked c.requires c.loop-i.i c.loop-i-test.true in
    record { calendar_bound = s.0; covers = s.1 }

pub bounds-budgets-i : goal.bounds-budgets-i
bounds-budgets-i c = omega arith

pub lay_spread-requires : goal.lay_spread-requires
lay_spread-requires c = span_has c.requires c.loop-i.i c.loop-i-test.true c.span_of-span.ensures

pub loop-i-preserved : goal.loop-i-preserved
loop-i-preserved c =
    let s = c.args in
    leaves_more s.base s.width s.days.now s.marks.now s.listed.now s.budgets.now c.loop-i.invariant c.loop-i-test.true c.if-marks-i-ne0.false c.span_of-span.ensures
    (laid_same
    (ap (λ (z : ℤ). spread_over z (listed_in s.days.now c.span_of-span.result)) (back w64 (get_or s.budgets.now c.loop-i.i (pos 0)) (search rules)))
    c.lay_spread.ensures)

pub shape_of-table : goal.shape_of-table
shape_of-table c = c.loop-i.invariant.long

pub returns : goal.returns
returns c =
    let s = c.args in
    leaves_end s.base s.width s.days.now s.marks.now s.listed.now s.budgets.now c.loop-i.invariant c.loop-i-test.false
