-- `measure_rows` meets its contract: one row a turn.
use Prim.Native.Nat.{◌+◌, ◌*◌}
use native.Mathlib.Omega.{arith}
use mathlib.Core.Path.{refl, ap, sym, ◌∙◌}
use lib.IntN.{ℤ}
use lib.ListN.{length, get_or}
use mir.Syntax.{w64}
use Rattle.integer.specs.Linear.{back}
use Rattle.floats.specs.Figures.{earned_of}
use Rattle.tree.specs.Figures.{figure_of}
use Rattle.flat.proofs.Spans.{rows_none, rows_more, rows_end}
use Rattle.activities.proofs.Scheduling.{schedule_length}
use Rattle.baseline.specs.Listed.{if_leaf}
use Rattle.earned.specs.Done.{done_in}
use Rattle.earned.proofs.Measuring.{same_row, measured_is}
use Rattle.earned.proofs.measured.measure_rows.Goals as goal

pub parent_marks-parents-requires : goal.parent_marks-parents-requires
parent_marks-parents-requires c = omega arith

pub loop-i-init : goal.loop-i-init
loop-i-init c = (c.requires.schedule_len.3, rows_none 5 _ (λ i. refl) _ _ c.requires.schedule_len.3)

pub leaf_earned-value-requires : goal.leaf_earned-value-requires
leaf_earned-value-requires c =
    record { i_in_bounds = (omega arith, omega arith); minutes = c.requires.by_index c.loop-i.i c.loop-i-test.true }

pub leaf_cost-actual-requires : goal.leaf_cost-actual-requires
leaf_cost-actual-requires c = omega arith

pub leaf_cost-remaining-requires : goal.leaf_cost-remaining-requires
leaf_cost-remaining-requires c = omega arith

pub put_row-requires : goal.put_row-requires
put_row-requires c = omega (arith, c.loop-i.invariant.0)

pub loop-i-preserved : goal.loop-i-preserved
loop-i-preserved c =
    let a = c.args in
    let i = c.loop-i.i in
    let budget = back w64 (figure_of a.budgets.now i) c.budget-1.given in (
      c.out-1.given ∙ c.loop-i.invariant.0,
      rows_more 5 _ (λ j. refl) _ c.loop-i.invariant.1 c.loop-i-test.true (omega arith)
          (c.put_row.ensures
          ∙ same_row c.loop-i.out (i * 5) budget
          (back w64 c.leaf_earned-value.result c.leaf_earned-value.type_inv
          ∙ c.leaf_earned-value.ensures
          ∙ ap (λ (z : ℤ). if_leaf (get_or c.parent_marks-parents.result i 0) (earned_of z (done_in a.technique a.schedule.now i (figure_of a.units.now (i * 2)) (figure_of a.units.now (i * 2 + 1))))) budget)
          (back w64 c.leaf_cost-actual.result c.leaf_cost-actual.type_inv ∙ c.leaf_cost-actual.ensures) (back w64 c.leaf_cost-remaining.result c.leaf_cost-remaining.type_inv ∙ c.leaf_cost-remaining.ensures)),
    )

pub shape_of-out : goal.shape_of-out
shape_of-out c = c.loop-i.invariant.0 ∙ sym c.requires.schedule_len.3

pub returns : goal.returns
returns c =
    λ book r t e u k g.
    rows_end 5 _ (λ i. refl) _ c.loop-i.invariant.1 c.loop-i-test.false
    ∙ measured_is book r c.args.technique t e u k g c.parent_marks-parents.result (c.parent_marks-parents.ensures book e) (length c.args.budgets.now) (omega (arith, schedule_length book e, c.requires.schedule_len.0))

pub offset_bounds-budgets-i : goal.offset_bounds-budgets-i
offset_bounds-budgets-i c = omega arith

pub bounds-budgets-i : goal.bounds-budgets-i
bounds-budgets-i c = omega arith

pub offset_bounds-parents-i : goal.offset_bounds-parents-i
offset_bounds-parents-i c = omega arith

pub bounds-parents-i : goal.bounds-parents-i
bounds-parents-i c = omega arith

pub offset_bounds-parents-i-in-loop-i : goal.offset_bounds-parents-i-in-loop-i
offset_bounds-parents-i-in-loop-i c = omega arith

pub bounds-parents-i-in-loop-i : goal.bounds-parents-i-in-loop-i
bounds-parents-i-in-loop-i c = omega arith

pub overflow_mul-i : goal.overflow_mul-i
overflow_mul-i c = omega arith

pub overflow_add-i : goal.overflow_add-i
overflow_add-i c = omega arith

pub offset_bounds-parents-i-in-loop-i-2 : goal.offset_bounds-parents-i-in-loop-i-2
offset_bounds-parents-i-in-loop-i-2 c = omega arith

pub bounds-parents-i-in-loop-i-2 : goal.bounds-parents-i-in-loop-i-2
bounds-parents-i-in-loop-i-2 c = omega arith

pub overflow_mul-i-in-loop-i : goal.overflow_mul-i-in-loop-i
overflow_mul-i-in-loop-i c = omega arith

pub overflow_add-i-in-loop-i : goal.overflow_add-i-in-loop-i
overflow_add-i-in-loop-i c = omega arith

pub overflow_mul-i-in-loop-i-2 : goal.overflow_mul-i-in-loop-i-2
overflow_mul-i-in-loop-i-2 c = omega arith
