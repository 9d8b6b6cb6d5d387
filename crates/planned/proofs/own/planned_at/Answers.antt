-- `planned_at` meets its contract: the span and the budget are read at the activity's places.
use Prim.Native.Nat.{◌*◌}
use mathlib.Core.Path.{ap, ◌∙◌}
use native.Mathlib.Nat.{mul-le-mul_right}
use native.Mathlib.Omega.{arith}
use borrow.Author.Rules.{rules}
use lib.IntN.{ℤ}
use mir.Syntax.{w64}
use Rattle.integer.specs.Linear.{back}
use Rattle.baseline.specs.Listed.{first_at, last_at, number_at}
use Rattle.tree.specs.Figures.{figure_of}
use Rattle.planned.specs.Values.{planned_by}
use Rattle.planned.proofs.own.planned_at.Goals as goal

pub overflow_mul-at : goal.overflow_mul-at
overflow_mul-at c = omega (arith, c.requires.are_tabled.most)

pub overflow_add-row : goal.overflow_add-row
overflow_add-row c = omega (arith, c.requires.are_tabled.most)

pub bounds-listed-at : goal.bounds-listed-at
bounds-listed-at c = omega (arith, c.requires.are_tabled.long)

-- the row begins within the table
pub overflow_mul-row : goal.overflow_mul-row
overflow_mul-row c =
    omega (arith, c.requires.are_tabled.wide, mul-le-mul_right c.args.width (c.requires.are_tabled.few c.args.i c.requires.i_in_bounds))

pub bounds-budgets-i : goal.bounds-budgets-i
bounds-budgets-i c = c.requires.i_in_bounds

pub bounds-listed-at-2 : goal.bounds-listed-at-2
bounds-listed-at-2 c = omega (arith, c.requires.are_tabled.long)

pub overflow_add-at : goal.overflow_add-at
overflow_add-at c = omega (arith, c.requires.are_tabled.most)

pub bounds-listed-at-3 : goal.bounds-listed-at-3
bounds-listed-at-3 c = omega (arith, c.requires.are_tabled.long)

pub planned_by-requires : goal.planned_by-requires
planned_by-requires c = c.requires.are_tabled.covers c.args.i c.requires.i_in_bounds

pub returns : goal.returns
returns c =
    let a = c.args in
    let l = a.listed.now in
    back w64 c.planned_by.result c.planned_by.type_inv
    ∙ c.planned_by.ensures
    ∙ ap (λ (z : ℤ). planned_by (number_at l a.i * a.width) a.base a.days.now a.date (first_at l a.i) (last_at l a.i) z) (back w64 (figure_of a.budgets.now a.i) (search rules))
