-- `settle_row` meets its contract: by whether there is a line.
use Prim.Native.Nat.{◌+◌, ◌*◌}
use native.Mathlib.Omega.{arith}
use mathlib.Core.Path.{refl, ap₂, ◌∙◌}
use lib.IntN.{ℤ}
use lib.ListN.{get_or, length-set}
use mir.Syntax.{w64}
use Rattle.integer.specs.Linear.{back}
use Rattle.money.specs.Words.{bits}
use Rattle.tree.specs.Figures.{figure_of}
use Rattle.variances.specs.Completion.{cost_by}
use Rattle.variances.proofs.Settling.{row_settled, row_unlined}
use Rattle.variances.proofs.completion.settle_row.Goals as goal

pub returns-then-out-at-eq0 : goal.returns-then-out-at-eq0
returns-then-out-at-eq0 c =
    let a = c.args in
    row_unlined a.schedule.now a.costs.now a.out.now a.i c.if-out-at-eq0.true

pub bounds-out-at-5 : goal.bounds-out-at-5
bounds-out-at-5 c =
    simp length-set (omega (arith, c.requires.i_in_bounds.2))

pub returns : goal.returns
returns c =
    let a = c.args in
    let figures = a.costs.now in
    let spent = back w64 (figure_of figures (a.i * 3 + 1)) c.spent-1.given in
    let left = back w64 (figure_of figures (a.i * 3 + 2)) c.left-1.given in
    row_settled a.schedule.now figures a.out.now a.i c.requires.i_in_bounds.2 c.if-out-at-eq0.false c.duration-minutes.ensures
    (c.cost-amount.ensures ∙ ap₂ (λ (x y : ℤ). bits (cost_by (get_or a.out.now (a.i * 5 + 4) 0) x y)) spent left) refl
