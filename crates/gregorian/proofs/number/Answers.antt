-- `gregorian::number` meets its contract.
-- Assumes nothing.
use Prim.Native.Nat.{ℕ, suc, ◌-◌, ◌≤◌}
use mathlib.Core.Path.{◌≡◌, ◌∙◌, ap}
use native.Mathlib.Omega.{arith}
use Rattle.gregorian.specs.Calendar.{day_number}
use Rattle.gregorian.proofs.Laws.{valid}
use Rattle.gregorian.proofs.MarchYear.{month_most, number_early, number_late}
use Rattle.gregorian.proofs.number.Goals as goal

pub march-requires : goal.march-requires
march-requires c =
    let v = valid _ _ _ c.requires.day_value in
    omega (arith, month_most c.args.year c.args.month v.from_january v.to_december)

pub march-requires-else-month-le2 : goal.march-requires-else-month-le2
march-requires-else-month-le2 c =
    let v = valid _ _ _ c.requires.day_value in
    omega (arith, month_most c.args.year c.args.month v.from_january v.to_december)

back : (y : ℕ) → 1 ≤ y → suc (y - 1) ≡ y
back y h = omega arith

pub returns-then-month-le2 : goal.returns-then-month-le2
returns-then-month-le2 c =
    let v = valid _ _ _ c.requires.day_value in
    c.march.ensures ∙ number_early (c.args.year - 1) c.args.month c.args.day v.from_january c.if-month-le2.true
    ∙ ap (λ (y : ℕ). day_number y c.args.month c.args.day) (back c.args.year c.requires.le_year.0)

pub returns-else-month-le2 : goal.returns-else-month-le2
returns-else-month-le2 c =
    let v = valid _ _ _ c.requires.day_value in
    c.march-else-month-le2.ensures ∙ number_late c.args.year c.args.month c.args.day v.from_january v.to_december c.if-month-le2.false
