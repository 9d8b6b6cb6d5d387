-- `lay_expense` meets its contract, by how it accrues.
use mathlib.Core.Path.{sym, ap, ap₂, ◌∙◌}
use mathlib.Core.List.{[], ◌∷◌}
use Prim.Native.Nat.{ℕ}
use lib.IntN.{ℤ}
use mir.Facts.{to_z-of_z}
use Rattle.model.specs.Amounts.{on, spread_over}
use Rattle.model.specs.Costs.{accrued}
use Rattle.laid.specs.Listed.{worked_in, listed_in}
use Rattle.laid.proofs.Laying.{laid_same}
use Rattle.laid.proofs.Dealing.{listed_some}
use Rattle.spending.proofs.Pricing.{accrued_start, accrued_end}
use Rattle.spending.proofs.expenses.lay_expense.Goals as goal

pub returns-in-Start : goal.returns-in-Start
returns-in-Start c =
    let span = c.args.span in
    let dates = listed_in c.args.days.now span in
    laid_same
    (ap₂ (λ (d : ℕ) (z : ℤ). on d z ∷ []) c.first_listed-date.ensures (to_z-of_z c.ranges.amount)
    ∙ accrued_start c.args.amount dates (listed_some span.first (worked_in c.args.days.now span span.first span.last))
    ∙ sym (ap (accrued c.args.amount dates) c.in-Start.is))
    c.lay.ensures

pub returns-in-End : goal.returns-in-End
returns-in-End c =
    let span = c.args.span in
    let dates = listed_in c.args.days.now span in
    laid_same
    (ap₂ (λ (d : ℕ) (z : ℤ). on d z ∷ []) c.last_listed-date.ensures (to_z-of_z c.ranges.amount)
    ∙ accrued_end c.args.amount dates (listed_some span.first (worked_in c.args.days.now span span.first span.last))
    ∙ sym (ap (accrued c.args.amount dates) c.in-End.is))
    c.lay-in-End.ensures

pub returns-in-Uniform : goal.returns-in-Uniform
unfolding accrued
returns-in-Uniform c =
    let dates = listed_in c.args.days.now c.args.span in
    laid_same
    (ap (λ (z : ℤ). spread_over z dates) (to_z-of_z c.ranges.amount) ∙ sym (ap (accrued c.args.amount dates) c.in-Uniform.is))
    c.lay_spread.ensures
