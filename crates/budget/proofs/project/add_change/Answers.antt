-- `add_change` meets its contract: whose the change is, then its status.
use mathlib.Core.Path.{◌≡◌, refl, sym, ap₂, ◌∙◌}
use mathlib.Core.Bool.{Bool, cond, ◌&&◌}
use lib.IntN.{ℤ}
use mir.Syntax.{w64}
use mir.Facts.{to_z-of_z}
use Rattle.integer.specs.Linear.{back}
use Rattle.format.specs.declared.ChangeStatus.TheVariants.{Approved}
use Rattle.records.specs.Decoded.{budget_change_of}
use Rattle.model.specs.Budgets.{same_status}
use Rattle.tree.specs.Figures.{saturating_add}
use borrow.Author.Rules.{rules}
use Rattle.budget.proofs.project.add_change.Goals as goal

-- what the two tests choose
chosen : {own status a b : Bool} (z w : ℤ) → own ≡ a → status ≡ b → cond (a && b) z w ≡ cond (own && status) z w
chosen z w e g = sym (ap₂ (λ (a b : Bool). cond (a && b) z w) e g)

pub returns-then-is_approved : goal.returns-then-is_approved
unfolding budget_change_of
returns-then-is_approved c =
    let sum = c.args.sum in
    let amount = c.args.change.amount in
    back w64 c.saturating_add.result c.saturating_add.type_inv
    ∙ c.saturating_add.ensures
    ∙ ap₂ saturating_add (to_z-of_z c.ranges.sum) (back w64 amount c.struct_told-1.given.1.0.1)
    ∙ chosen (saturating_add sum amount) sum (sym c.is_project.ensures ∙ c.if-is_project.true) (sym c.is_approved.ensures ∙ c.if-is_approved.true)

pub returns-else-is_approved : goal.returns-else-is_approved
unfolding budget_change_of
returns-else-is_approved c =
    let sum = c.args.sum in
    to_z-of_z c.ranges.sum
    ∙ chosen (saturating_add sum c.args.change.amount) sum (sym c.is_project.ensures ∙ c.if-is_project.true) (sym c.is_approved.ensures ∙ c.if-is_approved.false)

pub returns-else-is_project : goal.returns-else-is_project
unfolding budget_change_of
returns-else-is_project c =
    let sum = c.args.sum in
    to_z-of_z c.ranges.sum
    ∙ chosen (saturating_add sum c.args.change.amount) sum (sym c.is_project.ensures ∙ c.if-is_project.false) (refl {a = same_status c.args.change.status Approved})
