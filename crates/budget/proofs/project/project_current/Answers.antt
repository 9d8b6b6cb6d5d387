-- `project_current` meets its contract: its own budget, and the approved changes.
use mathlib.Core.Path.{refl, ap₂, ◌∙◌}
use mir.Syntax.{w64}
use Rattle.integer.specs.Linear.{back}
use Rattle.model.specs.Budgets.{current_of}
use Rattle.tree.specs.Figures.{saturating_add}
use Rattle.budget.proofs.Accepted.{plan_budgets, plan_log}
use borrow.Author.Rules.{rules}
use Rattle.budget.proofs.project.project_current.Goals as goal

pub project_original-original-requires : goal.project_original-original-requires
project_original-original-requires c = record { budgets = plan_budgets c.requires.plan_of c.requires.ledger_of; marks_value = refl }

pub project_changes-changed-requires : goal.project_changes-changed-requires
project_changes-changed-requires c = plan_log c.requires.plan_of c.requires.ledger_of

pub returns : goal.returns
unfolding current_of
returns c =
    let changed = c.project_changes-changed in
    let original = c.project_original-original in
    back w64 c.saturating_add.result c.saturating_add.type_inv
    ∙ c.saturating_add.ensures
    ∙ ap₂ saturating_add (back w64 original.result original.type_inv ∙ original.ensures) (back w64 changed.result changed.type_inv ∙ changed.ensures)
