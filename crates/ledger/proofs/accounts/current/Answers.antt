-- `current` meets its contract: two figures.
use mathlib.Core.Path.{ap₂, ◌∙◌}
use mir.Syntax.{w64}
use Rattle.integer.specs.Linear.{back}
use Rattle.tree.specs.Figures.{saturating_add}
use Rattle.ledger.proofs.accounts.current.Goals as goal

pub returns : goal.returns
returns c =
    let approved = c.figure-approved in
    let original = c.figure-original in
    back w64 c.saturating_add.result c.saturating_add.type_inv
    ∙ c.saturating_add.ensures
    ∙ ap₂ saturating_add (back w64 original.result original.type_inv ∙ original.ensures) (back w64 approved.result approved.type_inv ∙ approved.ensures)
