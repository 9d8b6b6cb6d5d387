-- `line_at` meets its contract: the figures of the account's row.
use mathlib.Core.Path.{refl, ap₂, ◌∙◌}
use mir.Syntax.{w64}
use mir.Facts.{to_z-of_z}
use Rattle.integer.specs.Linear.{back}
use Rattle.tree.specs.Figures.{saturating_add}
use Rattle.ledger.specs.Lines.{line_of, line_in}
use Rattle.ledger.proofs.lines.line_at.Goals as goal

pub returns : goal.returns
unfolding line_of line_in
returns c =
    let planned = c.figure-3 in
    let distributed = c.figure-2 in
    let proposed = c.saturating_add in
    let original = c.figure in
    let pending = c.figure-pending in
    let current = c.current-current in
    let now = back w64 current.result current.type_inv ∙ current.ensures in
    rw (
      back w64 original.result original.type_inv ∙ original.ensures,
      now,
      back w64 proposed.result proposed.type_inv ∙ proposed.ensures ∙ ap₂ saturating_add now (back w64 pending.result pending.type_inv ∙ pending.ensures),
      back w64 distributed.result distributed.type_inv ∙ distributed.ensures,
      back w64 planned.result planned.type_inv ∙ planned.ensures,
      to_z-of_z c.ranges.scheduled,
      c.account_number-k.ensures.0,
    ) refl
