-- `add_figure` meets its contract: one figure.
use Prim.Native.Nat.{◌+◌, ◌*◌}
use mathlib.Core.Path.{ap, ap₂, ◌∙◌}
use lib.ListN.{set}
use mir.Syntax.{w64}
use mir.Facts.{to_z-of_z}
use Rattle.integer.specs.Linear.{back}
use Rattle.tree.specs.Figures.{figure_of, saturating_add}
use Rattle.ledger.proofs.accounts.add_figure.Goals as goal

pub returns : goal.returns
returns c =
    let table = c.args.accounts.now in
    let at = c.args.k * 6 + c.args.j in
    ap (set table at)
    (back w64 c.saturating_add.result c.saturating_add.type_inv
    ∙ c.saturating_add.ensures
    ∙ ap₂ saturating_add (back w64 (figure_of table at) c.old-1.given) (to_z-of_z c.ranges.amount))
