-- `to_earn` meets its contract.
use mathlib.Core.Path.{ap₂, ◌∙◌}
use mir.Syntax.{w64}
use borrow.Author.Rules.{rules}
use Rattle.integer.specs.Linear.{back}
use Rattle.model.specs.Forecast.{less, to_earn}
use Rattle.forecast.proofs.to_earn.Goals as goal

pub returns : goal.returns
unfolding to_earn
returns c =
    let g = c.struct_told-2-1.given in
    let e = c.args.e in
    back w64 c.saturating_sub.result c.saturating_sub.type_inv ∙ c.saturating_sub.ensures
    ∙ ap₂ less (back w64 e.budget g.0.1) (back w64 e.earned g.1.1.0.1)
