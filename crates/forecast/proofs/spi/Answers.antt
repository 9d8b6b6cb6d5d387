-- `spi` meets its contract.
use mathlib.Core.Path.{ap₂, ◌∙◌}
use mir.Syntax.{w64}
use borrow.Author.Rules.{rules}
use Rattle.integer.specs.Linear.{back}
use Rattle.floats.specs.Figures.{ratio_of}
use Rattle.model.specs.Forecast as definition
use Rattle.forecast.proofs.spi.Goals as goal

pub returns : goal.returns
unfolding definition.spi
returns c =
    let g = c.struct_told-2-1.given in
    let e = c.args.e in
    c.ratio.ensures ∙ ap₂ ratio_of (back w64 e.earned g.1.1.0.1) (back w64 e.planned g.1.0.1)
