-- `parts_priced` meets its contract: by its call.
use mathlib.Core.Path.{ap₂, ◌∙◌}
use mir.Syntax.{w64}
use mir.Facts.{to_z-of_z}
use Rattle.integer.specs.Linear.{back}
use Rattle.money.specs.Scale.{priced_at}
use Rattle.parts.proofs.parts_priced.Goals as goal

pub returns : goal.returns
returns c = back w64 _ c.priced.type_inv ∙ c.priced.ensures ∙ ap₂ priced_at (to_z-of_z c.ranges.units) (to_z-of_z c.ranges.price)
