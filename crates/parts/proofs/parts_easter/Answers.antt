-- `parts_easter` meets its contract: by its two calls.
use mathlib.Core.Path.{ap, ◌∙◌}
use mir.Syntax.{w64}
use mir.Facts.{to_z-of_z}
use Rattle.integer.specs.Linear.{back}
use Rattle.computus.specs.Easter.{easter_of}
use Rattle.parts.specs.Numbers.{number_of}
use Rattle.parts.proofs.parts_easter.Goals as goal

pub returns : goal.returns
returns c =
    back w64 _ c.number.type_inv ∙ c.number.ensures ∙ ap number_of (c.easter.ensures ∙ ap easter_of (to_z-of_z c.ranges.year))
